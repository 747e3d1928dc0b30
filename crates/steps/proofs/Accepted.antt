-- An accepted flow with as many cells as its own and a schedule of its workers has all that demand 3 asks, by the rules that each row keeps. Tasks are numbered from 1, so their numbers differ, and operation 1 alone doesn't read b.
use mathlib.Core.Path.{◌≡◌, refl, sym, ap, subst, ◌∙◌}
use mathlib.Core.Bool.{Bool, true, false, ◌||◌, false≢true}
use mathlib.Core.List.{List}
use Prim.Native.Nat.{ℕ}
use borrow.Author.Tests.{not-false}
use lib.Dec.{eqb}
use Rattle.layout.specs.Flow.{Task, Flow, Operation}
use Rattle.layout.specs.Row.{mode_of, may_read, reads_a}
use Rattle.layout.specs.File.{file_answer, flow_of, check, checked_as, accepted}
use Rattle.roundtrip.specs.Sound.{Sound}
use Rattle.roundtrip.proofs.Theorems.{accepted_sound}
use Rattle.steps.specs.Operations.{becomes, effect}
use Rattle.steps.specs.Run.{setting_of}
use Rattle.steps.specs.Conflict.{no_task, task_at, names_cell, AllKeep, ReadsOnlyA, ReadsOnlyB}
use Rattle.steps.specs.Demand.{Given}
use Rattle.steps.proofs.Demand3.{Asked}
use Rattle.steps.proofs.Modes.{keeps_writes, keeps_reads_b, keeps_at}
use Rattle.steps.proofs.Naming.{unnamed_mode}

-- ---- a task that keeps the modes writes and reads what it declares

-- neither of two tests that fail together
or_neither : (x y : Bool) → (x || y) ≡ false → (x ≡ false) × (y ≡ false)
or_neither true y h = absurd (false≢true (sym h))
or_neither false y h = (refl, h)

-- a cell of mode 0 may not be read
mode_read : (w : Bool) → may_read 0 w ≡ true → ⊥
mode_read w h = false≢true h

-- so one that may be read is named
read_named : (task : Task) (cell : ℕ) (w : Bool) → may_read (mode_of task.accesses cell) w ≡ true → names_cell task cell ≡ true
read_named task cell w may = go (names_cell task cell) refl
  where
    go : (named : Bool) → names_cell task cell ≡ named → named ≡ true
    go true e = refl
    go false e = absurd (mode_read w (ap (λ (mode : ℕ). may_read mode w) (sym (unnamed_mode task.accesses cell e)) ∙ may))

-- ---- an accepted flow

keeps_of : (flow : Flow) → Sound flow → AllKeep flow.workers flow.cells flow.tasks
keeps_of flow sound =
    record {
      each_task = λ i h.
          let task = sound.each_task i no_task h in
          record {
            owned = task.owned;
            some_access = task.some_access;
            accesses_in_range = task.accesses_in_range;
            each_once = task.each_once;
            writes = λ j l. keeps_writes _ _ _ (keeps_at (task_at flow.tasks i) task.modes_kept j l);
            reads_named = λ j l reads. read_named (task_at flow.tasks i) _ _ (keeps_reads_b _ _ _ (keeps_at (task_at flow.tasks i) task.modes_kept j l) reads);
          };
    }

-- in a flow of any version, operations read b but for code 1
pub reads_only : (version : ℕ) → ReadsOnlyB (effect version)
unfolding becomes
reads_only version = record { but_b = λ o a b b' h. sets o a b (not-false (eqb o.code 1) h) ∙ sym (sets o a b' (not-false (eqb o.code 1) h)) }
  where
    sets : (o : Operation) (a b : ℕ) → eqb o.code 1 ≡ true → effect version o a b ≡ o.k
    sets o a b e = rw e

-- and a for codes 3, 4 and 6
pub reads_only_a : (version : ℕ) → ReadsOnlyA (effect version)
unfolding becomes
reads_only_a version = record { but_a = λ o a a' b h. without o a b h ∙ sym (without o a' b h) }
  where
    -- none of the three codes is the operation's
    without : (o : Operation) (a b : ℕ) → reads_a o.code ≡ false → effect version o a b ≡ effect version o 0 b
    without o a b h =
        let first = or_neither (eqb o.code 3 || eqb o.code 4) (eqb o.code 6) h in
        let second = or_neither (eqb o.code 3) (eqb o.code 4) first.0 in
        rw (second.0, second.1, first.1)

pub accepted_flow : (file : List ℕ) → (file_answer file).number ≡ 0 → check file ≡ accepted (flow_of file)
unfolding checked_as
accepted_flow file h = ap (λ (number : ℕ). checked_as number (file_answer file).place (flow_of file)) h

pub asked : (file cells schedule : List ℕ) → Given file cells schedule → Asked (setting_of (flow_of file)) (flow_of file).workers cells schedule
asked file cells schedule given =
    let sound : Sound (flow_of file) = accepted_sound file (flow_of file) (accepted_flow file given.accepted) in
    record {
      keep = subst (λ (n : ℕ). AllKeep (flow_of file).workers n (flow_of file).tasks) (sym given.start) (keeps_of (flow_of file) sound);
      modes = λ i l. (sound.each_task i no_task l).modes_kept;
      apart = record { apart = λ i j a b e. e };
      reads = reads_only (flow_of file).version;
      names = given.names;
    }
