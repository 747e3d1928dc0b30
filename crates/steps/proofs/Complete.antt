-- A task's operations come after all of its waits and before all of its ends. So a task that may make an operation has the cells that it names,
-- every earlier task in conflict with it has ended its access, and so has made all of its operations.
use mathlib.Core.Path.{◌≡◌, refl, sym, ap₂, ◌∙◌}
use mathlib.Core.Bool.{Bool, true, ◌||◌, false≢true}
use mathlib.Core.List.{List}
use Prim.Native.Nat.{ℕ, ◌-◌, ◌<◌, ◌≤◌, min}
use native.Mathlib.Omega.{arith}
use lib.ListN.{length}
use Rattle.layout.specs.Flow.{Task}
use Rattle.steps.specs.Machine.{Place, Machine}
use Rattle.steps.specs.Step.{Setting}
use Rattle.steps.specs.Conflict.{task_at, Conflict, AllKeep}
use Rattle.steps.proofs.Kind.{Kind, none, read, write, full}
use Rattle.steps.proofs.Naming.{kind_of, naming, writing, kind_names, kind_writes}
use Rattle.steps.proofs.OnCell.{waited}
use Rattle.steps.proofs.Sides.{wait_steps, ends_from, waits_made, ends_after}
use Rattle.steps.proofs.Protocol.{inv_order}
use Rattle.steps.proofs.Protocol.Words.{Acquired, InConflict}
use Rattle.steps.proofs.OwnMade.{own_made}
use Rattle.steps.proofs.Rows.{kinds}
use Rattle.steps.proofs.Seen.{seen}
use Rattle.steps.proofs.Invariant.{Kept}

-- the operations among the first own steps of a task
abbrev pub operations_among : Task → ℕ → ℕ
operations_among task k = min (k - wait_steps task) (length task.operations)

-- the operations that each task has made
abbrev pub operations_made : List Task → (ℕ → Place) → ℕ → ℕ
operations_made tasks places j = operations_among (task_at tasks j) (own_made tasks places j)

-- ---- conflict, by the kinds

in_conflict : (one other : Kind) → naming one ≡ true → naming other ≡ true → (writing one || writing other) ≡ true → InConflict one other
in_conflict none other p q r = absurd (false≢true p)
in_conflict read none p q r = absurd (false≢true q)
in_conflict read read p q r = absurd (false≢true r)
in_conflict read write p q r = tt
in_conflict write none p q r = absurd (false≢true q)
in_conflict write read p q r = tt
in_conflict write write p q r = tt

kinds_conflict : (one other : Task) (c : ℕ) → Conflict one other c → InConflict (kind_of one c) (kind_of other c)
kinds_conflict one other c conflict =
    in_conflict (kind_of one c) (kind_of other c) (sym (kind_names one c) ∙ conflict.one_names) (sym (kind_names other c) ∙ conflict.other_names)
    (ap₂ (λ (x y : Bool). x || y) (sym (kind_writes one c)) (sym (kind_writes other c)) ∙ conflict.written)

-- and back
both_use : (one other : Kind) → InConflict one other
    → (naming one ≡ true) × (naming other ≡ true) × ((writing one || writing other) ≡ true)
both_use none other c = absurd c
both_use read none c = absurd c
both_use read read c = absurd c
both_use read write c = (refl, refl, refl)
both_use write none c = absurd c
both_use write read c = (refl, refl, refl)
both_use write write c = (refl, refl, refl)

pub conflict_of : (one other : Task) (c : ℕ) → InConflict (kind_of one c) (kind_of other c) → Conflict one other c
conflict_of one other c between =
    let both = both_use (kind_of one c) (kind_of other c) between in
    record {
      one_names = kind_names one c ∙ both.0;
      other_names = kind_names other c ∙ both.1;
      written = ap₂ (λ (x y : Bool). x || y) (kind_writes one c) (kind_writes other c) ∙ both.2;
    }

-- a task in conflict has the cell once its waits have passed, and where it has ended it has made an end
acquired : (one other : Kind) (made : ℕ) → InConflict one other → waited other ≤ made → Acquired other made
acquired none other made c h = absurd c
acquired read none made c h = absurd c
acquired read read made c h = absurd c
acquired read write made c h = h
acquired write none made c h = absurd c
acquired write read made c h = h
acquired write write made c h = h

some_end : (one other : Kind) → InConflict one other → waited one < full one
some_end none other c = absurd c
some_end read other c = omega arith
some_end write other c = omega arith

module _ (s : Setting) (workers cells : ℕ) (keep : AllKeep workers cells s.tasks) (m : Machine) (k : Kept s m) where
  -- every earlier task in conflict with one whose waits have passed has gone past its operations
  pub earlier_ended : (i j c : ℕ) → i < j → j < length s.tasks → Conflict (task_at s.tasks i) (task_at s.tasks j) c
      → wait_steps (task_at s.tasks j) ≤ own_made s.tasks m.places j
      → ends_from (task_at s.tasks i) < own_made s.tasks m.places i
  earlier_ended i j c l h conflict passed =
      let between = kinds_conflict (task_at s.tasks i) (task_at s.tasks j) c conflict in
      let has = acquired (kinds s c i) (kinds s c j) ((seen s m c).stage j) between
      (waits_made (task_at s.tasks j) c (keep.each_task j h).each_once (own_made s.tasks m.places j) passed) in
      let ended : (seen s m c).stage i ≡ full (kinds s c i) =
      inv_order (kinds s c) s.number (length s.tasks) (seen s m c) (k.cells c) i j l has between in
      ends_after (task_at s.tasks i) c (keep.each_task i (omega arith)).each_once (own_made s.tasks m.places i)
      (omega (arith, ended, some_end (kinds s c i) (kinds s c j) between))

  -- and so has made them all
  pub earlier_complete : (i j c : ℕ) → i < j → j < length s.tasks → Conflict (task_at s.tasks i) (task_at s.tasks j) c
      → wait_steps (task_at s.tasks j) ≤ own_made s.tasks m.places j
      → operations_made s.tasks m.places i ≡ length (task_at s.tasks i).operations
  earlier_complete i j c l h conflict passed = omega (arith, earlier_ended i j c l h conflict passed)
