-- Demand 3 of any setting: the five statements, each from what holds along every run.
use mathlib.Core.Path.{◌≡◌, refl, sym, ap, subst, ◌∙◌}
use mathlib.Core.Bool.{true}
use mathlib.Core.List.{List, [], ◌∷◌, ◌++◌}
use Prim.Native.Nat.{ℕ, ◌<◌, ◌≤◌}
use native.Mathlib.Omega.{arith}
use borrow.Author.Tests.{leb-true}
use lib.ListN.{length, length-append}
use lib.Seq.{get_or-append_seam}
use lib.Dec.{leb}
use Rattle.layout.specs.Row.{modes_sound}
use Rattle.layout.proofs.Lists.{all_keeps}
use Rattle.steps.specs.Machine.{Machine}
use Rattle.steps.specs.Step.{Setting, own_steps}
use Rattle.steps.specs.Run.{Run, run, Names, finished}
use Rattle.steps.specs.History.{Entry, made, made_by, after_history}
use Rattle.steps.specs.Conflict.{task_at, AllKeep, TellsApart, ReadsOnlyA, ReadsOnlyB}
use Rattle.steps.specs.Demand.{entry, Declared, OnlyTouched, history, Demand3}
use Rattle.steps.proofs.Advance.{progress}
use Rattle.steps.proofs.Along.{fresh_run, counted_machine, along_history, along_machine}
use Rattle.steps.proofs.Cells.{CellsKept, cells_fresh, cells_step}
use Rattle.steps.proofs.Complete.{operations_made}
use Rattle.steps.proofs.Invariant.{Kept, kept_fresh, kept_step}
use Rattle.steps.proofs.Leaves.{leaves_on, leaves}
use Rattle.steps.proofs.OwnMade.{made_past}
use Rattle.steps.proofs.Sides.{own_length}
use Rattle.steps.proofs.History.{Recorded, recorded_fresh, recorded_step}
use Rattle.steps.proofs.Total.{total_bound, finished_exactly}
use Rattle.steps.proofs.Touching.{none_touched, touches}
use Rattle.steps.proofs.Values.{all_complete}

-- what is asked of a setting, a number of workers, starting cells and a schedule
pub record Asked (s : Setting) (workers : ℕ) (start schedule : List ℕ) : Type 0 where
  pub keep : AllKeep workers (length start) s.tasks
  pub modes : (i : ℕ) → i < length s.tasks → modes_sound (task_at s.tasks i) ≡ true
  pub apart : TellsApart s.tasks s.number
  pub reads : ReadsOnlyB s.does
  pub names : Names workers schedule

module _ (s : Setting) (workers : ℕ) (start schedule : List ℕ) (asked : Asked s workers start schedule) where
  -- what holds of the machine at every point of the run
  pub record Holds (m : Machine) : Type 0 where
    pub kept : Kept s m
    pub cells : CellsKept s workers start asked.keep asked.reads m

  pub holds : Holds (run s start schedule).machine
  holds =
      along_machine s workers Holds start
      (record {
        kept = kept_fresh s workers (length start) asked.keep asked.apart start;
        cells = cells_fresh s workers start asked.keep asked.reads;
      })
      (λ m w h k. record {
        kept = kept_step s workers (length start) asked.keep asked.apart m w k.kept;
        cells = cells_step s workers start asked.keep asked.reads m w k.kept k.cells;
      })
      schedule
      asked.names

  -- and of the history that led to it
  record Tells (entries : List Entry) (r : Run) : Type 0 where
    kept : Kept s r.machine
    recorded : Recorded s entries r.machine
    left : r.machine.cells ≡ after_history s entries start

  tells : Tells (history s start schedule) (run s start schedule)
  unfolding after_history
  tells =
      along_history s workers Tells
      (λ entries before w h t.
      record {
        kept = rw counted_machine (kept_step s workers (length start) asked.keep asked.apart before.machine w t.kept);
        recorded = rw counted_machine (recorded_step s workers (length start) asked.keep asked.modes entries before.machine w t.kept t.recorded);
        left = rw counted_machine (leaves s before.machine w (t.kept.standing.each_worker w)
            ∙ ap (after_history s (made_by s before.machine w)) t.left ∙ sym (leaves_on s entries (made_by s before.machine w) start));
      })
      []
      (fresh_run s start)
      (record {
        kept = kept_fresh s workers (length start) asked.keep asked.apart start;
        recorded = recorded_fresh s workers (length start) asked.keep asked.modes start;
        left = refl;
      })
      schedule
      asked.names

  pub cells_left : (run s start schedule).machine.cells ≡ after_history s (history s start schedule) start
  cells_left = tells.left

  -- an operation that is made next is one of its task, within the modes: it stands last in the history of one step more
  pub declared_next : (w : ℕ) (e : Entry) → made_by s (run s start schedule).machine w ≡ e ∷ [] → Declared s e
  declared_next w e makes =
      let before : List Entry = history s start schedule in
      let after = recorded_step s workers (length start) asked.keep asked.modes before (run s start schedule).machine w tells.kept tells.recorded in
      let last : length before < length (before ++ made_by s (run s start schedule).machine w) =
      rw makes (omega (arith, length-append before (e ∷ []))) in
      subst (Declared s)
      (ap (λ (added : List Entry). entry (before ++ added) (length before)) makes ∙ get_or-append_seam before e [] (made 0 0))
      (after.declared (length before) last)

  only_touched : ReadsOnlyA s.does → OnlyTouched s (run s start schedule).machine
  only_touched reads_a =
      record {
        making = λ w e makes.
            touches s (run s start schedule).machine w (tells.kept.standing.each_worker w) reads_a asked.reads e makes (declared_next w e makes);
        making_none = λ w. none_touched s (run s start schedule).machine w (tells.kept.standing.each_worker w);
      }

  -- once all workers are past the last task, all tasks have made all of their operations
  all_made : finished workers s.tasks (run s start schedule).machine ≡ true → (j : ℕ) → j < length s.tasks
      → operations_made s.tasks (run s start schedule).machine.places j ≡ length (task_at s.tasks j).operations
  unfolding finished
  all_made over j h =
      let m : Machine = (run s start schedule).machine in
      let task = asked.keep.each_task j h in
      let past : length s.tasks ≤ (m.places (task_at s.tasks j).owner).passed =
      leb-true _ _ (all_keeps (λ w. leb (length s.tasks) (m.places w).passed) workers (λ w. w) (task_at s.tasks j).owner task.owned over) in
      let made = made_past (length (own_steps (task_at s.tasks j))) j (m.places (task_at s.tasks j).owner) (omega arith) in
      omega (arith, made, own_length (task_at s.tasks j))

  pub demand_3 : Demand3 s workers start schedule
  demand_3 =
      record {
        declared = tells.recorded.declared;
        touched = only_touched;
        in_order = tells.recorded.in_order;
        progress = progress s workers (length start) asked.keep (run s start schedule).machine holds.kept;
        total = record {
          at_most = total_bound s workers owned some_access start schedule asked.names;
          exactly = finished_exactly s workers owned some_access start schedule asked.names;
        };
        values = λ over. all_complete s.does s.tasks start asked.keep holds.cells (all_made over);
      }
    where
      owned : (i : ℕ) → i < length s.tasks → (task_at s.tasks i).owner < workers
      owned i h = (asked.keep.each_task i h).owned

      some_access : (i : ℕ) → i < length s.tasks → 1 ≤ length (task_at s.tasks i).accesses
      some_access i h = (asked.keep.each_task i h).some_access
