-- The tasks counted one after another, each where its owner, the first byte of its row, has gone past it.
use mathlib.Core.Path.{◌≡◌, sym, ap, ◌∙◌}
use mathlib.Core.Bool.{Bool, true, false, cond}
use mathlib.Core.List.{List}
use Prim.Native.Nat.{ℕ, ◌+◌, ◌<◌, ◌≤◌}
use native.Mathlib.Omega.{arith}
use borrow.Author.Tests.{lt-ltb, le-ltb}
use lib.ListN.{get_or, drop}
use lib.Dec.{ltb}
use Rattle.layout.specs.Flow.{Task}
use Rattle.layout.specs.Row.{task_of}
use Rattle.layout.specs.File.{row_at, tasks_in}
use Rattle.layout.proofs.Modes.{each-drop, each-drop-all}
use Rattle.steps.specs.Machine.{Place}
use Rattle.steps.specs.Run.{is_done, done_from}
use Rattle.arrays.specs.declared.Place.{Place as Stored}
use Rattle.arrays.specs.Arrays.{no_place, place_of}

module _ (file : List ℕ) (tasks : ℕ) (places : List Stored) where
  abbrev all : List Task
  all = tasks_in file tasks

  -- the place of a worker, by its numbers
  abbrev stands_at : ℕ → Place
  stands_at w = place_of all (get_or places w no_place)

  abbrev passed : ℕ → ℕ
  passed w = (get_or places w no_place).passed

  -- the tasks done up to an index, with those among the tasks left, are all done tasks
  abbrev pub Counted : ℕ → ℕ → ℕ → Type 0
  Counted whole index count = whole ≡ count + done_from stands_at index (drop index all)

  -- one task more
  module _ (index w count next whole : ℕ) (h : index < tasks) (owner : w ≡ get_or (row_at file (index + 1)) 0 0) (so_far : Counted whole index count) where
    counted : (b : Bool) → ltb index (passed w) ≡ b → next ≡ count + cond b 1 0 → Counted whole (index + 1) next
    unfolding done_from task_of
    counted b t n =
        let here : done_from stands_at index (drop index all) ≡ cond b 1 0 + done_from stands_at (index + 1) (drop (index + 1) all) =
        ap (done_from stands_at index) (each-drop tasks (λ i. task_of (row_at file (i + 1))) index h)
        ∙ ap (λ (v : ℕ). cond (is_done index (stands_at v)) 1 0 + done_from stands_at (index + 1) (drop (index + 1) all)) (sym owner)
        ∙ ap (λ (d : Bool). cond d 1 0 + done_from stands_at (index + 1) (drop (index + 1) all)) t in
        omega arith

    pub one_done : index < passed w → next ≡ count + 1 → Counted whole (index + 1) next
    one_done gone n = counted true (lt-ltb index (passed w) (omega arith)) n

    pub one_left : passed w ≤ index → next ≡ count → Counted whole (index + 1) next
    one_left ahead n = counted false (le-ltb index (passed w) (omega arith)) (omega arith)

  pub all_counted : (index count whole : ℕ) → tasks ≤ index → Counted whole index count → count ≡ whole
  unfolding done_from
  all_counted index count whole h e =
      let none : done_from stands_at index (drop index all) ≡ 0 =
      ap (done_from stands_at index) (each-drop-all tasks (λ i. task_of (row_at file (i + 1))) index h) in
      omega arith
