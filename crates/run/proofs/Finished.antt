-- What the loop over workers tells: a worker that is not past the last task breaks the test of all, and all pass it where none is left.
use mathlib.Core.Path.{◌≡◌, sym}
use mathlib.Core.Bool.{Bool, true, false}
use mathlib.Core.List.{List}
use Prim.Native.Nat.{ℕ, ◌+◌, ◌<◌, ◌≤◌}
use borrow.Author.Tests.{le-leb, lt-leb}
use lib.ListN.{get_or}
use lib.Dec.{leb}
use Rattle.layout.specs.Lists.{each, all}
use Rattle.layout.proofs.Lists.{all_more, all_breaks}
use Rattle.layout.proofs.Modes.{all_whole}
use Rattle.arrays.specs.declared.Place.{Place}
use Rattle.arrays.specs.Arrays.{no_place}

-- ---- workers past the last task

abbrev past : ℕ → List Place → ℕ → Bool
past tasks places w = leb tasks ((get_or places w no_place).passed)

pub some_left : (tasks workers w : ℕ) (places : List Place) → w < workers → (get_or places w no_place).passed < tasks
    → false ≡ all (past tasks places) (each workers (λ v. v))
some_left tasks workers w places h left =
    sym (all_breaks (past tasks places) workers (λ v. v) w h (lt-leb _ _ left))

pub one_more : (tasks w : ℕ) (places : List Place) → all (past tasks places) (each w (λ v. v)) ≡ true
    → tasks ≤ (get_or places w no_place).passed
    → all (past tasks places) (each (w + 1) (λ v. v)) ≡ true
one_more tasks w places before here = all_more (past tasks places) w (λ v. v) before (le-leb _ _ here)

pub none_left : (tasks workers w : ℕ) (places : List Place) → w ≤ workers → workers ≤ w
    → all (past tasks places) (each w (λ v. v)) ≡ true
    → true ≡ all (past tasks places) (each workers (λ v. v))
none_left tasks workers w places h l before =
    sym (all_whole (past tasks places) workers (λ v. v) w h l before)
