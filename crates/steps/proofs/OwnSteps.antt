-- A read has a wait and an end, a write two of each, and an operation one step: so many steps has a task of its own.
use mathlib.Core.Path.{◌≡◌, refl}
use mathlib.Core.Bool.{Bool, true, false, cond}
use mathlib.Core.List.{List, [], ◌∷◌}
use Prim.Native.Nat.{◌+◌, ◌≤◌}
use native.Mathlib.Omega.{arith}
use lib.ListN.{length, length-append, length-map}
use Rattle.layout.specs.Flow.{Access, Task}
use Rattle.steps.specs.Step.{Try, writes, waits, ends, of_each, own_steps}
use Rattle.steps.specs.Run.{access_steps}

length-cond : (t : Bool) (a b : List Try) → length (cond t a b) ≡ cond t (length a) (length b)
length-cond true a b = refl
length-cond false a b = refl

waits_ends : (accesses : List Access) → length (of_each waits accesses) + length (of_each ends accesses) ≡ access_steps accesses
unfolding of_each access_steps
waits_ends [] = refl
waits_ends (access ∷ accesses) = simp (length-append, length-cond) (omega (arith, both (writes access), waits_ends accesses))
  where
    both : (t : Bool) → cond t 2 1 + cond t 2 1 ≡ cond t 4 2
    both true = refl
    both false = refl

pub own_steps_lem : (task : Task) → length (own_steps task) ≡ access_steps task.accesses + length task.operations
unfolding own_steps
own_steps_lem task = simp (length-append, length-map) (omega (arith, waits_ends task.accesses))

-- an access has a step at least
access_steps_lem : (accesses : List Access) → length accesses ≤ access_steps accesses
unfolding access_steps
access_steps_lem [] = omega arith
access_steps_lem (access ∷ accesses) = omega (arith, some (writes access), access_steps_lem accesses)
  where
    some : (t : Bool) → 1 ≤ cond t 4 2
    some true = omega arith
    some false = omega arith

pub some_own_step : (task : Task) → 1 ≤ length task.accesses → 1 ≤ length (own_steps task)
some_own_step task some = omega (arith, own_steps_lem task, access_steps_lem task.accesses)
