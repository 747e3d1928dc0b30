-- Where a reader stands after so many calls: each call adds 1 to a number that a task can have, and the first number past those
-- stays.
use Rattle.std.proofs.Common.{◌≡◌, ℕ, zero, suc, ◌+◌, ◌≤◌, ◌<◌, min, Bool, true, false, cond, ap, ◌∙◌, arith}
use Rattle.std.proofs.lemmas.Bool.Decides.{nat_tests}
use Rattle.layout.specs.Flow.{most_tasks, up_to}
use Rattle.row_reader.specs.Promises.{following}

-- ---- a number up to a limit

pub is_up_to : (limit n : ℕ) → 1 ≤ n → n ≤ limit → up_to limit n ≡ true
is_up_to limit n some most = grind (arith, nat_tests)

pub is_past : (limit n : ℕ) → limit < n → up_to limit n ≡ false
is_past limit n h = grind (arith, nat_tests)

-- ---- one call

-- a number that no task can have stays
pub stays : (task : ℕ) → up_to most_tasks task ≡ false → following task ≡ task
stays task h = ap (λ (b : Bool). cond b (task + 1) task) h

-- ---- so many calls

unfoldable pub place_after : ℕ → ℕ → ℕ
place_after zero task = task
place_after (suc calls) task = place_after calls (following task)

-- from a number that a task can have, or the first past those
followed : (task : ℕ) → 1 ≤ task → task ≤ most_tasks + 1 → following task ≡ min (task + 1) (most_tasks + 1)
followed task some most = grind (arith, nat_tests)

pub goes_on_after : (calls task : ℕ) → 1 ≤ task → task ≤ most_tasks + 1 → place_after calls task ≡ min (task + calls) (most_tasks + 1)
unfolding place_after
goes_on_after zero task some most = omega arith
goes_on_after (suc calls) task some most =
    ap (place_after calls) (followed task some most)
    ∙ goes_on_after calls (min (task + 1) (most_tasks + 1)) (omega arith) (omega arith)
    ∙ (omega arith)
