use Rattle.std.proofs.Common.{◌≡◌, ℕ, ◌+◌, ◌<◌, ◌≤◌, ◌-◌}
use Rattle.layout.specs.Refusal.{first_at}
use Rattle.refusal.specs.Numbers.{broken_by}
use Rattle.refusal.proofs.places.first_refused.Given as goal

-- what is refused of all places is what is refused of those that are left
abbrev pub invariant-loop-place : goal.invariant-loop-place
invariant-loop-place g l =
    (number : ℕ → ℕ)
    → ((place : ℕ) (r : _) → l.fn.from ≤ place → place < l.fn.from + l.fn.count → goal.F-post g l.check place r → broken_by r ≡ number place)
    → first_at number l.fn.from l.fn.count ≡ first_at number l.place (l.fn.from + l.fn.count - l.place)
