-- The first refusal met from a place on: at that place where its number isn't 0, and else among the places after it.
use Rattle.std.proofs.Common.{◌≡◌, ℕ, ◌+◌, ◌<◌, ◌≤◌, ◌-◌, Bool, suc, sym, ap, ◌∙◌, cond, arith}
use borrow.Author.Tests.{ne_eqb}
use Rattle.layout.specs.Refusal.{first_at, or_else, refusal, success}
use Rattle.refusal.specs.Numbers.{number_of}
use Rattle.refusal.specs.declared.Rule.{Rule}
use Rattle.refusal.proofs.Unique.{number_positive}

-- where places are left, they are the first of them and those after it
first_and_rest : (number : ℕ → ℕ) (place end : ℕ) → place < end
    → first_at number place (end - place) ≡ or_else (refusal (number place) place) (first_at number (place + 1) (end - (place + 1)))
unfolding first_at
first_and_rest number place end h =
    let one : end - place ≡ suc (end - (place + 1)) = omega arith in
    ap (first_at number place) one

-- where none is left, none is refused
pub none_left : (number : ℕ → ℕ) (place end : ℕ) → end ≤ place → success ≡ first_at number place (end - place)
unfolding first_at
none_left number place end h =
    let none : 0 ≡ end - place = omega arith in
    ap (first_at number place) none

-- a place whose number is that of a rule is the one that is refused
pub met_here : (number : ℕ → ℕ) (place end : ℕ) (rule : Rule) → place < end → number_of rule ≡ number place
    → refusal (number_of rule) place ≡ first_at number place (end - place)
met_here number place end rule h e =
    let rest = first_at number (place + 1) (end - (place + 1)) in
    ap (λ (t : Bool). cond t rest (refusal (number_of rule) place)) (sym (ne_eqb (number_of rule) 0 (number_positive rule)))
    ∙ ap (λ (n : ℕ). or_else (refusal n place) rest) e ∙ sym (first_and_rest number place end h)

-- a place whose number is 0 is passed
pub met_later : (number : ℕ → ℕ) (place end : ℕ) → place < end → 0 ≡ number place
    → first_at number place (end - place) ≡ first_at number (place + 1) (end - (place + 1))
met_later number place end h e =
    first_and_rest number place end h ∙ ap (λ (n : ℕ). or_else (refusal n place) (first_at number (place + 1) (end - (place + 1)))) (sym e)
