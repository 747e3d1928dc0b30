-- What `all` over the indexes below a count answers, by the members that the rules have there.
use Rattle.std.proofs.Common.{◌≡◌, ℕ, zero, suc, ◌+◌, Bool, ◌&&◌, refl, ap, ap₂, ◌∙◌, zero-add, arith}
use Rattle.std.specs.List.{list_all, range_with_len}
use Rattle.layout.specs.Lists.{each, all}

module _ {A : Type 0} (rule : A → Bool) where
  all_from : (n a : ℕ) (f g : ℕ → A) → ((i : ℕ) → g (a + i) ≡ f i) → list_all (λ i. rule (g i)) (range_with_len a n) ≡ all rule (each n f)
  unfolding all each
  all_from zero a f g same = refl
  all_from (suc n) a f g same =
      ap₂ ◌&&◌ (ap rule (ap g (omega arith) ∙ same 0)) (all_from n (a + 1) (λ i. f (suc i)) g (λ i. ap g (omega arith) ∙ same (suc i)))

  pub all_each : (n : ℕ) (f : ℕ → A) {answer : Bool} → answer ≡ list_all (λ i. rule (f i)) (range_with_len 0 n) → answer ≡ all rule (each n f)
  all_each n f is = is ∙ all_from n 0 f f (λ i. ap f (zero-add i))
