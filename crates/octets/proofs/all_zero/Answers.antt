use Rattle.std.proofs.Common.{◌≡◌, ℕ, zero, suc, List, ◌∷◌, [], ◌++◌, ◌∙◌, refl, sym, ap, arith}
use mathlib.Core.Bool.{Bool, ◌&&◌}
use lib.Bits.{bit_or, or_add_and, and_le_r}
use borrow.Author.Tests.{ne_eqb}
use lib.Dec.{eqb, eqb-suc-zero}
use Rattle.std.proofs.lemmas.Fn.{fronts, fold_over, slice_gives}
use Rattle.layout.specs.Bytes.{all_zero}
use Rattle.layout.proofs.Zeros.{zero-append, and-true}
use Rattle.octets.proofs.all_zero.Goals as goal

-- two numbers together have no digit that is set exactly where both are zero
or_none : (m n : ℕ) → eqb (bit_or m n) 0 ≡ (eqb m 0 && eqb n 0)
or_none zero n = refl
or_none (suc m) n =
    ne_eqb (bit_or (suc m) n) 0 (λ e. omega (arith, or_add_and (suc m) n, and_le_r (suc m) n, e)) ∙ ap (λ (t : Bool). t && eqb n 0) (sym (eqb-suc-zero m))

-- one byte more
more : (ys : List ℕ) (a x b : ℕ) → eqb a 0 ≡ all_zero ys → eqb b 0 ≡ (eqb a 0 && eqb x 0) → eqb b 0 ≡ all_zero (ys ++ (x ∷ []))
unfolding all_zero
more ys a x b before e =
    e ∙ ap (λ (t : Bool). t && eqb x 0) before
    ∙ ap (λ (t : Bool). all_zero ys && t) (sym (and-true (eqb x 0)))
    ∙ sym (zero-append ys (x ∷ []))

pub returns : goal.returns
unfolding all_zero
returns c =
    rw (← c.iter.ensures.rest)
    (fold_over fronts (λ y. y.now) _ (λ (ys : List ℕ) (a : ℕ). eqb a 0 ≡ all_zero ys) _
    (λ ys a x b f h k. let e : eqb b 0 ≡ (eqb a 0 && eqb x.now 0) = grind (arith, or_none) in (more ys a x.now b h e, refl))
    c.iter.result _ _ _ (slice_gives c.iter.result) refl c.fold.ensures.ran)
