-- An array that is filled place by place, each with what a definition tells of another's element there.
use mathlib.Core.Path.{sym, ap, ◌∙◌}
use lib.Dec.{eqb}
use lib.ListN.{length-set}
use lib.Seq.{ext_get_or}
use mathlib.Core.Bool.{true≢false}
use Rattle.std.proofs.lemmas.Bool.{eqb-true, eq-eqb}
use Rattle.std.specs.Prelude.{◌≢◌}
use Rattle.std.proofs.Common.{◌≡◌, refl, Bool, true, false, cond, ℕ, ◌+◌, ◌<◌, List, length, get_or, set, map, arith}
use Rattle.std.proofs.lemmas.List.{get_or-map, get_or_default, length-map}
use Rattle.arrays.proofs.Machines.{stored_at}

-- so far
pub record Filled {A B : Type 0} (tells : A → B) (xs : List A) (ys : List B) (i : ℕ) : Type 0 where
  pub long : length ys ≡ length xs
  pub done : (j : ℕ) (d : A) → j < i → get_or ys j (tells d) ≡ tells (get_or xs j d)

pub none_filled : {A B : Type 0} (tells : A → B) (xs : List A) (ys : List B) → length ys ≡ length xs → Filled tells xs ys 0
none_filled tells xs ys long = record { long = long; done = λ j d l. absurd (omega arith) }

-- one more
pub filled_more : {A B : Type 0} (tells : A → B) (xs : List A) (ys : List B) (i : ℕ) (y : B) (d : A) → Filled tells xs ys i → i < length xs
    → y ≡ tells (get_or xs i d)
    → Filled tells xs (set ys i y) (i + 1)
filled_more tells xs ys i y d filled inside one =
    record {
      long = length-set ys i y ∙ filled.long;
      done = λ j e l. stored_at ys i y (tells e) j (omega (arith, inside, filled.long)) ∙ at j e l (eqb j i) refl;
    }
  where
    at : (j : ℕ) (e : _) → j < i + 1 → (same : Bool) → eqb j i ≡ same → cond same y (get_or ys j (tells e)) ≡ tells (get_or xs j e)
    at j e l true is =
        one ∙ ap tells (get_or_default xs i d e inside) ∙ ap (λ (k : ℕ). tells (get_or xs k e)) (sym (eqb-true j i is))
    at j e l false is =
        let other : j ≢ i = λ same. true≢false (sym (eq-eqb j i same) ∙ is) in
        filled.done j e (omega (arith, other))

-- all
pub all_filled : {A B : Type 0} (tells : A → B) (xs : List A) (ys : List B) (i : ℕ) (d : A) → Filled tells xs ys i → length xs ≡ i
    → ys ≡ map tells xs
all_filled tells xs ys i d filled size =
    ext_get_or (tells d) ys (map tells xs) (filled.long ∙ sym (length-map xs tells))
    (λ j l. filled.done j d (omega (arith, size, filled.long)) ∙ sym (get_or-map tells xs j d (tells d) (omega (arith, filled.long))))
