-- To replace a numbered thing changes that one and no other.
use mathlib.Core.Path.{◌≡◌, refl}
use mathlib.Core.Bool.{Bool, true, false, cond}
use Prim.Native.Nat.{ℕ}
use lib.Dec.{eqb}
use borrow.Author.Tests.{eqb-true, eq-eqb, ne_eqb}
use Rattle.steps.specs.Machine.{put}

module _ {A : Type 0} (things : ℕ → A) (i : ℕ) (thing : A) where
  pub put_here : put things i thing i ≡ thing
  put_here = rw (eq-eqb i i refl)

  pub put_other : (j : ℕ) → (j ≡ i → ⊥) → put things i thing j ≡ things j
  put_other j apart = rw (ne_eqb j i apart)

  -- what holds of the new thing and of the others holds of all
  pub put_each : (P : ℕ → A → Type 0) → P i thing → ((j : ℕ) → P j (things j)) → (j : ℕ) → P j (put things i thing j)
  put_each P new old j = go (eqb j i) refl
    where
      go : (t : Bool) → eqb j i ≡ t → P j (cond t thing (things j))
      go true e = rw (eqb-true j i e) new
      go false e = old j
