-- A call that fills lent bytes asks its rules first and the room last. So its answer is 0 exactly where the rules are kept and the bytes fit, and
-- then the bytes stand first; where the rules are kept and the bytes do not fit, it is 16; and where a rule is not kept, it is the rules' refusal.
use mathlib.Core.Path.{◌≡◌, refl, sym, ap, ◌∙◌}
use mathlib.Core.List.{List}
use Prim.Native.Nat.{ℕ, ◌<◌, ◌≤◌}
use borrow.Author.Tests.{leb-true}
use lib.ListN.{length, take, drop}
use lib.Seq.{take-append_seam, drop-append_seam}
use lib.Dec.{leb, lit<}
use Rattle.layout.specs.Refusal as Rules
use Rattle.layout.specs.Refusal.{success, refusal, unless, or_else}
use Rattle.layout.specs.File.{lent_after}
use Rattle.roundtrip.proofs.NoRefusal.{kept, both_zero}
use Rattle.file.proofs.Order.{first_given, long_enough, too_short}
use Rattle.file.proofs.Outcomes.{lent_kept}

-- the answer that is met: that of the rules, and 16 where less is lent than needed
abbrev met : Rules.Answer → ℕ → List ℕ → Rules.Answer
met rules needed lent = or_else rules (refusal (unless (leb needed (length lent)) 16) 0)

-- the call's answer `r` tells what is met, with its number, and the lent bytes are then as they must be
pub record Filled {A : Type 0} (number : A → ℕ) (tells : Rules.Answer → A) (rules : Rules.Answer) (needed : ℕ) (bytes lent : List ℕ) (r : A)
    (after : List ℕ) : Type 0 where
  pub answer : r ≡ tells (met rules needed lent)
  pub numbered : (a : Rules.Answer) → number (tells a) ≡ a.number
  pub left : after ≡ lent_after (met rules needed lent) bytes lent

module _ {A : Type 0} {number : A → ℕ} {tells : Rules.Answer → A} {rules : Rules.Answer} {needed : ℕ} {bytes lent : List ℕ} {r : A} {after : List ℕ}
    (f : Filled number tells rules needed bytes lent r after) where
  -- ---- for any answer that is known to be met

  module _ {a : Rules.Answer} (e : a ≡ met rules needed lent) where
    tells_it : r ≡ tells a
    tells_it = f.answer ∙ ap tells (sym e)

    leaves : after ≡ lent_after a bytes lent
    leaves = f.left ∙ ap (λ (b : Rules.Answer). lent_after b bytes lent) (sym e)

  -- ---- the call answers 0

  module _ (none : number r ≡ 0) where
    both : (rules.number ≡ 0) × (unless (leb needed (length lent)) 16 ≡ 0)
    both = both_zero rules _ (sym (ap number f.answer ∙ f.numbered _) ∙ none)

    pub rules_kept : rules.number ≡ 0
    rules_kept = both.0

    succeeds : success ≡ met rules needed lent
    succeeds =
        long_enough rules rules_kept needed (length lent)
        (leb-true needed (length lent) (kept (leb needed (length lent)) 16 0 (lit< tt) both.1).0)

    pub tells_success : r ≡ tells success
    tells_success = tells_it succeeds

    pub stands_first : take (length bytes) after ≡ bytes
    stands_first = ap (take (length bytes)) (leaves succeeds) ∙ take-append_seam bytes _

    pub rest_stays : drop (length bytes) after ≡ drop (length bytes) lent
    rest_stays = ap (drop (length bytes)) (leaves succeeds) ∙ drop-append_seam bytes _

  -- ---- the rules are kept

  module _ (none : rules.number ≡ 0) where
    pub fits : needed ≤ length lent → number r ≡ 0
    fits room = ap number (tells_it (long_enough rules none needed (length lent) room)) ∙ f.numbered success

    pub refused_16 : length lent < needed → (r ≡ tells (refusal 16 0)) × (after ≡ lent)
    refused_16 room =
        let short = too_short rules none needed (length lent) room in
        (tells_it short, leaves short)

  -- ---- a rule is not kept

  pub refused_first : (rules.number ≡ 0 → ⊥) → (r ≡ tells rules) × (after ≡ lent)
  refused_first some =
      let first = first_given rules rules _ refl some in
      (tells_it first, leaves first ∙ sym (lent_kept rules some bytes lent))
