-- No refusal is given exactly where every rule is kept: an answer under a number that isn't 0 is passed on, so a 0 at the end
-- says that each rule on the way was kept.
use mathlib.Core.Path.{◌≡◌, refl, sym, ap, ap₂, ◌∙◌}
use mathlib.Core.Bool.{Bool, true, false, cond, ◌&&◌}
use mathlib.Core.Logic.{◌↔◌, ◌⊎◌, inl, inr, ⊎_elim}
use mathlib.Core.List.{List, [], ◌∷◌}
use Prim.Native.Nat.{ℕ, zero, suc, ◌+◌, ◌-◌, ◌<◌}
use native.Mathlib.Nat.{add-zero}
use native.Mathlib.Omega.{arith}
use borrow.Author.Tests.{ltb-true, eqb-true, eqb-false}
use lib.ListN.{get_or}
use lib.Dec.{eqb, ltb}
use Rattle.layout.specs.Lists.{all}
use Rattle.layout.specs.Refusal.{Answer, success, refusal, unless, or_else, first_broken, first_at}
use Rattle.layout.proofs.Lists.{and_left, and_right, and_both}
use Rattle.layout.proofs.Refusals.{place_passed, place_refused}

-- ---- one rule, and two

-- the rule's number, which isn't 0, is given unless the rule is kept, and then the rest
pub kept : (rule : Bool) (number rest : ℕ) → 0 < number → cond rule rest number ≡ 0 → (rule ≡ true) × (rest ≡ 0)
kept true number rest h e = (refl, e)
kept false number rest h e = absurd (omega arith)

pub and_iff : (x y : Bool) → ((x && y) ≡ true) ↔ ((x ≡ true) × (y ≡ true))
and_iff x y = (λ h. (and_left x y h, and_right x y h), λ h. and_both x y h.0 h.1)

-- ---- two answers

pub both_zero : (first second : Answer) → (or_else first second).number ≡ 0 → (first.number ≡ 0) × (second.number ≡ 0)
both_zero first second = go (eqb first.number 0) refl
  where
    go : (b : Bool) → eqb first.number 0 ≡ b → (cond b second first).number ≡ 0 → (first.number ≡ 0) × (second.number ≡ 0)
    go true e h = (eqb-true first.number 0 e, h)
    go false e h = absurd (eqb-false first.number 0 e h)

pub second_given : (first second : Answer) → first.number ≡ 0 → or_else first second ≡ second
second_given first second e = ap (λ (k : ℕ). cond (eqb k 0) second first) e

-- a rule, and what is answered where it is kept
pub rule_then : (rule : Bool) (number : ℕ) (rest : Answer) → 0 < number → (or_else (refusal (unless rule number) 0) rest).number ≡ 0
    → (rule ≡ true) × (rest.number ≡ 0)
rule_then rule number rest h e =
    let both = both_zero (refusal (unless rule number) 0) rest e in
    ((kept rule number 0 h both.0).0, both.1)

pub rule_passed : (rule : Bool) (number : ℕ) (rest : Answer) → rule ≡ true → or_else (refusal (unless rule number) 0) rest ≡ rest
rule_passed rule number rest h = rw h

-- ---- a rule at each place

pub none_at : (number : ℕ → ℕ) (from count : ℕ) → (first_at number from count).number ≡ 0
    → (i : ℕ) → i < count → number (from + i) ≡ 0
unfolding first_at
none_at number from zero h i l = absurd (omega arith)
none_at number from (suc count) h zero l = rw add-zero (both_zero _ _ h).0
none_at number from (suc count) h (suc i) l =
    let there : from + suc i ≡ from + 1 + i = omega arith in
    rw there (none_at number (from + 1) count (both_zero (refusal (number from) from) _ h).1 i (omega arith))

pub success_at : (number : ℕ → ℕ) (from count : ℕ) → ((i : ℕ) → i < count → number (from + i) ≡ 0)
    → first_at number from count ≡ success
unfolding first_at
success_at number from zero h = refl
success_at number from (suc count) h =
    second_given (refusal (number from) from) _ (rw add-zero at (h 0 (omega arith)))
    ∙ success_at number (from + 1) count later
  where
    later : (i : ℕ) → i < count → number (from + 1 + i) ≡ 0
    later i l =
        let there : from + 1 + i ≡ from + suc i = omega arith in
        rw there (h (suc i) (omega arith))

-- the same number at each place
pub same_at : (number number' : ℕ → ℕ) (from count : ℕ) → ((i : ℕ) → i < count → number (from + i) ≡ number' (from + i))
    → first_at number from count ≡ first_at number' from count
unfolding first_at
same_at number number' from zero h = refl
same_at number number' from (suc count) h =
    ap₂ (λ (n : ℕ) (rest : Answer). or_else (refusal n from) rest) (rw add-zero at (h 0 (omega arith)))
    (same_at number number' (from + 1) count later)
  where
    later : (i : ℕ) → i < count → number (from + 1 + i) ≡ number' (from + 1 + i)
    later i l =
        let there : from + 1 + i ≡ from + suc i = omega arith in
        rw there (h (suc i) (omega arith))

-- ---- one rule at each place

-- the place at which a rule is broken first is the one that is given
pub record FirstBreak (rule : ℕ → Bool) (number from count i : ℕ) : Type 0 where
  pub there : i < count
  pub breaks : rule (from + i) ≡ false
  pub kept_before : (j : ℕ) → j < i → rule (from + j) ≡ true
  pub given : first_at (λ place. unless (rule place) number) from count ≡ refusal number (from + i)

-- a rule is kept at every place, or there is a first one at which it is broken
pub break_at : (rule : ℕ → Bool) (number : ℕ) → 0 < number → (from count : ℕ)
    → ((i : ℕ) → i < count → rule (from + i) ≡ true) ⊎ ((i : ℕ) × FirstBreak rule number from count i)
break_at rule number some from zero = inl (λ i l. absurd (omega arith))
break_at rule number some from (suc count) = here (rule from) refl (break_at rule number some (from + 1) count)
  where
    given_here : rule from ≡ false → first_at (λ place. unless (rule place) number) from (suc count) ≡ refusal number from
    given_here e =
        let given : unless (rule from) number ≡ number = rw e in
        place_refused (λ place. unless (rule place) number) from (suc count) (omega arith) (λ none. omega (arith, some, sym given ∙ none))
        ∙ ap (λ (n : ℕ). refusal n from) given

    all_kept : rule from ≡ true → ((i : ℕ) → i < count → rule (from + 1 + i) ≡ true) → (i : ℕ) → i < suc count → rule (from + i) ≡ true
    all_kept e later zero l = rw add-zero e
    all_kept e later (suc i) l =
        let there : from + suc i ≡ from + 1 + i = omega arith in
        rw there (later i (omega arith))

    further : rule from ≡ true → (i : ℕ) → FirstBreak rule number (from + 1) count i → FirstBreak rule number from (suc count) (suc i)
    further e i broken =
        let there : from + suc i ≡ from + 1 + i = omega arith in
        let less : suc count - 1 ≡ count = omega arith in
        record {
          there = omega (arith, broken.there);
          breaks = rw there broken.breaks;
          kept_before = before;
          given =
              rw there
              (place_passed (λ place. unless (rule place) number) from (suc count) (omega arith) (rw e)
              ∙ (rw less broken.given));
        }
      where
        before : (j : ℕ) → j < suc i → rule (from + j) ≡ true
        before zero l = rw add-zero e
        before (suc j) l =
            let there : from + suc j ≡ from + 1 + j = omega arith in
            rw there (broken.kept_before j (omega arith))

    here : (b : Bool) → rule from ≡ b
        → (((i : ℕ) → i < count → rule (from + 1 + i) ≡ true) ⊎ ((i : ℕ) × FirstBreak rule number (from + 1) count i))
        → ((i : ℕ) → i < suc count → rule (from + i) ≡ true) ⊎ ((i : ℕ) × FirstBreak rule number from (suc count) i)
    here false e later =
        inr (
          0,
          record {
            there = omega arith;
            breaks = rw add-zero e;
            kept_before = λ j l. absurd (omega arith);
            given = rw add-zero (given_here e);
          },
        )
    here true e later = ⊎_elim (λ kept. inl (all_kept e kept)) (λ broken. inr (suc broken.0, further e broken.0 broken.1)) later

-- ---- several rules on one thing

-- rules under numbers other than 0
abbrev pub numbered : List (ℕ × Bool) → Bool
numbered rules = all (λ rule. ltb 0 rule.0) rules

both_kept : (rule : ℕ × Bool) (rules : List (ℕ × Bool)) → numbered (rule ∷ rules) ≡ true → first_broken (rule ∷ rules) ≡ 0
    → (rule.1 ≡ true) × (first_broken rules ≡ 0)
unfolding first_broken all
both_kept rule rules n =
    kept rule.1 rule.0 (first_broken rules) (ltb-true 0 rule.0 (and_left (ltb 0 rule.0) (numbered rules) n))

-- where none is broken, the rule at any index is kept
pub rule_kept : (rules : List (ℕ × Bool)) → numbered rules ≡ true → first_broken rules ≡ 0
    → (i : ℕ) → (get_or rules i (0, true)).1 ≡ true
unfolding first_broken all
rule_kept [] n h i = refl
rule_kept (rule ∷ rules) n h zero = (both_kept rule rules n h).0
rule_kept (rule ∷ rules) n h (suc i) =
    rule_kept rules (and_right (ltb 0 rule.0) (numbered rules) n) (both_kept rule rules n h).1 i
