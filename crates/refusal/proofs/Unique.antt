-- A rule's number tells the rule, and no rule has the number of success. So a number and a place tell an answer.
use Rattle.std.proofs.Common.{◌≡◌, ℕ, Result, Ok, Err, cond, refl, sym, ap, ap₂, ◌∙◌}
use lib.Dec.{eqb}
use Rattle.layout.specs.Refusal.{Answer}
use Rattle.refusal.specs.Numbers.{number_of, broken_by, answer_of, met_by}
use Rattle.refusal.specs.declared.Rule.{Rule}
use Rattle.refusal.specs.declared.Rule.TheVariants.{Length, Check, Head, Sizes, Rest, Owner, Counts, Accesses, NamedOnce, Operations, Modes, Start, Schedule, Worker, Rows, Room, Written, Retired, Version}
use Rattle.refusal.specs.declared.Refusal.{Refusal}

-- ---- rules

-- the rule of a number
abbrev rule_at : ℕ → Rule
rule_at number =
    cond (eqb number 1) Length
    (cond (eqb number 2) Check
    (cond (eqb number 3) Head
    (cond (eqb number 4) Sizes
    (cond (eqb number 5) Rest
    (cond (eqb number 6) Owner
    (cond (eqb number 7) Counts
    (cond (eqb number 8) Accesses
    (cond (eqb number 9) NamedOnce
    (cond (eqb number 10) Operations
    (cond (eqb number 11) Modes
    (cond (eqb number 12) Start
    (cond (eqb number 13) Schedule
    (cond (eqb number 14) Worker
    (cond (eqb number 15) Rows
    (cond (eqb number 16) Room
    (cond (eqb number 17) Written
    (cond (eqb number 18) Retired
    Version)))))))))))))))))

rule_back : (rule : Rule) → rule ≡ rule_at (number_of rule)
rule_back Length = refl
rule_back Check = refl
rule_back Head = refl
rule_back Sizes = refl
rule_back Rest = refl
rule_back Owner = refl
rule_back Counts = refl
rule_back Accesses = refl
rule_back NamedOnce = refl
rule_back Operations = refl
rule_back Modes = refl
rule_back Start = refl
rule_back Schedule = refl
rule_back Worker = refl
rule_back Rows = refl
rule_back Room = refl
rule_back Written = refl
rule_back Retired = refl
rule_back Version = refl

pub rule_unique : (a b : Rule) → number_of a ≡ number_of b → a ≡ b
rule_unique a b e = rule_back a ∙ ap rule_at e ∙ sym (rule_back b)

-- no rule has the number of success: only the last could have one that no other has
pub number_positive : (rule : Rule) → number_of rule ≡ 0 → ⊥
number_positive rule e =
    let last : rule ≡ Version = rule_back rule ∙ ap rule_at e in
    let none : 22 ≡ 0 = sym (ap number_of last) ∙ e in
    cc

-- ---- answers

-- a refusal is told by its number and its place
pub refusal_unique : (a b : Refusal) → answer_of a ≡ answer_of b → a ≡ b
refusal_unique a b e =
    ap₂ (λ (rule : Rule) (place : ℕ). record { rule = rule; place = place })
    (rule_unique a.rule b.rule (ap (λ (s : Answer). s.number) e))
    (ap (λ (s : Answer). s.place) e)

-- two answers of one number and one place are the same, where two successes are
pub met_same : {A : Type 0} (r s : Result A Refusal) → met_by r ≡ met_by s → ((a b : A) → r ≡ Ok a → s ≡ Ok b → a ≡ b) → r ≡ s
met_same (Ok a) (Ok b) e same = ap Ok (same a b refl refl)
met_same (Ok a) (Err met) e same = absurd (number_positive met.rule (sym (ap (λ (t : Answer). t.number) e)))
met_same (Err met) (Ok b) e same = absurd (number_positive met.rule (ap (λ (t : Answer). t.number) e))
met_same (Err met) (Err other) e same = ap Err (refusal_unique met other e)

pub met_unique : (r s : Result (Unit {0}) Refusal) → met_by r ≡ met_by s → r ≡ s
met_unique r s e = met_same r s e (λ a b p q. refl)

-- two answers of a check of one number are the same, where two successes are
pub broken_same : {A : Type 0} (r s : Result A Rule) → broken_by r ≡ broken_by s → ((a b : A) → r ≡ Ok a → s ≡ Ok b → a ≡ b) → r ≡ s
broken_same (Ok a) (Ok b) e same = ap Ok (same a b refl refl)
broken_same (Ok a) (Err rule) e same = absurd (number_positive rule (sym e))
broken_same (Err rule) (Ok b) e same = absurd (number_positive rule e)
broken_same (Err rule) (Err other) e same = ap Err (rule_unique rule other e)

pub broken_unique : (r s : Result (Unit {0}) Rule) → broken_by r ≡ broken_by s → r ≡ s
broken_unique r s e = broken_same r s e (λ a b p q. refl)
