-- How refusals are given (01, "Numbers of refusal"): "An answer is a number and a place, 0 where none is named; success is 0,
-- place 0", and "The first one met is given".
use Rattle.std.specs.Prelude.{Bool, cond, List, [], ◌∷◌, ℕ, zero, suc, ◌+◌, eqb}

pub record Answer : Type 0 where
  pub number : ℕ
  pub place : ℕ

abbrev pub success : Answer
success = record { number = 0; place = 0 }

abbrev pub refusal : ℕ → ℕ → Answer
refusal number place = record { number = number; place = place }

-- a number is given unless its rule is kept; 0 is no refusal
abbrev pub unless : Bool → ℕ → ℕ
unless kept number = cond kept 0 number

-- of several rules, each under its number, the number of the first that isn't kept; 0 where all are
unfoldable pub first_broken : List (ℕ × Bool) → ℕ
first_broken [] = 0
first_broken (rule ∷ rules) = cond rule.1 (first_broken rules) rule.0

-- the first answer, unless it is no refusal: then the second
abbrev pub or_else : Answer → Answer → Answer
or_else first second = cond (eqb first.number 0) second first

-- the first refusal met at the places from, from + 1, .., as many as count
unfoldable pub first_at : (ℕ → ℕ) → ℕ → ℕ → Answer
first_at number from zero = success
first_at number from (suc count) = or_else (refusal (number from) from) (first_at number (from + 1) count)
