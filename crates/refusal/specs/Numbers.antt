-- The number of each rule (01, "Numbers of refusal"; 02), and what an answer stands for: "An answer is a number and a place, 0 where none is named;
-- success is 0, place 0".
use Rattle.std.specs.Prelude.{ℕ, Result, Ok, Err}
use Rattle.layout.specs.Refusal as Rules
use Rattle.refusal.specs.declared.Rule.{Rule}
use Rattle.refusal.specs.declared.Rule.TheVariants.{Length, Check, Head, Sizes, Rest, Owner, Counts, Accesses, NamedOnce, Operations, Modes, Start, Schedule, Worker, Rows, Room, Written, Retired, Version}
use Rattle.refusal.specs.declared.Refusal.{Refusal}

abbrev pub number_of : Rule → ℕ
number_of Length = 1
number_of Check = 2
number_of Head = 3
number_of Sizes = 4
number_of Rest = 5
number_of Owner = 6
number_of Counts = 7
number_of Accesses = 8
number_of NamedOnce = 9
number_of Operations = 10
number_of Modes = 11
number_of Start = 12
number_of Schedule = 13
number_of Worker = 14
number_of Rows = 15
number_of Room = 16
number_of Written = 17
number_of Retired = 18
number_of Version = 22

-- of what a check answers: the number of the rule that is broken, 0 where none is
abbrev pub broken_by : {A : Type 0} → Result A Rule → ℕ
broken_by (Ok a) = 0
broken_by (Err rule) = number_of rule

-- a refusal's number and place
abbrev pub answer_of : Refusal → Rules.Answer
answer_of met = Rules.refusal (number_of met.rule) met.place

-- an answer's: success, or those of its refusal
abbrev pub met_by : {A : Type 0} → Result A Refusal → Rules.Answer
met_by (Ok a) = Rules.success
met_by (Err met) = answer_of met
