-- What the flow type's constructor answers, as 01's and 02's number and place with the version and the sizes: success with those asked
-- for; number 22 and zeros for a version that is neither 1 nor 2, and after it number 4 and zeros where a size is outside the limits. No
-- block is named, so the place is 0, as the writer's is.
use Rattle.std.specs.Prelude.{cond, ℕ, Result, Ok, Err}
use Rattle.layout.specs.Flow.{known_version, in_range}
use Rattle.refusal.specs.declared.Rule.{Rule}
use Rattle.refusal.specs.Numbers.{number_of}
use Rattle.flow.specs.declared.Flow.{Flow}

-- a number, a place, and a flow's version and sizes
pub record FlowAnswer : Type 0 where
  pub number : ℕ
  pub place : ℕ
  pub version : ℕ
  pub tasks : ℕ
  pub workers : ℕ
  pub cells : ℕ

-- success, with the version and the sizes
abbrev pub stated : ℕ → ℕ → ℕ → ℕ → FlowAnswer
stated version tasks workers cells =
    record { number = 0; place = 0; version = version; tasks = tasks; workers = workers; cells = cells }

-- a refusal, with zeros
abbrev pub refused : ℕ → FlowAnswer
refused number = record { number = number; place = 0; version = 0; tasks = 0; workers = 0; cells = 0 }

-- the answer that each case stands for
abbrev pub stated_by : Result Flow Rule → FlowAnswer
stated_by (Ok flow) = stated flow.version flow.tasks flow.workers flow.cells
stated_by (Err rule) = refused (number_of rule)

-- the answer for the version and the sizes asked for
abbrev pub asked_for : ℕ → ℕ → ℕ → ℕ → FlowAnswer
asked_for version tasks workers cells =
    cond (known_version version)
    (cond (in_range tasks workers cells) (stated version tasks workers cells) (refused 4))
    (refused 22)
