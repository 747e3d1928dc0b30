-- What is answered of the worst case in 01's terms (02, Q-10): the check's number and place, the total, and with every worker named once in each
-- stretch the most stretches, steps and held steps; zero with a refusal.
use Rattle.std.specs.Prelude.{ℕ, Result, Ok, Err}
use Rattle.layout.specs.Flow.{Flow}
use Rattle.layout.specs.Refusal as Rules
use Rattle.layout.specs.File.{told}
use Rattle.steps.specs.Run.{total}
use Rattle.steps.specs.Waiting.{own_total, most_steps, most_held}
use Rattle.refusal.specs.declared.Refusal.{Refusal}
use Rattle.refusal.specs.Numbers.{answer_of}
use Rattle.longest.specs.declared.Longest.{Longest}

-- number and place, the total, and the worst case
pub record LongestAnswer : Type 0 where
  pub number : ℕ
  pub place : ℕ
  pub total : ℕ
  pub stretches : ℕ
  pub steps : ℕ
  pub held : ℕ

-- what is told with a number and a place that are met
abbrev pub longest_with : Rules.Answer → Flow → LongestAnswer
longest_with met flow =
    record {
      number = met.number;
      place = met.place;
      total = told met (total flow);
      stretches = told met (own_total flow.tasks);
      steps = told met (most_steps flow.workers flow.tasks);
      held = told met (most_held flow.workers flow.tasks);
    }

-- the number and values of each case
abbrev pub answer_by : Result Longest Refusal → LongestAnswer
answer_by (Ok met) =
    record {
      number = 0;
      place = 0;
      total = met.total;
      stretches = met.stretches;
      steps = met.steps;
      held = met.held;
    }
answer_by (Err met) =
    record { number = (answer_of met).number; place = (answer_of met).place; total = 0; stretches = 0; steps = 0; held = 0 }
