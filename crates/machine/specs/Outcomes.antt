-- The outcome of a step as the code gives it, and the one of the rules that it stands for.
use Rattle.std.specs.Prelude.{Result, Ok, Err}
use Rattle.steps.specs.Step as Rules
use Rattle.machine.specs.declared.Held.{Held}
use Rattle.machine.specs.declared.Held.TheVariants.{PastLast, WriteDiffers, ReadsDiffer}

abbrev pub outcome_of : Result (Unit {0}) Held → Rules.Outcome
outcome_of (Ok done) = Rules.advanced
outcome_of (Err PastLast) = Rules.past_last
outcome_of (Err (WriteDiffers cell)) = Rules.write_differs cell
outcome_of (Err (ReadsDiffer cell)) = Rules.reads_differ cell
