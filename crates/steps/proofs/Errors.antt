-- Each case of the errors ends as demand 3 says: the definitions compute.
use mathlib.Core.Path.{◌≡◌, refl}
use mathlib.Core.List.{map}
use Rattle.layout.specs.Lists.{each, all}
use Rattle.layout.specs.Cases.{Case}
use Rattle.steps.specs.Operations.{becomes}
use Rattle.steps.specs.Plain.{after_operations, after_tasks}
use Rattle.steps.specs.Step.{of_each, own_steps, outcome, register_all, change, attempted, own_step, step_from, step}
use Rattle.steps.specs.Run.{counted, run_from, finished, access_steps, total_of}
use Rattle.steps.specs.Turns.{turn}
use Rattle.steps.specs.Errors.{ends_well, errors}

pub errors_shown : map (λ (c : Case). c.got) errors ≡ map (λ (c : Case). c.expected) errors
unfolding each all becomes after_operations after_tasks of_each own_steps outcome register_all change attempted own_step step_from step counted run_from finished access_steps total_of turn ends_well errors
errors_shown = refl
