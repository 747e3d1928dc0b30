-- The plain run: the tasks one after another, each task's operations one after another (01, "What is built").
use Rattle.std.specs.Prelude.{List, [], ◌∷◌, ℕ}
use Rattle.layout.specs.Flow.{Operation, Task}
use Rattle.steps.specs.Operations.{Effect, operated}

-- the cells after operations
unfoldable pub after_operations : Effect → List Operation → List ℕ → List ℕ
after_operations does [] cells = cells
after_operations does (o ∷ operations) cells = after_operations does operations (operated does o cells)

-- the cells after tasks
unfoldable pub after_tasks : Effect → List Task → List ℕ → List ℕ
after_tasks does [] cells = cells
after_tasks does (task ∷ tasks) cells = after_tasks does tasks (after_operations does task.operations cells)
