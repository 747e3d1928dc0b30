-- Operation 6, 'the larger of', in a flow (02, Q-9): that no task has it, and which task is the first that does.
use Rattle.std.specs.Prelude.{◌≡◌, Bool, true, false, not, ℕ, ◌-◌, ◌<◌, ◌≤◌, length, get_or}
use Rattle.layout.specs.Lists.{all}
use Rattle.layout.specs.Flow.{Task, Flow}
use Rattle.layout.specs.Row.{uses_larger}

-- a flow "without operation 6"
abbrev pub without_larger : Flow → Bool
without_larger flow = all (λ task. not (uses_larger task)) flow.tasks

-- the first task that has it, counted from 1; whatever stands for a task past the end
pub record FirstLarger (flow : Flow) (task : ℕ) : Type 0 where
  pub from_1 : 1 ≤ task
  pub there : task ≤ length flow.tasks
  pub has_it : (none : Task) → uses_larger (get_or flow.tasks (task - 1) none) ≡ true
  pub none_before : (none : Task) (earlier : ℕ) → 1 ≤ earlier → earlier < task → uses_larger (get_or flow.tasks (earlier - 1) none) ≡ false
