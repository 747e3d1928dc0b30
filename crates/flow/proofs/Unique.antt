-- The constructor's contract allows one outcome for a given version and sizes: it says what the number, the place, the version and the
-- sizes are, and these tell the case, the rule and the flow.
use mathlib.Core.HLevel.{is_prop→PathP}
use Rattle.std.proofs.Math.Bridge.{le_prop}
use Rattle.std.proofs.Common.{◌≡◌, ℕ, ◌<◌, ◌≤◌, Result, Ok, Err, sym, ap, ◌∙◌}
use Rattle.layout.specs.Flow.{most_tasks, most_workers, most_cells}
use Rattle.refusal.specs.declared.Rule.{Rule}
use Rattle.refusal.proofs.Unique.{number_positive, rule_unique}
use Rattle.flow.specs.Made.{FlowAnswer, stated_by, asked_for}
use Rattle.flow.specs.declared.Flow.{Flow}

-- a flow is told by its version and its sizes
pub flow_unique : (flow other : Flow) → flow.version ≡ other.version → flow.tasks ≡ other.tasks → flow.workers ≡ other.workers
    → flow.cells ≡ other.cells
    → flow ≡ other
flow_unique flow other version tasks workers cells i =
    record {
      version = version i;
      tasks = tasks i;
      workers = workers i;
      cells = cells i;
      version_fits = is_prop→PathP (λ j. version j < 256) (λ j. le_prop) flow.version_fits other.version_fits i;
      tasks_fit = is_prop→PathP (λ j. tasks j ≤ most_tasks) (λ j. le_prop) flow.tasks_fit other.tasks_fit i;
      workers_fit = is_prop→PathP (λ j. workers j ≤ most_workers) (λ j. le_prop) flow.workers_fit other.workers_fit i;
      cells_fit = is_prop→PathP (λ j. cells j ≤ most_cells) (λ j. le_prop) flow.cells_fit other.cells_fit i;
    }

-- two outcomes with one answer are the same
told_by : (r s : Result Flow Rule) → stated_by r ≡ stated_by s → r ≡ s
told_by (Ok flow) (Ok other) e =
    ap Ok
    (flow_unique flow other (ap (λ (a : FlowAnswer). a.version) e) (ap (λ (a : FlowAnswer). a.tasks) e)
    (ap (λ (a : FlowAnswer). a.workers) e)
    (ap (λ (a : FlowAnswer). a.cells) e))
told_by (Ok flow) (Err rule) e = absurd (number_positive rule (sym (ap (λ (a : FlowAnswer). a.number) e)))
told_by (Err rule) (Ok flow) e = absurd (number_positive rule (ap (λ (a : FlowAnswer). a.number) e))
told_by (Err rule) (Err other) e = ap Err (rule_unique rule other (ap (λ (a : FlowAnswer). a.number) e))

pub new_unique : (version tasks workers cells : ℕ) (r s : Result Flow Rule) → stated_by r ≡ asked_for version tasks workers cells
    → stated_by s ≡ asked_for version tasks workers cells
    → r ≡ s
new_unique version tasks workers cells r s p q = told_by r s (p ∙ sym q)
