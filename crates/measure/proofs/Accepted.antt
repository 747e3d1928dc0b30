-- What is measured without a refusal is the flow's: its sizes and its total.
use mathlib.Core.Path.{◌≡◌, sym, ap, ◌∙◌}
use mathlib.Core.Bool.{cond}
use mathlib.Core.List.{List}
use Prim.Native.Nat.{ℕ}
use lib.ListN.{length}
use lib.Dec.{eqb}
use Rattle.layout.specs.File.{file_answer, tasks_of, flow_of}
use Rattle.layout.proofs.Lists.{each-length}
use Rattle.steps.specs.Run.{total}
use Rattle.measure.specs.Answers.{MeasureAnswer}
use Rattle.measure.specs.Promises.{MeasurePromise}

module _ (file : List ℕ) (sizes : MeasureAnswer) (promised : MeasurePromise file sizes) (taken : sizes.number ≡ 0) where
  pub accepted : (file_answer file).number ≡ 0
  accepted = sym (ap (λ (m : MeasureAnswer). m.number) promised.answer) ∙ taken

  -- a number that is told of an accepted file
  whole : (n : ℕ) → cond (eqb (file_answer file).number 0) n 0 ≡ n
  whole n = ap (λ (k : ℕ). cond (eqb k 0) n 0) accepted

  pub tasks_are : sizes.tasks ≡ length (flow_of file).tasks
  unfolding flow_of
  tasks_are = ap (λ (m : MeasureAnswer). m.tasks) promised.answer ∙ whole _ ∙ sym (each-length (tasks_of file) _)

  pub workers_are : sizes.workers ≡ (flow_of file).workers
  unfolding flow_of
  workers_are = ap (λ (m : MeasureAnswer). m.workers) promised.answer ∙ whole _

  pub cells_are : sizes.cells ≡ (flow_of file).cells
  unfolding flow_of
  cells_are = ap (λ (m : MeasureAnswer). m.cells) promised.answer ∙ whole _

  pub total_is : sizes.total ≡ total (flow_of file)
  total_is = ap (λ (m : MeasureAnswer). m.total) promised.answer ∙ whole _
