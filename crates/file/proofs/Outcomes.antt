-- What a call that goes on after the check has of it: with a refusal the bytes that it was lent are as they were; the same answer, and of an
-- accepted file the sizes, which are within the limits, the rows and the flow.
use mathlib.Core.Path.{◌≡◌, sym, ap, subst, ◌∙◌}
use mathlib.Core.List.{List}
use Prim.Native.Nat.{ℕ, ◌*◌, ◌≤◌, ◌<◌}
use native.Mathlib.Omega.{arith}
use borrow.Author.Tests.{ne_eqb}
use lib.ListN.{length}
use Rattle.layout.specs.Flow.{most_tasks, WithinLimits}
use Rattle.layout.specs.Refusal as Rules
use Rattle.layout.specs.Refusal.{success, refusal}
use Rattle.layout.specs.Block.{blocks_for}
use Rattle.layout.specs.File.{version_of, tasks_of, workers_of, cells_of, file_answer, flow_of, tasks_in, lent_after}
use Rattle.layout.proofs.Blocks.{version_byte}
use Rattle.roundtrip.proofs.Answers.{FileKept, file_keeps, keeps_file}
use Rattle.roundtrip.proofs.Read.{fewest, file_sizes, version_known}
use Rattle.file.specs.Answers.{CheckAnswer, check_with}
use Rattle.file.specs.Promises.{CheckPromise}

-- ---- with a refusal

module _ (met : Rules.Answer) (some : met.number ≡ 0 → ⊥) where
  -- a call that fills lent bytes leaves them as they were
  pub lent_kept : (bytes lent : List ℕ) → lent ≡ lent_after met bytes lent
  lent_kept bytes lent = rw (ne_eqb met.number 0 some)

-- ---- an accepted file

module _ (file : List ℕ) (none : (file_answer file).number ≡ 0) where
  pub file_kept : FileKept file
  file_kept = file_keeps file none

  pub succeeds : success ≡ file_answer file
  succeeds = sym (keeps_file file file_kept)

  pub some_block : 512 ≤ length file
  some_block = omega (arith, file_kept)

  pub rows_stand : length file ≡ 512 * blocks_for (tasks_of file)
  rows_stand = omega (arith, file_kept, fewest file file_kept)

  pub sizes_fit : WithinLimits (tasks_of file) (workers_of file) (cells_of file)
  sizes_fit = file_sizes file file_kept

  pub version_fits : version_of file < 256
  version_fits = version_byte (version_of file) (version_known file file_kept)

-- ---- what a call has of the check

module _ {file : List ℕ} {met : CheckAnswer} (promised : CheckPromise file met) where
  pub same_answer : refusal met.number met.place ≡ file_answer file
  same_answer = ap (λ (a : CheckAnswer). refusal a.number a.place) promised.answer

  module _ (none : met.number ≡ 0) where
    pub accepted : (file_answer file).number ≡ 0
    accepted = sym (ap (λ (a : Rules.Answer). a.number) same_answer) ∙ none

    pub met_is : met ≡ check_with success file
    met_is = promised.answer ∙ ap (λ (a : Rules.Answer). check_with a file) (sym (succeeds file accepted))

    -- its version and sizes
    pub version_held : met.version ≡ (flow_of file).version
    unfolding flow_of
    version_held = ap (λ (a : CheckAnswer). a.version) met_is

    pub tasks_are : met.tasks ≡ tasks_of file
    tasks_are = ap (λ (a : CheckAnswer). a.tasks) met_is

    pub workers_are : met.workers ≡ workers_of file
    workers_are = ap (λ (a : CheckAnswer). a.workers) met_is

    pub cells_are : met.cells ≡ cells_of file
    cells_are = ap (λ (a : CheckAnswer). a.cells) met_is

    pub within : WithinLimits met.tasks met.workers met.cells
    within =
        subst (λ (a : CheckAnswer). WithinLimits a.tasks a.workers a.cells) (sym met_is) (sizes_fit file accepted)

    -- where its rows stand
    pub rows_fit : (length file ≡ 512 * blocks_for met.tasks) × (met.tasks ≤ most_tasks)
    rows_fit = omega (arith, tasks_are, rows_stand file accepted, within)

    -- the flow that it is accepted as
    pub tasks_held : tasks_in file met.tasks ≡ (flow_of file).tasks
    unfolding flow_of
    tasks_held = ap (tasks_in file) tasks_are

    pub workers_held : met.workers ≡ (flow_of file).workers
    unfolding flow_of
    workers_held = workers_are

    pub cells_held : met.cells ≡ (flow_of file).cells
    unfolding flow_of
    cells_held = cells_are
