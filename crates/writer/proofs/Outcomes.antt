-- What the writer answers and leaves follows from the answer that its rules give: with a refusal the count of bytes is 0 and no lent
-- byte changes; with success the bytes are told and the blocks stand first.
use Rattle.std.proofs.Common.{◌≡◌, ℕ, ◌*◌, ◌≤◌, List, ◌++◌, length, drop, Result, Ok, Err, ap, ◌∙◌}
use Rattle.std.specs.Prelude.{IsErr, IsErrAnd}
use borrow.Author.Tests.{ne_eqb}
use Rattle.layout.specs.Refusal as Rules
use Rattle.layout.specs.Refusal.{success}
use Rattle.layout.specs.Block.{blocks_for, block_of}
use Rattle.layout.specs.File.{lent_after}
use Rattle.layout.specs.Write.{row_count, file_of, write_answer}
use Rattle.refusal.specs.declared.Refusal.{Refusal}
use Rattle.refusal.specs.Numbers.{answer_of}
use Rattle.refusal.proofs.Unique.{number_positive}
use Rattle.flow.specs.declared.Flow.{Flow}
use Rattle.file.proofs.Outcomes.{lent_kept}
use Rattle.file.proofs.Laid.{laid_is}
use Rattle.writer.specs.Answers.{write_with, write_refused, answer_by}
use Rattle.writer.specs.Promises.{WritePromise}
use Rattle.writer.proofs.Order.{from_given, FlowMade, output_long}
use Rattle.writer.proofs.Laid.{block_long}

-- ---- with a refusal

module _ (rows : List ℕ) (version workers cells : ℕ) (out : List ℕ) (met : Refusal)
    (e : answer_of met ≡ write_answer rows version workers cells (length out)) where
  pub refused_is : WritePromise rows version workers cells out (answer_by (Err met)) out
  refused_is =
      let file = file_of version (row_count rows) workers cells rows in
      let zeros : write_refused (answer_of met) ≡ write_with (answer_of met) rows =
      rw (ne_eqb (answer_of met).number 0 (number_positive met.rule)) in
      record {
        answer = zeros ∙ ap (λ (a : Rules.Answer). write_with a rows) e;
        lent = lent_kept (answer_of met) (number_positive met.rule) file out ∙ ap (λ (a : Rules.Answer). lent_after a file out) e;
      }

  -- as it is passed on
  pub refused_as : (r : Result ℕ Refusal) → IsErr r × IsErrAnd r (λ given. given ≡ met)
      → WritePromise rows version workers cells out (answer_by r) out
  refused_as (Ok bytes) is = absurd is.1
  refused_as (Err given) is = rw is.1 refused_is

-- ---- with success

pub write_done : {rows : List ℕ} {version workers cells : ℕ} {out : List ℕ} {flow : Flow} → FlowMade rows version workers cells flow
    → success ≡ from_given rows flow.version flow.tasks flow.workers flow.cells
    → (blocks : ℕ) (after : List ℕ)
    → blocks ≡ blocks_for flow.tasks
    → 512 * blocks_for flow.tasks ≤ length out
    → after ≡ file_of flow.version flow.tasks flow.workers flow.cells rows ++ drop (512 * blocks_for flow.tasks) out
    → WritePromise rows version workers cells out (answer_by (Ok (512 * blocks))) after
unfolding file_of
write_done {rows} {version} {workers} {cells} {out} {flow} f passed blocks after b room e =
    let done = output_long f passed (length out) room in
    let file = file_of version (row_count rows) workers cells rows in
    record {
      answer =
          ap (λ (n : ℕ). answer_by (Ok (512 * n))) (b ∙ ap blocks_for f.whole.count_is) ∙ ap (λ (a : Rules.Answer). write_with a rows) done;
      lent =
          e
          ∙ (λ i.
          file_of (f.made.version_is i) (f.whole.count_is i) (f.made.workers_is i) (f.made.cells_is i) rows
          ++ drop (512 * blocks_for (f.whole.count_is i)) out)
          ∙ laid_is 512 (block_of version (row_count rows) workers cells rows) (λ index. index) out (blocks_for (row_count rows))
          (λ i l. block_long version (row_count rows) workers cells rows i f.is_whole l)
          ∙ ap (λ (a : Rules.Answer). lent_after a file out) done;
    }
