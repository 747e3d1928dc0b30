-- `FullRun::of` meets its contract: an accepted file has the measured workers and total, and as many cells as are lent, all at 0.
use Rattle.std.proofs.Common.{◌≡◌, ℕ, ◌≤◌, List, ◌++◌, Ok, length, take, replicate, refl, sym, subst, ◌∙◌, length-take-le}
use Rattle.std.proofs.lemmas.List.{take-replicate}
use Rattle.std.proofs.Math.Seq.{take-append_seam}
use Rattle.layout.specs.Flow.{most_cells}
use Rattle.run.specs.Answers.{answer_by as ran_by}
use Rattle.measure.proofs.Accepted.{accepted, workers_are, cells_are, total_is}
use Rattle.in_turn.specs.Promises.{InTurnPromise}
use Rattle.full_run.proofs.FullRun.of.Goals as goal

pub run-ran-requires-clause-measures : goal.run-ran-requires-clause-measures
run-ran-requires-clause-measures c =
    let promised = c.in_ok-measured.ensures in
    record {
      accepted = accepted _ _ promised refl;
      workers_are = workers_are _ _ promised refl;
      total_is = total_is _ _ promised refl;
      start = length-take-le c.in_ok-measured.measured.flow.cells _ promised.cells_fit ∙ cells_are _ _ promised refl;
    }

-- what holds of the cells that are lent, at the front of all
lent : (P : List ℕ → List ℕ → Type 0) (count : ℕ) (after rest : List ℕ) → count ≤ most_cells → length after ≡ length {A = ℕ} (take count (replicate most_cells 0))
    → P (take count (replicate most_cells 0)) after
    → P (replicate count 0) (take count (after ++ rest))
lent P count after rest fits kept held =
    let length_is : length after ≡ count = kept ∙ length-take-le count (replicate most_cells 0) fits in
    let back : take count (after ++ rest) ≡ after = subst (λ n. take n (after ++ rest) ≡ after) length_is (take-append_seam after rest) in
    subst (λ before. P before (take count (after ++ rest))) (take-replicate count most_cells 0 fits) (subst (P (take count (replicate most_cells 0))) (sym back) held)

pub returns-clause-ran : goal.returns-clause-ran
returns-clause-ran c =
    lent (λ before after. InTurnPromise c.args.file.now before (ran_by (Ok c.run-ran.result)) after) c.in_ok-measured.measured.flow.cells
    c.run-ran.new.cells _ c.in_ok-measured.ensures.cells_fit c.run-ran.auto.cells c.run-ran.ensures.promised
