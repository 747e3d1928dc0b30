-- A file that the check accepts is ready to be run: the rules that its rows keep are what a step asks of them.
use mathlib.Core.Path.{◌≡◌, sym, subst, ◌∙◌}
use mathlib.Core.Bool.{Bool, true}
use mathlib.Core.List.{List}
use Prim.Native.Nat.{ℕ, ◌+◌, ◌-◌, ◌<◌, ◌≤◌}
use native.Mathlib.Omega.{arith}
use lib.ListN.{length}
use Rattle.layout.specs.Flow.{most_workers, most_cells, WithinLimits}
use Rattle.layout.specs.Row.{operations_sound}
use Rattle.layout.specs.File.{row_at, tasks_of, workers_of, cells_of, file_answer}
use Rattle.layout.proofs.Lists.{and_both}
use Rattle.layout.proofs.Modes.{access_cell, operation_cells}
use Rattle.roundtrip.proofs.Rows.{RowKept, row_keeps}
use Rattle.roundtrip.proofs.Read.{file_sizes, row_sized}
use Rattle.file.specs.Answers.{CheckAnswer}
use Rattle.file.specs.Promises.{CheckPromise}
use Rattle.file.proofs.Outcomes.{file_kept, rows_stand, accepted, tasks_are, cells_are}
use Rattle.arrays.specs.Ready.{RowFits, Ready}

-- ---- a row that keeps the rules

operations_kept : {retired : Bool} (workers cells : ℕ) (row : List ℕ) → RowKept retired workers cells row → operations_sound cells row ≡ true
unfolding operations_sound
operations_kept workers cells row k = and_both _ _ k.operations k.operations_rest

row_ready : {retired : Bool} (workers cells : ℕ) (row : List ℕ) → workers ≤ most_workers → cells ≤ most_cells → length row ≡ 48
    → RowKept retired workers cells row
    → RowFits row cells
row_ready workers cells row few_workers few_cells sized k =
    record {
      size = sized;
      owner_fits = omega (arith, k.counts);
      some_access = k.counts.some_access;
      few_accesses = k.counts.accesses_fit;
      few_operations = k.counts.operations_fit;
      access_cells = λ j h. omega (arith, access_cell cells row j k.accesses h);
      writes_cells = λ i h. (operation_cells cells row i (operations_kept workers cells row k) h).0;
      reads_cells = λ i h. (operation_cells cells row i (operations_kept workers cells row k) h).1;
    }

-- ---- a file that keeps them

module _ (file : List ℕ) (none : (file_answer file).number ≡ 0) where
  sizes : WithinLimits (tasks_of file) (workers_of file) (cells_of file)
  sizes = file_sizes file (file_kept file none)

  kept_row : (i : ℕ) → i < tasks_of file → RowFits (row_at file (i + 1)) (cells_of file)
  kept_row i h =
      row_ready (workers_of file) (cells_of file) (row_at file (i + 1)) sizes.workers_fit sizes.cells_fit
      (row_sized file (file_kept file none) i h)
      (row_keeps _ (workers_of file) (cells_of file) (row_at file (i + 1)) ((file_kept file none).rows i h))

  file_ready : Ready file (tasks_of file) (cells_of file)
  file_ready =
      record {
        size = rows_stand file none;
        few_tasks = sizes.tasks_fit;
        rows =
            λ task low high.
            let again : task - 1 + 1 ≡ task = omega arith in
            subst (λ (t : ℕ). RowFits (row_at file t) (cells_of file)) again (kept_row (task - 1) (omega arith));
      }

-- ---- a file that the check accepts

pub ready : {file : List ℕ} {met : CheckAnswer} → CheckPromise file met → met.number ≡ 0 → (cells : ℕ) → cells ≡ met.cells
    → Ready file met.tasks cells
ready {file} promised none cells e =
    subst (λ (n : ℕ). Ready file n cells) (sym (tasks_are promised none))
    (subst (Ready file (tasks_of file)) (sym (e ∙ cells_are promised none)) (file_ready file (accepted promised none)))
