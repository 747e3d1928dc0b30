-- Rule 11 by the table of modes: what all operations keep to is what those from some index on keep to, after the ones before it; and
-- the table that all leave is the one that those leave.
use Rattle.std.proofs.Common.{◌≡◌, ℕ, ◌+◌, ◌*◌, ◌≤◌, ◌<◌, Bool, true, false, ◌&&◌, List, drop, sym, ap, ◌∙◌, add-one}
use Rattle.layout.specs.Bytes.{at}
use Rattle.layout.specs.Flow.{most_cells}
use Rattle.layout.specs.Row.{operation_at, task_of, operations_sound, keeps_modes, all_keep_modes, modes_sound}
use Rattle.layout.proofs.Modes.{each-drop, each-drop-all, operation_cells, earlier, keep_next}
use Rattle.modes.specs.Table.{mode_in, with_mode, keeps_table, table_after, table_left}
use Rattle.modes.proofs.Table.{Table, table_operation, keeps_same}

-- what is known once the operations before i have kept to the modes
pub record KeptSoFar (row : List ℕ) (i modes : ℕ) : Type 0 where
  pub table : Table (task_of row).accesses (earlier i (operation_at row)) modes
  pub rest : modes_sound (task_of row)
      ≡ all_keep_modes (task_of row).accesses (earlier i (operation_at row)) (drop i (task_of row).operations)
  pub left : table_left (task_of row) ≡ table_after modes (drop i (task_of row).operations)

-- one operation more, of which the code and the cells are read
pub record Turn (row : List ℕ) (i modes code a b : ℕ) : Type 0 where
  pub sound : operations_sound most_cells row ≡ true
  pub more : i < at row 2
  pub kept : KeptSoFar row i modes
  pub code_is : code ≡ at row (12 + 6 * i)
  pub cells_are : (a ≡ at row (13 + 6 * i)) × (b ≡ at row (14 + 6 * i))

module _ {row : List ℕ} {i modes code a b : ℕ} (turn : Turn row i modes code a b) where
  pub cells_fit : (a < most_cells) × (b < most_cells)
  cells_fit = rw (turn.cells_are.0, turn.cells_are.1) (operation_cells most_cells row i turn.sound turn.more)

  -- what the operation asks of the table
  abbrev asked : Bool
  asked = keeps_table code (mode_in modes a) (mode_in modes b)

  -- the table answers as the modes do
  answers : asked ≡ keeps_modes (task_of row).accesses (earlier i (operation_at row)) (operation_at row i)
  answers =
      rw (turn.kept.table.holds a, turn.kept.table.holds b, turn.code_is, turn.cells_are.0, turn.cells_are.1)
      (keeps_same (task_of row).accesses (earlier i (operation_at row)) (operation_at row i))

  next : modes_sound (task_of row)
      ≡ (asked && all_keep_modes (task_of row).accesses (earlier (i + 1) (operation_at row)) (drop (i + 1) (task_of row).operations))
  unfolding task_of
  next = rw answers (turn.kept.rest ∙ keep_next (task_of row).accesses (at row 2) (operation_at row) i turn.more)

  pub breaks : asked ≡ false → modes_sound (task_of row) ≡ false
  breaks broken = rw broken at next

  left_next : table_left (task_of row) ≡ table_after (with_mode modes a 1) (drop (i + 1) (task_of row).operations)
  unfolding task_of table_after
  left_next = rw turn.cells_are.0 (turn.kept.left ∙ ap (table_after modes) (each-drop (at row 2) (operation_at row) i turn.more))

  pub kept_next : asked ≡ true → KeptSoFar row (i + 1) (with_mode modes a 1)
  unfolding earlier
  kept_next keeps =
      record {
        table =
            rw (add-one, turn.cells_are.0)
            (table_operation (task_of row).accesses (earlier i (operation_at row)) (operation_at row i) modes (sym answers ∙ keeps) turn.kept.table);
        rest = rw keeps at next;
        left = left_next;
      }

-- once all have
pub kept_all : (row : List ℕ) (i modes : ℕ) → at row 2 ≤ i → KeptSoFar row i modes
    → (modes_sound (task_of row) ≡ true) × (modes ≡ table_left (task_of row))
unfolding task_of all_keep_modes table_after
kept_all row i modes h kept =
    let none = each-drop-all (at row 2) (operation_at row) i h in (
      kept.rest ∙ ap (all_keep_modes (task_of row).accesses (earlier i (operation_at row))) none,
      sym (kept.left ∙ ap (table_after modes) none),
    )
