-- Rule 9 by the table of modes: one access more, in front of those from some index on, which name no cell twice.
use Rattle.std.proofs.Common.{◌≡◌, ℕ, ◌-◌, ◌+◌, ◌*◌, ◌≤◌, ◌<◌, true, false, List, ◌∷◌, drop, ap, ◌∙◌, arith}
use mathlib.Core.Bool.{and-true, not-not}
use borrow.Author.Tests.{ne_eqb, eq-eqb}
use lib.Dec.{eqb}
use Rattle.layout.specs.Lists.{all}
use Rattle.layout.specs.Bytes.{at}
use Rattle.layout.specs.Flow.{most_cells}
use Rattle.layout.specs.Row.{access_at, task_of, access_in_range, named_once}
use Rattle.layout.proofs.Lists.{all_keeps}
use Rattle.layout.proofs.Modes.{each-drop_less, all_drop, access_cell, access_mode, names_mode, once_drop}
use Rattle.modes.specs.Table.{mode_in, with_mode, table_of}
use Rattle.modes.proofs.Table.{table_mode}

-- what is known once the accesses from j on are in the table, and the one before them is read
pub record Turn (row : List ℕ) (j modes cell mode : ℕ) : Type 0 where
  pub sound : all (access_in_range most_cells) (task_of row).accesses ≡ true
  pub more : 0 < j
  pub most : j ≤ at row 1
  pub once : named_once (drop j (task_of row).accesses) ≡ true
  pub table : modes ≡ table_of (drop j (task_of row).accesses)
  pub cell_is : cell ≡ at row (4 + 2 * (j - 1))
  pub mode_is : mode ≡ at row (5 + 2 * (j - 1))

module _ {row : List ℕ} {j modes cell mode : ℕ} (turn : Turn row j modes cell mode) where
  next : drop (j - 1) (task_of row).accesses ≡ access_at row (j - 1) ∷ drop j (task_of row).accesses
  unfolding task_of
  next = each-drop_less (at row 1) (access_at row) j turn.more turn.most

  pub next_cell : cell < most_cells
  next_cell = rw turn.cell_is (access_cell most_cells row (j - 1) turn.sound (omega arith))

  pub next_mode : mode ≤ 3
  unfolding task_of
  next_mode =
      rw turn.mode_is
      (access_mode most_cells (access_at row (j - 1)) (all_keeps (access_in_range most_cells) (at row 1) (access_at row) (j - 1) (omega arith) turn.sound)).1

  -- its cell is named once where the table has no mode for it
  once_next : named_once (drop (j - 1) (task_of row).accesses) ≡ eqb (mode_in modes cell) 0
  unfolding named_once
  once_next =
      let rest = drop j (task_of row).accesses in
      let within = all_drop (access_in_range most_cells) j (task_of row).accesses turn.sound in
      ap named_once next
      ∙ rw (turn.once, ← turn.cell_is, and-true, names_mode most_cells rest cell within, not-not, turn.table, table_mode most_cells rest within turn.once cell)

  pub named_twice : (mode_in modes cell ≡ 0 → ⊥) → named_once (task_of row).accesses ≡ false
  named_twice taken = once_drop (j - 1) (task_of row).accesses (once_next ∙ ne_eqb (mode_in modes cell) 0 taken)

  pub named_next : mode_in modes cell ≡ 0 → named_once (drop (j - 1) (task_of row).accesses) ≡ true
  named_next free = once_next ∙ eq-eqb (mode_in modes cell) 0 free

  pub table_next : with_mode modes cell mode ≡ table_of (drop (j - 1) (task_of row).accesses)
  unfolding table_of
  table_next = rw (next, turn.table, turn.cell_is, turn.mode_is)
