-- The table of modes that the row check makes of a task's accesses: one number, of which two binary digits belong to each cell
-- that a flow can have. They hold the mode under which the task names the cell, 0 where it doesn't. Once an operation has
-- written a cell of mode 2, the cell may be read as well, as under mode 3.
use Rattle.std.specs.Prelude.{Bool, not, ◌&&◌, ◌||◌, List, [], ◌∷◌, ℕ, ◌*◌, ◌/◌, ◌%◌, ◌^◌, eqb}
use Rattle.std.specs.Int.Bits.{bit_or}
use Rattle.layout.specs.Lists.{each, all}
use Rattle.layout.specs.Flow.{Access, Operation, Task, most_cells}
use Rattle.layout.specs.Row.{may_write, reads_a, reads_b}

-- what the table has for a cell
abbrev pub mode_in : ℕ → ℕ → ℕ
mode_in modes cell = modes / 2 ^ (2 * cell) % 4

-- the table, with the digits of a mode set for a cell as well
abbrev pub with_mode : ℕ → ℕ → ℕ → ℕ
with_mode modes cell mode = bit_or modes (mode * 2 ^ (2 * cell))

-- the table of some accesses
unfoldable pub table_of : List Access → ℕ
table_of [] = 0
table_of (access ∷ accesses) = with_mode (table_of accesses) access.cell access.mode

-- a cell of mode 1 or 3 may be read
abbrev pub readable : ℕ → Bool
readable mode = eqb mode 1 || eqb mode 3

-- what an operation asks of the modes that the table has for its cells a and b
abbrev pub keeps_table : ℕ → ℕ → ℕ → Bool
keeps_table code of_a of_b =
    may_write of_a && (not (reads_a code) || readable of_a) && (not (reads_b code) || readable of_b)

-- the table after operations, each of which sets the digit of mode 1 for the cell that it writes
unfoldable pub table_after : ℕ → List Operation → ℕ
table_after modes [] = modes
table_after modes (o ∷ later) = table_after (with_mode modes o.a 1) later

-- the table that a task's operations leave of its accesses'
abbrev pub table_left : Task → ℕ
table_left task = table_after (table_of task.accesses) task.operations

-- a cell that the table still has under mode 2 is owed its write
abbrev pub owed : ℕ → ℕ → Bool
owed modes cell = eqb (mode_in modes cell) 2

-- and no cell is
unfoldable pub none_owed : ℕ → Bool
none_owed modes = all (λ cell. not (owed modes cell)) (each most_cells (λ cell. cell))
