-- A row of 48 bytes and refusals 6 to 11, 17 and 18 (01, "The file" and "Numbers of refusal"; 02, Q-6 and Q-9): the task that a row
-- holds, what each rule asks of it, and the first rule that it breaks. A rule on what a task may do is stated over the task; a rule on bytes
-- that must be zero, over the row.
use Rattle.std.specs.Prelude.{Bool, true, not, cond, ◌&&◌, ◌||◌, List, [], ◌∷◌, ◌++◌, ℕ, ◌+◌, ◌*◌, length, eqb, leb, ltb}
use Rattle.layout.specs.Lists.{each, all, any, joined}
use Rattle.layout.specs.Bytes.{at, word, word_bytes, part, all_zero, padded}
use Rattle.layout.specs.Flow.{Access, Operation, Task, most_accesses, most_operations, up_to}
use Rattle.layout.specs.Refusal.{first_broken}

-- ---- what a row holds

-- "bytes 4-11 four accesses (cell, mode)"
abbrev pub access_at : List ℕ → ℕ → Access
access_at row j = record { cell = at row (4 + 2 * j); mode = at row (5 + 2 * j) }

-- "bytes 12-47 six operations of six bytes (code, a, b, zero, k low, k high)"
abbrev pub operation_at : List ℕ → ℕ → Operation
operation_at row i =
    record { code = at row (12 + 6 * i); a = at row (13 + 6 * i); b = at row (14 + 6 * i); k = word row (16 + 6 * i) }

-- the operation's fourth byte, which is zero
abbrev pub spare_at : List ℕ → ℕ → ℕ
spare_at row i = at row (15 + 6 * i)

-- "byte 0 owner, 1 number of accesses, 2 number of operations"
unfoldable pub task_of : List ℕ → Task
task_of row =
    record { owner = at row 0; accesses = each (at row 1) (access_at row); operations = each (at row 2) (operation_at row) }

-- ---- the row of a task

-- an access's two bytes, an operation's six
abbrev pub access_bytes : Access → List ℕ
access_bytes access = access.cell ∷ access.mode ∷ []

abbrev pub operation_bytes : Operation → List ℕ
operation_bytes o = o.code ∷ o.a ∷ o.b ∷ 0 ∷ word_bytes o.k

-- "Unused accesses and operations are all zero"
unfoldable pub row_of : Task → List ℕ
row_of task =
    task.owner ∷ length task.accesses ∷ length task.operations ∷ 0
    ∷ padded 8 (joined access_bytes task.accesses) ++ padded 36 (joined operation_bytes task.operations)

-- ---- what an operation reads (the table of codes)

-- codes 3, 4 and 6 read a
abbrev pub reads_a : ℕ → Bool
reads_a code = eqb code 3 || eqb code 4 || eqb code 6

-- codes 2 to 6 read b
abbrev pub reads_b : ℕ → Bool
reads_b code = not (eqb code 1)

-- ---- the modes

-- the mode under which the accesses name a cell; 0 where none does
unfoldable pub mode_of : List Access → ℕ → ℕ
mode_of [] cell = 0
mode_of (access ∷ accesses) cell = cond (eqb access.cell cell) access.mode (mode_of accesses cell)

-- "An operation may write a cell of mode 2 or 3"
abbrev pub may_write : ℕ → Bool
may_write mode = eqb mode 2 || eqb mode 3

-- one of the operations writes the cell
unfoldable pub written : List Operation → ℕ → Bool
written operations cell = any (λ o. eqb o.a cell) operations

-- "It may read a cell of mode 1 or 3, or of mode 2 once an earlier operation of the same task has written it"
abbrev pub may_read : ℕ → Bool → Bool
may_read mode written_before = eqb mode 1 || eqb mode 3 || eqb mode 2 && written_before

-- an operation keeps to the modes, those before it given
unfoldable pub keeps_modes : List Access → List Operation → Operation → Bool
keeps_modes accesses earlier o =
    may_write (mode_of accesses o.a)
    && (not (reads_a o.code) || may_read (mode_of accesses o.a) (written earlier o.a))
    && (not (reads_b o.code) || may_read (mode_of accesses o.b) (written earlier o.b))

-- all operations do, each after the ones before it
unfoldable pub all_keep_modes : List Access → List Operation → List Operation → Bool
all_keep_modes accesses earlier [] = true
all_keep_modes accesses earlier (o ∷ later) = keeps_modes accesses earlier o && all_keep_modes accesses (o ∷ earlier) later

-- ---- the rules of a row

-- 6: "owner not below workers"
abbrev pub owner_sound : ℕ → List ℕ → Bool
owner_sound workers row = ltb (at row 0) workers

-- 7: "accesses not 1-4, operations over 6, or row byte 3 not zero"
abbrev pub counts_sound : List ℕ → Bool
counts_sound row = up_to most_accesses (at row 1) && leb (at row 2) most_operations && eqb (at row 3) 0

-- a cell and a mode within range
abbrev pub access_in_range : ℕ → Access → Bool
access_in_range cells access = ltb access.cell cells && up_to 3 access.mode

-- 8: "a used access with cell or mode outside range, or an unused one not zero"
unfoldable pub accesses_sound : ℕ → List ℕ → Bool
accesses_sound cells row = all (access_in_range cells) (task_of row).accesses && all_zero (part (4 + 2 * at row 1) 12 row)

-- the cell is among those that the accesses name
unfoldable pub names : List Access → ℕ → Bool
names accesses cell = any (λ access. eqb access.cell cell) accesses

-- 9: "a cell named twice among the accesses"
unfoldable pub named_once : List Access → Bool
named_once [] = true
named_once (access ∷ accesses) = not (names accesses access.cell) && named_once accesses

-- "Must be zero": b with code 1, k with the others
abbrev pub zeros_kept : Operation → Bool
zeros_kept o = cond (eqb o.code 1) (eqb o.b 0) (eqb o.k 0)

-- a known code, a and b below cells, and zero what must be
abbrev pub operation_in_range : ℕ → Operation → Bool
operation_in_range cells o = up_to 6 o.code && ltb o.a cells && ltb o.b cells && zeros_kept o

-- the operation at a place of the row is within range, and its fourth byte is zero
abbrev pub operation_sound : ℕ → List ℕ → ℕ → Bool
operation_sound cells row i = operation_in_range cells (operation_at row i) && eqb (spare_at row i) 0

-- 10: "unknown code, a or b not below cells, or a byte that must be zero (unused operations too) isn't"
unfoldable pub operations_sound : ℕ → List ℕ → Bool
operations_sound cells row =
    all (operation_sound cells row) (each (at row 2) (λ i. i)) && all_zero (part (12 + 6 * at row 2) 48 row)

-- one of the task's operations is 'the larger of', code 6
abbrev pub uses_larger : Task → Bool
uses_larger task = any (λ o. eqb o.code 6) task.operations

-- 18: "Retire 'the larger of'": where it is retired, no operation is one
abbrev pub retirement_kept : Bool → Task → Bool
retirement_kept retired task = not (retired && uses_larger task)

-- "in readers for version 2 only"
abbrev pub retired_in_reader : ℕ → Bool
retired_in_reader version = eqb version 2

-- "in the writer for both versions"
abbrev pub retired_in_writer : ℕ → Bool
retired_in_writer version = true

-- 11: "an operation reads or writes against the modes"
abbrev pub modes_sound : Task → Bool
modes_sound task = all_keep_modes task.accesses [] task.operations

-- a cell of mode 2 is written by one of the operations; "Mode 3 cells need not be written"
abbrev pub write_made : List Operation → Access → Bool
write_made operations access = not (eqb access.mode 2) || written operations access.cell

-- 17: "a task in which a mode 2 cell is written by no operation"
abbrev pub writes_made : Task → Bool
writes_made task = all (write_made task.operations) task.accesses

-- the first of 6 to 11 that a row breaks, with 18 "after 10 and before 11 on the same task" and 17 "directly after 11"; 0 where it breaks none
unfoldable pub row_refusal : Bool → ℕ → ℕ → List ℕ → ℕ
row_refusal retired workers cells row =
    first_broken
    ((6, owner_sound workers row)
    ∷ (7, counts_sound row)
    ∷ (8, accesses_sound cells row)
    ∷ (9, named_once (task_of row).accesses)
    ∷ (10, operations_sound cells row)
    ∷ (18, retirement_kept retired (task_of row))
    ∷ (11, modes_sound (task_of row))
    ∷ (17, writes_made (task_of row))
    ∷ [])
