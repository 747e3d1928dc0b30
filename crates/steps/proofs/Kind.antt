-- A task has one of three kinds at a cell: it doesn't name it, it reads it, or it writes it. The kind says how many of the task's
-- own steps are on the cell.
use Prim.Native.Nat.{ℕ}

pub data Kind : Type 0 where
  none read write : Kind

-- the own steps on a cell: a read's wait and end; a write's two waits and two ends
abbrev pub full : Kind → ℕ
full none = 0
full read = 2
full write = 4
