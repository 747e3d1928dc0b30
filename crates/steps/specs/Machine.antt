-- What the stepped run keeps (01, "The steps"): the cells, the two shared numbers per cell, each worker's private row of counters,
-- and each worker's place.
use Rattle.std.specs.Prelude.{cond, List, ℕ, eqb}

-- a last write and the reads since it
pub record Counter : Type 0 where
  pub last_write : ℕ
  pub reads : ℕ

-- how many tasks a worker has gone past, and how many of its own steps of the next task it has made
pub record Place : Type 0 where
  pub passed : ℕ
  pub made : ℕ

pub record Machine : Type 0 where
  pub cells : List ℕ
  pub shared : ℕ → Counter
  pub private : ℕ → ℕ → Counter
  pub places : ℕ → Place

-- a numbered thing, replaced
abbrev pub put : {A : Type 0} → (ℕ → A) → ℕ → A → ℕ → A
put things i thing j = cond (eqb j i) thing (things j)

abbrev pub counter : ℕ → ℕ → Counter
counter last_write reads = record { last_write = last_write; reads = reads }

abbrev pub place : ℕ → ℕ → Place
place passed made = record { passed = passed; made = made }

-- a machine with one thing replaced
abbrev pub with_cells : Machine → List ℕ → Machine
with_cells m cells = record { cells = cells; shared = m.shared; private = m.private; places = m.places }

abbrev pub with_shared : Machine → ℕ → Counter → Machine
with_shared m cell now = record { cells = m.cells; shared = put m.shared cell now; private = m.private; places = m.places }

abbrev pub with_row : Machine → ℕ → (ℕ → Counter) → Machine
with_row m worker row = record { cells = m.cells; shared = m.shared; private = put m.private worker row; places = m.places }

abbrev pub with_place : Machine → ℕ → Place → Machine
with_place m worker now = record { cells = m.cells; shared = m.shared; private = m.private; places = put m.places worker now }

-- "All start at 0, and each worker starts at task 1"; the counters of last writes start at the number of the start
abbrev pub fresh : ℕ → List ℕ → Machine
fresh start cells =
    record { cells = cells; shared = λ c. counter start 0; private = λ w c. counter start 0; places = λ w. place 0 0 }
