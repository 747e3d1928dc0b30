-- Only the access that names a cell gives steps on it, and no operation is one: so a task's own steps on a cell are the waits and
-- then the ends of that access, and the steps on it so far tell which comes next.
use mathlib.Core.Path.{◌≡◌, refl, sym}
use mathlib.Core.Bool.{Bool, true, false, cond}
use mathlib.Core.List.{List, [], ◌∷◌, ◌++◌, map, append-nil}
use Prim.Native.Nat.{ℕ, zero, suc, ◌+◌, ◌≤◌, ◌<◌}
use native.Mathlib.Omega.{arith}
use borrow.Author.Tests.{eq-eqb}
use lib.ListN.{length, get_or, take, drop}
use lib.Seq.{take-length}
use lib.Dec.{eqb}
use Rattle.layout.specs.Flow.{Access, Operation, Task}
use Rattle.layout.specs.Row.{named_once}
use Rattle.steps.specs.Step.{Try, wait_write, wait_reads, operate, end_read, zero_reads, post_write}
use Rattle.steps.specs.Step.{writes, waits, ends, of_each, own_steps}
use Rattle.steps.proofs.Kind.{Kind, none, read, write, full}
use Rattle.steps.proofs.Passing.{passing, count, passing-append, count_more}
use Rattle.steps.proofs.Passing.{count_failing, count-passing, passing_at, count_below}
use Rattle.steps.proofs.Naming.{kind_of, kind_by, Where, nowhere, at_first, at_later, where_named}

-- a wait or an end on cell c
abbrev pub on : ℕ → Try → Bool
on c (wait_write d) = eqb d c
on c (wait_reads d) = eqb d c
on c (operate o) = false
on c (end_read d) = eqb d c
on c (zero_reads d) = eqb d c
on c (post_write d) = eqb d c

-- ---- waits and ends alike: a write's two steps, a read's one

module _ (first second only : ℕ → Try) where
  -- on a cell, by the kind
  abbrev pub steps : Kind → ℕ → List Try
  steps none c = []
  steps read c = only c ∷ []
  steps write c = first c ∷ second c ∷ []

  -- of an access
  abbrev pub steps_of : Access → List Try
  steps_of access = cond (writes access) (steps write access.cell) (steps read access.cell)

  -- a test that passes all three on a cell, or none
  abbrev pub Alike : (Try → Bool) → (ℕ → Bool) → Type 0
  Alike test passes = (d : ℕ) → (test (first d) ≡ passes d) × (test (second d) ≡ passes d) × (test (only d) ≡ passes d)

  pub passing_access : (test : Try → Bool) (passes : ℕ → Bool) → Alike test passes → (access : Access)
      → passing test (steps_of access) ≡ cond (passes access.cell) (steps (kind_by access) access.cell) []
  unfolding passing
  passing_access test passes alike access = go access.cell (writes access) (passes access.cell) refl
    where
      go : (d : ℕ) (writing here : Bool) → passes d ≡ here
          → passing test (cond writing (steps write d) (steps read d)) ≡ cond here (steps (cond writing write read) d) []
      go d true true e = rw ((alike d).0, (alike d).1, e)
      go d true false e = rw ((alike d).0, (alike d).1, e)
      go d false true e = rw ((alike d).2, e)
      go d false false e = rw ((alike d).2, e)

  -- among the steps of each access, those on a cell are the steps of the access that names it
  pub on_each : {c : ℕ} {accesses : List Access} {kind : Kind} → Alike (on c) (λ d. eqb d c) → Where c accesses kind
      → passing (on c) (of_each steps_of accesses) ≡ steps kind c
  unfolding passing of_each
  on_each alike nowhere = refl
  on_each {c} alike (at_first {access} here rest) =
      rw (passing-append, passing_access (on c) _ alike access, eq-eqb access.cell c here, on_each alike rest, append-nil, here)
  on_each {c} alike (at_later {access} there rest) =
      rw (passing-append, passing_access (on c) _ alike access, there) (on_each alike rest)

abbrev pub waits_on : Kind → ℕ → List Try
waits_on = steps wait_write wait_reads wait_write

abbrev pub ends_on : Kind → ℕ → List Try
ends_on = steps zero_reads post_write end_read

abbrev pub cell_steps : Kind → ℕ → List Try
cell_steps kind c = waits_on kind c ++ ends_on kind c

-- the waits among them
abbrev pub waited : Kind → ℕ
waited none = 0
waited read = 1
waited write = 2

pub waits_width : (kind : Kind) (c : ℕ) → length (waits_on kind c) ≡ waited kind
waits_width none c = refl
waits_width read c = refl
waits_width write c = refl

full_width : (kind : Kind) (c : ℕ) → length (cell_steps kind c) ≡ full kind
full_width none c = refl
full_width read c = refl
full_width write c = refl

pub operations_off : (c : ℕ) (operations : List Operation) → passing (on c) (map operate operations) ≡ []
unfolding passing
operations_off c [] = refl
operations_off c (o ∷ operations) = operations_off c operations

-- ---- a task's own steps on a cell

-- the steps on the cell among the first k own steps
unfoldable pub stage : Task → ℕ → ℕ → ℕ
stage task c k = count (on c) (take k (own_steps task))

-- the next own step is on the cell: what it is
pub data NextOn (kind : Kind) (c at : ℕ) (try : Try) : Type 0 where
  read_waits : kind ≡ read → at ≡ 0 → try ≡ wait_write c → NextOn kind c at try
  read_ends : kind ≡ read → at ≡ 1 → try ≡ end_read c → NextOn kind c at try
  write_waits : kind ≡ write → at ≡ 0 → try ≡ wait_write c → NextOn kind c at try
  write_waits_reads : kind ≡ write → at ≡ 1 → try ≡ wait_reads c → NextOn kind c at try
  write_zeroes : kind ≡ write → at ≡ 2 → try ≡ zero_reads c → NextOn kind c at try
  write_posts : kind ≡ write → at ≡ 3 → try ≡ post_write c → NextOn kind c at try

next_on : (kind : Kind) (c at : ℕ) (try : Try) → at < full kind → get_or (cell_steps kind c) at try ≡ try → NextOn kind c at try
next_on none c at try l e = absurd (omega arith)
next_on read c zero try l e = read_waits refl refl (sym e)
next_on read c (suc zero) try l e = read_ends refl refl (sym e)
next_on read c (suc (suc at)) try l e = absurd (omega arith)
next_on write c zero try l e = write_waits refl refl (sym e)
next_on write c (suc zero) try l e = write_waits_reads refl refl (sym e)
next_on write c (suc (suc zero)) try l e = write_zeroes refl refl (sym e)
next_on write c (suc (suc (suc zero))) try l e = write_posts refl refl (sym e)
next_on write c (suc (suc (suc (suc at)))) try l e = absurd (omega arith)

module _ (task : Task) (c : ℕ) where
  pub stage_start : stage task c 0 ≡ 0
  unfolding stage passing
  stage_start = refl

  -- more own steps made, no fewer on the cell
  pub stage_more : (j k : ℕ) → j ≤ k → stage task c j ≤ stage task c k
  unfolding stage
  stage_more = count_more (on c) (own_steps task)

  module _ (k : ℕ) {try : Try} {later : List Try} (next : drop k (own_steps task) ≡ try ∷ later) where
    pub next_off : on c try ≡ false → stage task c (k + 1) ≡ stage task c k
    unfolding stage
    next_off = count_failing (on c) (own_steps task) k next

    pub next_on_lem : on c try ≡ true → stage task c (k + 1) ≡ stage task c k + 1
    unfolding stage
    next_on_lem = count-passing (on c) (own_steps task) k next

  module _ (once : named_once task.accesses ≡ true) where
    pub waits_on_lem : passing (on c) (of_each waits task.accesses) ≡ waits_on (kind_of task c) c
    waits_on_lem = on_each wait_write wait_reads wait_write (λ d. (refl, refl, refl)) (where_named task c once)

    ends_on_lem : passing (on c) (of_each ends task.accesses) ≡ ends_on (kind_of task c) c
    ends_on_lem = on_each zero_reads post_write end_read (λ d. (refl, refl, refl)) (where_named task c once)

    pub on_cell : passing (on c) (own_steps task) ≡ cell_steps (kind_of task c) c
    unfolding own_steps
    on_cell = simp (passing-append, waits_on_lem, operations_off, ends_on_lem)

    pub count_on : count (on c) (own_steps task) ≡ full (kind_of task c)
    count_on = rw on_cell (full_width (kind_of task c) c)

    pub stage_end : stage task c (length (own_steps task)) ≡ full (kind_of task c)
    unfolding stage
    stage_end = rw take-length count_on

    module _ (k : ℕ) {try : Try} {later : List Try} (next : drop k (own_steps task) ≡ try ∷ later) (here : on c try ≡ true) where
      pub next_below : stage task c k < full (kind_of task c)
      unfolding stage
      next_below = rw (← count_on) (count_below (on c) (own_steps task) k next here)

      pub next_at : (d : Try) → get_or (cell_steps (kind_of task c) c) (stage task c k) d ≡ try
      unfolding stage
      next_at d = rw (← on_cell) (passing_at (on c) (own_steps task) k next here d)

      pub next_step : NextOn (kind_of task c) c (stage task c k) try
      next_step = next_on (kind_of task c) c (stage task c k) try next_below (next_at try)
