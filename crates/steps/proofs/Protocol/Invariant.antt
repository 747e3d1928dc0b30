-- What holds of the cell and its tasks after every step. All writes before a place in the list, `last`, have posted, and none from it on.
-- A task that has begun stands after posted writes alone, and a write that has the cell after ended tasks alone. A task is open where the
-- last write before it is the last that has posted; one open task at most is a write, and the reads are counted for it until it sets them
-- to 0.
use mathlib.Core.Path.{◌≡◌, refl, sym, ap, subst, ◌∙◌}
use Prim.Native.Nat.{ℕ, zero, suc, ◌≤◌, ◌<◌}
use native.Mathlib.Nat.{lt_of_not-le}
use native.Mathlib.Decide.{dec_lt}
use native.Mathlib.Omega.{arith}
use Rattle.steps.proofs.Protocol.Words.{Kind, none, read, write, full, last_before, sum_before, reads_before, State, Apart, Ended}
use Rattle.steps.proofs.Protocol.Before.{write_counts, WriteFrom, write_from, last_below, sum-all}

-- ---- the reads that have ended

-- a read counts for one once it has made both of its steps
abbrev pub counts : ℕ → ℕ
counts zero = 0
counts (suc zero) = 0
counts (suc (suc made)) = 1

counts_most : (made : ℕ) → counts made ≤ 1
counts_most zero = omega arith
counts_most (suc zero) = omega arith
counts_most (suc (suc made)) = omega arith

counts_one : (made : ℕ) → counts made ≡ 1 → 2 ≤ made
counts_one zero e = omega arith
counts_one (suc zero) e = omega arith
counts_one (suc (suc made)) e = omega arith

-- those since the last write before a task
abbrev pub ended_before : (ℕ → Kind) → (ℕ → ℕ) → ℕ → ℕ
ended_before kind stage = sum_before kind (λ i. counts (stage i))

-- ---- the invariant

-- no task makes more steps than it has, and those that have begun, or have the cell to write it, stand after ended ones
pub record Order (kind : ℕ → Kind) (stage : ℕ → ℕ) : Type 0 where
  pub bounded : (j : ℕ) → stage j ≤ full (kind j)
  pub begun : (i j : ℕ) → i < j → kind i ≡ write → 1 ≤ stage j → Ended kind stage i
  pub alone : (i j : ℕ) → i < j → kind j ≡ write → 2 ≤ stage j → Ended kind stage i

-- the posted writes are those before `last`
pub record Posted (kind : ℕ → Kind) (stage : ℕ → ℕ) (last : ℕ) : Type 0 where
  pub before : (i : ℕ) → kind i ≡ write → i < last → Ended kind stage i
  pub beyond : (i : ℕ) → kind i ≡ write → last ≤ i → stage i < full (kind i)

-- the reads, as the open write waits for them, and once it has set them to 0
pub record Counted (kind : ℕ → Kind) (stage : ℕ → ℕ) (last reads : ℕ) : Type 0 where
  pub counted : (k : ℕ) → kind k ≡ write → last_before kind k ≡ last → stage k ≤ 2 → reads ≡ ended_before kind stage k
  pub zeroed : (k : ℕ) → kind k ≡ write → last_before kind k ≡ last → stage k ≡ 3 → reads ≡ 0

-- `last` is 0 or right after a write, and the counter of the last write shows it
pub record Inv (kind : ℕ → Kind) (number : ℕ → ℕ) (n : ℕ) (st : State) : Type 0 where
  pub last : ℕ
  pub within : last ≤ n
  pub marked : last_before kind last ≡ last
  pub shown : st.last_write ≡ number last
  pub order : Order kind st.stage
  pub posted : Posted kind st.stage last
  pub count : Counted kind st.stage last st.reads

module _ (kind : ℕ → Kind) (number : ℕ → ℕ) (n : ℕ) (st : State) (I : Inv kind number n st) where
  -- ---- what follows from it

  -- all tasks before `last` have ended
  pub before_last : (i : ℕ) → i < I.last → Ended kind st.stage i
  before_last i h = go (dec_lt i w.at)
    where
      w : WriteFrom kind i I.last
      w = write_from kind I.last i (rw I.marked h)

      ended : Ended kind st.stage w.at
      ended = I.posted.before w.at w.writes w.below

      go : Dec (i < w.at) → Ended kind st.stage i
      go (yes l) = I.order.alone i w.at l w.writes (omega (arith, ended, ap full w.writes))
      go (no nl) =
          let same : w.at ≡ i = omega (arith, w.from) in
          subst (Ended kind st.stage) same ended

  -- a task that has not ended, and stands after posted writes alone, is open
  pub open_after_posted : (j : ℕ) → st.stage j < full (kind j) → ((i : ℕ) → i < j → kind i ≡ write → Ended kind st.stage i)
      → last_before kind j ≡ I.last
  open_after_posted j h posted = omega (arith, lt_of_not-le over, lt_of_not-le under)
    where
      over : suc I.last ≤ last_before kind j → ⊥
      over l =
          let w = write_from kind j I.last l in
          omega (arith, posted w.at w.below w.writes, I.posted.beyond w.at w.writes w.from)

      reached : j < I.last → ⊥
      reached l = omega (arith, before_last j l)

      under : suc (last_before kind j) ≤ I.last → ⊥
      under l =
          let w = write_from kind I.last (last_before kind j) (rw I.marked l) in
          omega (arith, write_counts kind w.at j (omega (arith, lt_of_not-le reached)) w.writes)

  pub open_once_begun : (j : ℕ) → st.stage j < full (kind j) → 1 ≤ st.stage j → last_before kind j ≡ I.last
  open_once_begun j h some = open_after_posted j h (λ i l w. I.order.begun i j l w some)

  -- ---- what a passed wait tells

  -- for the last write: every write before the task is posted
  pub writes_ended : Apart number n → (j : ℕ) → j < n → st.last_write ≡ number (last_before kind j) → (i : ℕ) → i < j → kind i ≡ write
      → Ended kind st.stage i
  writes_ended apart j b passed i l w =
      let same = apart (last_before kind j) I.last (omega (arith, last_below kind j)) I.within (sym passed ∙ I.shown) in
      I.posted.before i w (omega (arith, write_counts kind i j l w))

  -- for the reads: every task before the write has ended
  pub reads_ended : (j : ℕ) → kind j ≡ write → st.stage j ≡ 1 → st.reads ≡ reads_before kind j → (i : ℕ) → i < j
      → Ended kind st.stage i
  reads_ended j w one passed i l = go (kind i) refl (dec_lt i I.last)
    where
      opened : last_before kind j ≡ I.last
      opened = open_once_begun j (omega (arith, ap full w)) (omega arith)

      each : ended_before kind st.stage j ≡ reads_before kind j
      each = sym (I.count.counted j w opened (omega arith)) ∙ passed

      go : (k : Kind) → kind i ≡ k → Dec (i < I.last) → Ended kind st.stage i
      go none e since = omega (arith, I.order.bounded i, ap full e)
      go write e since = I.order.begun i j l e (omega arith)
      go read e (yes before) = before_last i before
      go read e (no since) =
          let once = sum-all kind (λ i. counts (st.stage i)) j (λ i. counts_most (st.stage i)) each i l (omega (arith, opened)) e in
          omega (arith, I.order.bounded i, ap full e, counts_one (st.stage i) once)
