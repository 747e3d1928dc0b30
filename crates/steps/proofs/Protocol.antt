-- The counters of a cell keep its tasks in list order, under every schedule of steps. A wait for the last write passes only where every
-- write before the task has posted, since a number is posted by one task alone; a write's wait for the reads passes only where every
-- read since that write has ended, since each of them counts once; and a task with nobody unfinished before it finds both counters as
-- it waits for them. So what a wait has found stays so, whatever the other tasks do.
use mathlib.Core.Path.{◌≡◌, refl, sym, ap, ◌∙◌}
use Prim.Native.Nat.{ℕ, zero, suc, ◌<◌}
use native.Mathlib.Omega.{arith}
use Rattle.steps.proofs.Protocol.Words.{Kind, none, read, write, full, next, last_before, sum_before, State, start, StagePasses, Allowed, last_write_after, reads_after, after, Apart, Ended, Acquired, InConflict}
use Rattle.steps.proofs.Protocol.Before.{sum_same, sum_none}
use Rattle.steps.proofs.Protocol.Invariant.{counts, Inv, open_after_posted, writes_ended, reads_ended}
use Rattle.steps.proofs.Protocol.Steps.{Now, wait_write_lem, wait_reads_lem, end_read_lem, zero_reads, post_write_lem}
pub mod Words
pub mod Before
pub mod Invariant
pub mod Steps

module _ (kind : ℕ → Kind) (number : ℕ → ℕ) (n : ℕ) where
  -- at the start no task has begun, and none has posted
  pub inv_start : Inv kind number n (start number)
  unfolding last_before sum_before
  inv_start =
      record {
        last = 0;
        within = omega arith;
        marked = refl;
        shown = refl;
        order = record { bounded = λ j. omega arith; begun = λ i j l w s. absurd (omega arith); alone = λ i j l w s. absurd (omega arith) };
        posted = record { before = λ i w l. absurd (omega arith); beyond = λ i w l. omega (arith, ap full w) };
        count = record { counted = λ k w o s. sym (sum_none kind (λ i. 0) 0 k (omega arith) refl (λ m l. refl)); zeroed = λ k w o s. refl };
      }

  -- a step that is not held keeps what holds
  pub inv_step : Apart number n → (st : State) → Inv kind number n st → (j : ℕ) → j < n → st.stage j < full (kind j)
      → Allowed kind number st j → Inv kind number n (after kind number st j)
  inv_step apart st I j b h = go (kind j) (st.stage j) refl refl h
    where
      go : (k : Kind) (s : ℕ) → kind j ≡ k → st.stage j ≡ s → s < full k → StagePasses kind number st j (next k s)
          → Now kind number n st I j h (last_write_after (next k s) (number (suc j)) st.last_write) (reads_after (next k s) st.reads)
      go none s ke se l passed = absurd (omega arith)
      go read zero ke se l passed = wait_write_lem kind number n st I j h apart b se passed
      go read (suc zero) ke se l passed = end_read_lem kind number n st I j h ke se
      go read (suc (suc s)) ke se l passed = absurd (omega arith)
      go write zero ke se l passed = wait_write_lem kind number n st I j h apart b se passed
      go write (suc zero) ke se l passed = wait_reads_lem kind number n st I j h ke se passed
      go write (suc (suc zero)) ke se l passed = zero_reads kind number n st I j h ke se
      go write (suc (suc (suc zero))) ke se l passed = post_write_lem kind number n st I j h b ke se
      go write (suc (suc (suc (suc s)))) ke se l passed = absurd (omega arith)

  -- of two tasks in conflict, the later has the cell only once the earlier has ended
  pub inv_order : (st : State) → Inv kind number n st → (i j : ℕ) → i < j → Acquired (kind j) (st.stage j) → InConflict (kind i) (kind j)
      → Ended kind st.stage i
  inv_order st I i j h = go (kind i) (kind j) refl refl
    where
      go : (k l : Kind) → kind i ≡ k → kind j ≡ l → Acquired l (st.stage j) → InConflict k l → Ended kind st.stage i
      go none l ke le has c = absurd c
      go read none ke le has c = absurd c
      go read read ke le has c = absurd c
      go read write ke le has c = I.order.alone i j h le has
      go write none ke le has c = absurd c
      go write read ke le has c = I.order.begun i j h ke has
      go write write ke le has c = I.order.alone i j h le has

  -- a task with steps left finds the last write that it waits for where all writes before it have ended
  pub inv_shown : (st : State) → Inv kind number n st → (p : ℕ) → st.stage p < full (kind p)
      → ((i : ℕ) → i < p → kind i ≡ write → Ended kind st.stage i)
      → st.last_write ≡ number (last_before kind p)
  inv_shown st I p h ended = I.shown ∙ ap number (sym (open_after_posted kind number n st I p h ended))

  -- a task is not held where all tasks before it that are in conflict with it have ended
  pub inv_free : (st : State) → Inv kind number n st → (p : ℕ) → ((i : ℕ) → i < p → InConflict (kind i) (kind p) → Ended kind st.stage i)
      → st.stage p < full (kind p)
      → Allowed kind number st p
  inv_free st I p ended h = go (kind p) (st.stage p) refl refl h
    where
      -- a task with steps left uses the cell, so it is in conflict with every write
      with_write : (k : Kind) (s : ℕ) → s < full k → InConflict write k
      with_write none s l = absurd (omega arith)
      with_write read s l = tt
      with_write write s l = tt

      writes_before : (i : ℕ) → i < p → kind i ≡ write → Ended kind st.stage i
      writes_before i l w = ended i l (rw w (with_write (kind p) (st.stage p) h))

      opened : last_before kind p ≡ I.last
      opened = open_after_posted kind number n st I p h writes_before

      shown : st.last_write ≡ number (last_before kind p)
      shown = inv_shown st I p h writes_before

      go : (k : Kind) (s : ℕ) → kind p ≡ k → st.stage p ≡ s → s < full k → StagePasses kind number st p (next k s)
      go none s ke se l = tt
      go read zero ke se l = shown
      go read (suc zero) ke se l = tt
      go read (suc (suc s)) ke se l = tt
      go write zero ke se l = shown
      go write (suc zero) ke se l =
          I.count.counted p ke opened (omega arith)
          ∙ sum_same kind (λ i. counts (st.stage i)) (λ i. 1) p (λ i b r. rw (ended i b (rw (r, ke) tt), r))
      go write (suc (suc zero)) ke se l = tt
      go write (suc (suc (suc zero))) ke se l = tt
      go write (suc (suc (suc (suc s)))) ke se l = tt

  -- a task that is not held stays so, as long as those that have ended stay ended and it makes no step itself
  pub inv_stays : Apart number n → (st later : State) → Inv kind number n st → Inv kind number n later
      → ((i : ℕ) → Ended kind st.stage i → Ended kind later.stage i)
      → (p : ℕ) → p < n → st.stage p < full (kind p) → later.stage p ≡ st.stage p
      → Allowed kind number st p
      → Allowed kind number later p
  inv_stays apart st later I L still p b h same allowed = rw same (go (kind p) (st.stage p) refl refl allowed)
    where
      left : later.stage p < full (kind p)
      left = omega arith

      shown : st.last_write ≡ number (last_before kind p) → later.last_write ≡ number (last_before kind p)
      shown passed = inv_shown later L p left (λ i l w. still i (writes_ended kind number n st I apart p b passed i l w))

      go : (k : Kind) (s : ℕ) → kind p ≡ k → st.stage p ≡ s → StagePasses kind number st p (next k s) → StagePasses kind number later p (next k s)
      go none s ke se passed = tt
      go read zero ke se passed = shown passed
      go read (suc zero) ke se passed = tt
      go read (suc (suc s)) ke se passed = tt
      go write zero ke se passed = shown passed
      go write (suc zero) ke se passed =
          rw (ke, same, se) at (inv_free later L p (λ i l between. still i (reads_ended kind number n st I p ke se passed i l)) left)
      go write (suc (suc zero)) ke se passed = tt
      go write (suc (suc (suc zero))) ke se passed = tt
      go write (suc (suc (suc (suc s)))) ke se passed = tt
