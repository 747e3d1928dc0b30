-- Each step of a task on the cell keeps the invariant: `st` is before the step, and task `j` makes it.
use mathlib.Core.Path.{◌≡◌, refl, sym, ap, ◌∙◌}
use Prim.Native.Nat.{ℕ, suc, ◌+◌, ◌≤◌, ◌<◌}
use native.Mathlib.Nat.{lt_of_not-le}
use native.Mathlib.Omega.{arith}
use Rattle.steps.proofs.Protocol.Words.{Kind, read, write, full, last_before, sum_before, reads_before, State, raise, Apart, Ended}
use Rattle.steps.proofs.Protocol.Before.{clash, raised, raise_here, raise_other, last_below, same_last, sum_same, sum_none, sum_one}
use Rattle.steps.proofs.Protocol.Invariant.{counts, ended_before, Order, Counted, Inv, open_once_begun, writes_ended, reads_ended}

module _ (kind : ℕ → Kind) (number : ℕ → ℕ) (n : ℕ) (st : State) (I : Inv kind number n st) (j : ℕ) (h : st.stage j < full (kind j)) where
  -- the stages after the step, and the invariant with the counters after it
  abbrev now : ℕ → ℕ
  now = raise st.stage j

  abbrev pub Now : ℕ → ℕ → Type 0
  Now last_write reads = Inv kind number n (record { stage = raise st.stage j; last_write = last_write; reads = reads })

  -- what holds of task `j`, one step further, and of every other as it was, holds of each
  at_each : (P : ℕ → ℕ → Type 0) → P j (suc (st.stage j)) → ((k : ℕ) → (k ≡ j → ⊥) → P k (st.stage k)) → (k : ℕ) → P k (now k)
  at_each = raised st.stage j

  abbrev WritesEnded : Type 0
  WritesEnded = (i : ℕ) → i < j → kind i ≡ write → Ended kind st.stage i

  abbrev AllEnded : Type 0
  AllEnded = (i : ℕ) → i < j → Ended kind st.stage i

  -- ---- the order

  -- an ended task makes no step
  stays : (i : ℕ) → Ended kind st.stage i → Ended kind now i
  stays = at_each (λ i s. st.stage i ≡ full (kind i) → s ≡ full (kind i)) (λ e. absurd (omega arith)) (λ i ne e. e)

  order_kept : WritesEnded → (kind j ≡ write → 1 ≤ st.stage j → AllEnded) → Order kind now
  order_kept writes all =
      record {
        bounded = at_each (λ i s. s ≤ full (kind i)) h (λ i ne. I.order.bounded i);
        begun = λ i k l w. begun i w k l;
        alone = alone;
      }
    where
      begun : (i : ℕ) → kind i ≡ write → (k : ℕ) → i < k → 1 ≤ now k → Ended kind now i
      begun i w =
          at_each (λ k s. i < k → 1 ≤ s → Ended kind now i) (λ l s. stays i (writes i l w)) (λ k ne l s. stays i (I.order.begun i k l w s))

      alone : (i k : ℕ) → i < k → kind k ≡ write → 2 ≤ now k → Ended kind now i
      alone i =
          at_each (λ k s. i < k → kind k ≡ write → 2 ≤ s → Ended kind now i) (λ l w s. stays i (all w (omega arith) i l))
          (λ k ne l w s. stays i (I.order.alone i k l w s))

  begun : 1 ≤ st.stage j → WritesEnded
  begun some i l w = I.order.begun i j l w some

  -- ---- a step that posts nothing

  kept : (reads : ℕ) → WritesEnded → (kind j ≡ write → 1 ≤ st.stage j → AllEnded) → (kind j ≡ write → st.stage j ≤ 2)
      → Counted kind now I.last reads → Now st.last_write reads
  kept reads writes all few count =
      record {
        last = I.last;
        within = I.within;
        marked = I.marked;
        shown = I.shown;
        order = order_kept writes all;
        posted = record { before = λ i w l. stays i (I.posted.before i w l); beyond = beyond };
        count = count;
      }
    where
      beyond : (i : ℕ) → kind i ≡ write → I.last ≤ i → now i < full (kind i)
      beyond =
          at_each (λ i s. kind i ≡ write → I.last ≤ i → s < full (kind i)) (λ w l. omega (arith, few w, ap full w))
          (λ i ne. I.posted.beyond i)

  -- a wait ends no read
  counted_wait : st.stage j ≤ 1 → (kind j ≡ read → st.stage j ≡ 0) → Counted kind now I.last st.reads
  counted_wait few first =
      record {
        counted = λ k w o s. I.count.counted k w o (at_most k s) ∙ same k;
        zeroed = λ k w o s. I.count.zeroed k w o (at_three k s);
      }
    where
      at_most : (k : ℕ) → now k ≤ 2 → st.stage k ≤ 2
      at_most = at_each (λ k s. s ≤ 2 → st.stage k ≤ 2) (λ s. omega arith) (λ k ne s. s)

      at_three : (k : ℕ) → now k ≡ 3 → st.stage k ≡ 3
      at_three = at_each (λ k s. s ≡ 3 → st.stage k ≡ 3) (λ s. omega arith) (λ k ne s. s)

      same : (k : ℕ) → ended_before kind st.stage k ≡ ended_before kind now k
      same k =
          sum_same kind (λ i. counts (st.stage i)) (λ i. counts (now i)) k
          (λ i l. at_each (λ i s. kind i ≡ read → counts (st.stage i) ≡ counts s) (λ r. rw (first r)) (λ i ne r. refl) i)

  pub wait_write_lem : Apart number n → j < n → st.stage j ≡ 0 → st.last_write ≡ number (last_before kind j) → Now st.last_write st.reads
  wait_write_lem apart b first passed =
      kept st.reads (writes_ended kind number n st I apart j b passed) (λ w some. absurd (omega arith)) (λ w. omega arith)
      (counted_wait (omega arith) (λ r. first))

  pub wait_reads_lem : kind j ≡ write → st.stage j ≡ 1 → st.reads ≡ reads_before kind j → Now st.last_write st.reads
  wait_reads_lem w one passed =
      kept st.reads (begun (omega arith)) (λ w some. reads_ended kind number n st I j w one passed) (λ w. omega arith)
      (counted_wait (omega arith) (λ r. clash r w))

  -- the open write counts one read more, and it has not yet set the reads to 0
  pub end_read_lem : kind j ≡ read → st.stage j ≡ 1 → Now st.last_write (st.reads + 1)
  end_read_lem r one =
      kept (st.reads + 1) (begun (omega arith)) (λ w. clash r w) (λ w. clash r w)
      (record {
        counted = λ k w o s. omega (arith, I.count.counted k w o (omega (arith, same k w)), more k w o);
        zeroed = λ k w o s. absurd (omega (arith, I.order.alone j k (sooner k w o) w (omega (arith, same k w)), ap full r));
      })
    where
      opened : last_before kind j ≡ I.last
      opened = open_once_begun kind number n st I j h (omega arith)

      other : (k : ℕ) → kind k ≡ write → k ≡ j → ⊥
      other k w e = clash r (ap kind (sym e) ∙ w)

      same : (k : ℕ) → kind k ≡ write → now k ≡ st.stage k
      same k w = raise_other st.stage j k (other k w)

      sooner : (k : ℕ) → kind k ≡ write → last_before kind k ≡ I.last → j < k
      sooner k w o = omega (arith, same_last kind k j w (o ∙ sym opened), other k w)

      more : (k : ℕ) → kind k ≡ write → last_before kind k ≡ I.last → ended_before kind now k ≡ suc (ended_before kind st.stage k)
      more k w o =
          sum_one kind (λ i. counts (st.stage i)) (λ i. counts (now i)) j k (sooner k w o) (omega (arith, opened, last_below kind j)) r
          (rw (raise_here st.stage j, one)) (λ m ne. rw (raise_other st.stage j m ne))

  -- the task is the one open write
  pub zero_reads : kind j ≡ write → st.stage j ≡ 2 → Now st.last_write 0
  zero_reads w two =
      kept 0 (begun (omega arith)) (λ w some i l. I.order.alone i j l w (omega arith)) (λ w. omega arith)
      (record { counted = counted; zeroed = λ k w o s. refl })
    where
      opened : last_before kind j ≡ I.last
      opened = open_once_begun kind number n st I j h (omega arith)

      counted : (k : ℕ) → kind k ≡ write → last_before kind k ≡ I.last → now k ≤ 2 → 0 ≡ ended_before kind now k
      counted =
          at_each (λ k s. kind k ≡ write → last_before kind k ≡ I.last → s ≤ 2 → 0 ≡ ended_before kind now k) (λ v o s. absurd (omega arith))
          (λ k ne v o s. absurd (ne (omega (arith, same_last kind k j v (o ∙ sym opened), same_last kind j k w (opened ∙ sym o)))))

  -- ---- the step that posts: no task after the write has begun

  pub post_write_lem : j < n → kind j ≡ write → st.stage j ≡ 3 → Now (number (suc j)) st.reads
  unfolding last_before sum_before
  post_write_lem b w three =
      record {
        last = suc j;
        within = b;
        marked = rw w;
        shown = refl;
        order = order_kept (begun (omega arith)) (λ w some i l. I.order.alone i j l w (omega arith));
        posted = record { before = before; beyond = λ i v l. omega (arith, later i l, ap full v) };
        count = record { counted = λ k v o s. counted k o; zeroed = λ k v o s. absurd (omega (arith, later k (sooner k o))) };
      }
    where
      later : (k : ℕ) → j < k → now k ≡ 0
      later k l =
          raise_other st.stage j k (omega arith)
          ∙ omega (arith, lt_of_not-le (λ (some : 1 ≤ st.stage k). omega (arith, I.order.begun j k l w some)))

      before : (i : ℕ) → kind i ≡ write → i < suc j → now i ≡ full (kind i)
      before =
          at_each (λ i s. kind i ≡ write → i < suc j → s ≡ full (kind i)) (λ v l. omega (arith, ap full v))
          (λ i ne v l. begun (omega arith) i (omega arith) v)

      sooner : (k : ℕ) → last_before kind k ≡ suc j → j < k
      sooner k o = omega (arith, last_below kind k)

      counted : (k : ℕ) → last_before kind k ≡ suc j → st.reads ≡ ended_before kind now k
      counted k o =
          I.count.zeroed j w (open_once_begun kind number n st I j h (omega arith)) three
          ∙ sym (sum_none kind (λ i. counts (now i)) (suc j) k (sooner k o) (rw w) (λ m l. rw (later m l)))
