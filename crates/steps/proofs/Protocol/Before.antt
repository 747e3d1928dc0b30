-- The last write before a task and the reads since it: which writes stand before which, and when two sums of reads agree.
use mathlib.Core.Path.{◌≡◌, refl, sym, ap₂, subst}
use Prim.Native.Nat.{ℕ, zero, suc, ◌+◌, ◌≤◌, ◌<◌}
use native.Mathlib.Nat.{not-suc-le-zero, lt_of_not-le}
use native.Mathlib.Decide.{le_ind, ℕ_discrete}
use native.Mathlib.Omega.{arith}
use borrow.Author.Tests.{eq-eqb, ne_eqb}
use Rattle.steps.proofs.Protocol.Words.{Kind, none, read, write, next_last, last_before, next_sum, sum_before, reads_before, raise}

-- a read is no write
pub clash : {A : Type 0} {k : Kind} → k ≡ read → k ≡ write → A
clash r w =
    let z : ◌≡◌ {A = ℕ} 0 1 = cc in
    absurd (omega arith)

-- ---- one task makes one step

-- what holds of that task, one step further, and of every other as it was, holds of each
pub raised : (stage : ℕ → ℕ) (j : ℕ) (P : ℕ → ℕ → Type 0) → P j (suc (stage j)) → ((k : ℕ) → (k ≡ j → ⊥) → P k (stage k)) → (k : ℕ)
    → P k (raise stage j k)
raised stage j P here others k = go (ℕ_discrete k j)
  where
    go : Dec (k ≡ j) → P k (raise stage j k)
    go (yes e) = subst (λ (i : ℕ). P i (raise stage j i)) (sym e) (rw (eq-eqb j j refl) here)
    go (no ne) = rw (ne_eqb k j ne) (others k ne)

pub raise_here : (stage : ℕ → ℕ) (j : ℕ) → raise stage j j ≡ suc (stage j)
raise_here stage j = rw (eq-eqb j j refl)

pub raise_other : (stage : ℕ → ℕ) (j k : ℕ) → (k ≡ j → ⊥) → raise stage j k ≡ stage k
raise_other stage j k ne = rw (ne_eqb k j ne)

module _ (kind : ℕ → Kind) where
  -- ---- the last write

  -- a write before a task is the last one or before it
  pub write_counts : (i j : ℕ) → i < j → kind i ≡ write → i < last_before kind j
  unfolding last_before
  write_counts i j h e = le_ind (λ (m : ℕ). i < last_before kind m) (rw e (omega arith)) (λ m. go m (kind m)) j h
    where
      go : (m : ℕ) (k : Kind) → i < m → i < last_before kind m → i < next_last k m (last_before kind m)
      go m none l before = before
      go m read l before = before
      go m write l before = omega arith

  -- from any place before the last one on, a write stands before the task
  pub record WriteFrom (i j : ℕ) : Type 0 where
    pub at : ℕ
    pub from : i ≤ at
    pub below : at < j
    pub writes : kind at ≡ write

  pub write_from : (j i : ℕ) → i < last_before kind j → WriteFrom i j
  unfolding last_before
  write_from zero i h = absurd (not-suc-le-zero h)
  write_from (suc j) i h = go (kind j) refl h (write_from j i)
    where
      still : WriteFrom i j → WriteFrom i (suc j)
      still w = record { at = w.at; from = w.from; below = omega arith; writes = w.writes }

      go : (k : Kind) → kind j ≡ k → i < next_last k j (last_before kind j) → (i < last_before kind j → WriteFrom i j) → WriteFrom i (suc j)
      go none e l before = still (before l)
      go read e l before = still (before l)
      go write e l before = record { at = j; from = omega arith; below = omega arith; writes = e }

  pub last_below : (j : ℕ) → last_before kind j ≤ j
  last_below j = omega (arith, lt_of_not-le over)
    where
      over : j < last_before kind j → ⊥
      over l =
          let w = write_from j j l in
          omega arith

  -- of tasks with the same last write before them, none comes after one that writes
  pub same_last : (i j : ℕ) → kind i ≡ write → last_before kind i ≡ last_before kind j → j ≤ i
  same_last i j e same = omega (arith, lt_of_not-le (λ (l : i < j). omega (arith, write_counts i j l e, last_below i)))

  -- ---- the sum over the reads since the last write

  -- reads that count alike
  pub sum_same : (f g : ℕ → ℕ) (j : ℕ) → ((i : ℕ) → i < j → kind i ≡ read → f i ≡ g i) → sum_before kind f j ≡ sum_before kind g j
  unfolding sum_before
  sum_same f g zero h = refl
  sum_same f g (suc j) h = go (kind j) refl (sum_same f g j (λ i l. h i (omega arith)))
    where
      go : (k : Kind) → kind j ≡ k → sum_before kind f j ≡ sum_before kind g j
          → next_sum k (f j) (sum_before kind f j) ≡ next_sum k (g j) (sum_before kind g j)
      go none e before = before
      go read e before = ap₂ ◌+◌ before (h j (omega arith) e)
      go write e before = refl

  -- reads that count for no more
  pub sum_most : (f g : ℕ → ℕ) (j : ℕ) → ((i : ℕ) → f i ≤ g i) → sum_before kind f j ≤ sum_before kind g j
  unfolding sum_before
  sum_most f g zero h = omega arith
  sum_most f g (suc j) h = go (kind j) (sum_most f g j h)
    where
      go : (k : Kind) → sum_before kind f j ≤ sum_before kind g j → next_sum k (f j) (sum_before kind f j) ≤ next_sum k (g j) (sum_before kind g j)
      go none before = before
      go read before = omega (arith, h j)
      go write before = omega arith

  -- reads that count for nothing
  pub sum_none : (f : ℕ → ℕ) (i j : ℕ) → i ≤ j → sum_before kind f i ≡ 0 → ((m : ℕ) → i ≤ m → f m ≡ 0) → sum_before kind f j ≡ 0
  unfolding sum_before
  sum_none f i j h first nothing = le_ind (λ (m : ℕ). sum_before kind f m ≡ 0) first (λ m. go m (kind m)) j h
    where
      go : (m : ℕ) (k : Kind) → i ≤ m → sum_before kind f m ≡ 0 → next_sum k (f m) (sum_before kind f m) ≡ 0
      go m none l before = before
      go m read l before = omega (arith, nothing m l)
      go m write l before = refl

  -- one read since the last write that counts for one more
  pub sum_one : (f g : ℕ → ℕ) (i j : ℕ) → i < j → last_before kind j ≤ i → kind i ≡ read → g i ≡ suc (f i)
      → ((m : ℕ) → (m ≡ i → ⊥) → g m ≡ f m) → sum_before kind g j ≡ suc (sum_before kind f j)
  unfolding sum_before
  sum_one f g i j h since e more others =
      le_ind (λ (m : ℕ). m ≤ j → sum_before kind g m ≡ suc (sum_before kind f m)) (λ l. rw e first) (λ m. go m (kind m) refl) j h (omega arith)
    where
      first : sum_before kind g i + g i ≡ suc (sum_before kind f i + f i)
      first = omega (arith, sum_same g f i (λ m l r. others m (omega arith)))

      go : (m : ℕ) (k : Kind) → kind m ≡ k → i < m → (m ≤ j → sum_before kind g m ≡ suc (sum_before kind f m)) → suc m ≤ j
          → next_sum k (g m) (sum_before kind g m) ≡ suc (next_sum k (f m) (sum_before kind f m))
      go m none k l before b = before (omega arith)
      go m read k l before b = omega (arith, before (omega arith), others m (omega arith))
      go m write k l before b = absurd (omega (arith, write_counts m j b k))

  -- where reads count for one at most, and the sum is as if each did, each does
  pub sum-all : (f : ℕ → ℕ) (j : ℕ) → ((i : ℕ) → f i ≤ 1) → sum_before kind f j ≡ reads_before kind j → (i : ℕ) → i < j → last_before kind j ≤ i
      → kind i ≡ read → f i ≡ 1
  sum-all f j one all i h since e = omega (arith, one i, lt_of_not-le missing)
    where
      -- one that did not would leave room for one more
      missing : f i ≤ 0 → ⊥
      missing nothing =
          let more = sum_one f (raise f i) i j h since e (raise_here f i) (raise_other f i) in
          let room = sum_most (raise f i) (λ m. 1) j (raised f i (λ m s. s ≤ 1) (omega arith) (λ m ne. one m)) in
          omega arith
