-- The protocol of one cell, seen from outside: how each task uses the cell, the steps that it makes on it, what each step waits for
-- and what it does to the cell's two shared counters. Tasks are indices from 0.
use mathlib.Core.Path.{◌≡◌}
use Prim.Native.Nat.{ℕ, zero, suc, ◌+◌, ◌≤◌}
use Rattle.steps.specs.Machine.{put}
pub use Rattle.steps.proofs.Kind.{Kind, none, read, write, full}

-- ---- a task's steps on the cell

pub data Step : Type 0 where
  wait_write : Step
  wait_reads : Step
  end_read : Step
  zero_reads : Step
  post_write : Step
  past : Step

-- the next one, after those made
abbrev pub next : Kind → ℕ → Step
next none made = past
next read zero = wait_write
next read (suc zero) = end_read
next read (suc (suc made)) = past
next write zero = wait_write
next write (suc zero) = wait_reads
next write (suc (suc zero)) = zero_reads
next write (suc (suc (suc zero))) = post_write
next write (suc (suc (suc (suc made)))) = past

-- ---- what the tasks before a task leave behind

abbrev pub next_last : Kind → ℕ → ℕ → ℕ
next_last none j last = last
next_last read j last = last
next_last write j last = suc j

-- the last write before a task, counted from 1; 0 where there is none
unfoldable pub last_before : (ℕ → Kind) → ℕ → ℕ
last_before kind zero = 0
last_before kind (suc j) = next_last (kind j) j (last_before kind j)

abbrev pub next_sum : Kind → ℕ → ℕ → ℕ
next_sum none one sum = sum
next_sum read one sum = sum + one
next_sum write one sum = 0

-- the sum of what each read since that write counts for
unfoldable pub sum_before : (ℕ → Kind) → (ℕ → ℕ) → ℕ → ℕ
sum_before kind ones zero = 0
sum_before kind ones (suc j) = next_sum (kind j) (ones j) (sum_before kind ones j)

-- how many reads there are since that write
abbrev pub reads_before : (ℕ → Kind) → ℕ → ℕ
reads_before kind = sum_before kind (λ i. 1)

-- ---- the cell and its tasks

-- how many steps each task has made on the cell, and the two shared counters
pub record State : Type 0 where
  pub stage : ℕ → ℕ
  pub last_write : ℕ
  pub reads : ℕ

abbrev pub start : (ℕ → ℕ) → State
start number = record { stage = λ j. 0; last_write = number 0; reads = 0 }

-- what a step of a task waits for
abbrev pub StagePasses : (ℕ → Kind) → (ℕ → ℕ) → State → ℕ → Step → Type 0
StagePasses kind number st j wait_write = st.last_write ≡ number (last_before kind j)
StagePasses kind number st j wait_reads = st.reads ≡ reads_before kind j
StagePasses kind number st j end_read = Unit {0}
StagePasses kind number st j zero_reads = Unit {0}
StagePasses kind number st j post_write = Unit {0}
StagePasses kind number st j past = Unit {0}

abbrev pub Allowed : (ℕ → Kind) → (ℕ → ℕ) → State → ℕ → Type 0
Allowed kind number st j = StagePasses kind number st j (next (kind j) (st.stage j))

-- what a step makes of the last write, where `number` is the task's, and of the reads
abbrev pub last_write_after : Step → ℕ → ℕ → ℕ
last_write_after wait_write number last = last
last_write_after wait_reads number last = last
last_write_after end_read number last = last
last_write_after zero_reads number last = last
last_write_after post_write number last = number
last_write_after past number last = last

abbrev pub reads_after : Step → ℕ → ℕ
reads_after wait_write reads = reads
reads_after wait_reads reads = reads
reads_after end_read reads = reads + 1
reads_after zero_reads reads = 0
reads_after post_write reads = reads
reads_after past reads = reads

-- one step more of a task
abbrev pub raise : (ℕ → ℕ) → ℕ → ℕ → ℕ
raise stage j = put stage j (suc (stage j))

abbrev pub after : (ℕ → Kind) → (ℕ → ℕ) → State → ℕ → State
after kind number st j =
    record {
      stage = raise st.stage j;
      last_write = last_write_after (next (kind j) (st.stage j)) (number (suc j)) st.last_write;
      reads = reads_after (next (kind j) (st.stage j)) st.reads;
    }

-- ---- what is told of tasks

-- their numbers, and the start's, differ
abbrev pub Apart : (ℕ → ℕ) → ℕ → Type 0
Apart number n = (i j : ℕ) → i ≤ n → j ≤ n → number i ≡ number j → i ≡ j

-- the task has made all of its steps
abbrev pub Ended : (ℕ → Kind) → (ℕ → ℕ) → ℕ → Type 0
Ended kind stage i = stage i ≡ full (kind i)

-- the task's waits have passed, and it has the cell
abbrev pub Acquired : Kind → ℕ → Type 0
Acquired none made = ⊥
Acquired read made = 1 ≤ made
Acquired write made = 2 ≤ made

-- both use the cell, and one writes it
abbrev pub InConflict : Kind → Kind → Type 0
InConflict none other = ⊥
InConflict read none = ⊥
InConflict read read = ⊥
InConflict read write = Unit {0}
InConflict write none = ⊥
InConflict write read = Unit {0}
InConflict write write = Unit {0}
