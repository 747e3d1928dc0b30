-- What a run keeps of its steps (02, Q-1): how many were held for each reason, and of each worker's latest held step the reason and the cell.
use Rattle.std.specs.Prelude.{cond, List, [], ◌∷◌, ℕ, ◌+◌, ◌-◌, map, get_or, set, replicate, Option, Some, None}
use Rattle.layout.specs.Flow.{most_workers}
use Rattle.steps.specs.Step.{Outcome}
use Rattle.steps.specs.Held.{reason_of}
use Rattle.arrays.specs.Arrays.{moves_on}
use Rattle.machine.specs.declared.Held.{Held}
use Rattle.machine.specs.declared.Held.TheVariants.{PastLast, WriteDiffers, ReadsDiffer}
use Rattle.notes.specs.declared.Notes.{Notes}

-- ---- what is kept, as numbers

-- the reason of a latest held step, and the cell that it names; 0 where there is none
abbrev pub reason_in : Option Held → ℕ
reason_in None = 0
reason_in (Some PastLast) = 1
reason_in (Some (WriteDiffers cell)) = 2
reason_in (Some (ReadsDiffer cell)) = 3

abbrev pub cell_in : Option Held → ℕ
cell_in None = 0
cell_in (Some PastLast) = 0
cell_in (Some (WriteDiffers cell)) = cell
cell_in (Some (ReadsDiffer cell)) = cell

-- the counts of the reasons 1, 2 and 3, and of each worker the reason and the cell
abbrev pub counts_of : Notes → List ℕ
counts_of notes = notes.past_last ∷ notes.write_differs ∷ notes.reads_differ ∷ []

abbrev pub reasons_of : Notes → List ℕ
reasons_of notes = map reason_in notes.latest

abbrev pub cells_of : Notes → List ℕ
cells_of notes = map cell_in notes.latest

-- before any step
abbrev pub no_notes : Notes
no_notes = record { past_last = 0; write_differs = 0; reads_differ = 0; latest = replicate most_workers None }

-- ---- one step more

-- a number of a held step takes the place of what is kept, and an advancing step leaves it
abbrev pub kept_for : List ℕ → ℕ → Outcome → ℕ → List ℕ
kept_for kept i why number = cond (moves_on why) kept (set kept i number)

-- the count of its reason, which are numbered from 1
abbrev pub count_at : List ℕ → Outcome → ℕ
count_at counts why = get_or counts (reason_of why - 1) 0

-- one step more that came to this
abbrev pub counted_more : List ℕ → Outcome → List ℕ
counted_more counts why = kept_for counts (reason_of why - 1) why (count_at counts why + 1)
