-- Flow A on the bench (01, "A flow on the bench"): its file, byte for byte, and the cases P1 to P10 as a table of what is got and what
-- is expected, with why steps were held in them (02, Q-1) and operation 5 in both versions (02, Q-8). `proofs/Bench.antt` proves the table under a single statement.
use Rattle.std.specs.Prelude.{List, [], ◌∷◌, ◌++◌, ℕ, replicate}
use Rattle.layout.specs.Bytes.{padded}
use Rattle.layout.specs.Refusal.{success}
use Rattle.layout.specs.Flow.{Task}
use Rattle.layout.specs.Fletcher.{fletcher}
use Rattle.layout.specs.File.{flow_of}
use Rattle.layout.specs.Cases.{Case, gives}
use Rattle.steps.specs.Operations.{effect, operated}
use Rattle.steps.specs.Run.{setting_for, total}
use Rattle.steps.specs.Held.{named_by}
use Rattle.steps.specs.Answers.{Told, HeldTold, plain_answer, plain_cells, ran, run_told, held_of, run_held, run_cells}

-- ---- the file: 2 workers, 3 cells, 3 tasks

unfoldable pub head : List ℕ
head = 83 ∷ 70 ∷ 76 ∷ 87 ∷ 1 ∷ 3 ∷ 0 ∷ 0 ∷ 1 ∷ 0 ∷ 3 ∷ 0 ∷ 2 ∷ 3 ∷ 0 ∷ 0 ∷ []

-- task 1, owner 0, write 0: cell 0 becomes 4660
unfoldable pub row1 : List ℕ
row1 = padded 48 (0 ∷ 1 ∷ 1 ∷ 0 ∷ 0 ∷ 2 ∷ 0 ∷ 0 ∷ 0 ∷ 0 ∷ 0 ∷ 0 ∷ 1 ∷ 0 ∷ 0 ∷ 0 ∷ 52 ∷ 18 ∷ [])

-- task 2, owner 1, read 0, write 1: cell 1 becomes cell 0 swapped
unfoldable pub row2 : List ℕ
row2 = padded 48 (1 ∷ 2 ∷ 1 ∷ 0 ∷ 0 ∷ 1 ∷ 1 ∷ 2 ∷ 0 ∷ 0 ∷ 0 ∷ 0 ∷ 5 ∷ 1 ∷ 0 ∷ 0 ∷ 0 ∷ 0 ∷ [])

-- task 3, owner 0, read 1, read-and-write 2: cell 2 becomes cell 2 + cell 1
unfoldable pub row3 : List ℕ
row3 = padded 48 (0 ∷ 2 ∷ 1 ∷ 0 ∷ 1 ∷ 1 ∷ 2 ∷ 3 ∷ 0 ∷ 0 ∷ 0 ∷ 0 ∷ 3 ∷ 2 ∷ 1 ∷ 0 ∷ 0 ∷ 0 ∷ [])

unfoldable pub flow_a : List ℕ
unfolding head row1 row2 row3
flow_a = head ++ (row1 ++ (row2 ++ (row3 ++ (replicate 350 0 ++ (179 ∷ 242 ∷ [])))))

-- "Start 0, 0, 5"
abbrev pub start : List ℕ
start = 0 ∷ 0 ∷ 5 ∷ []

-- ---- what a case gives, as a list of numbers

-- the plain run's number and place, and the cells
unfoldable pub plain_of : List ℕ
plain_of = (plain_answer flow_a start).number ∷ (plain_answer flow_a start).place ∷ plain_cells flow_a start

-- the stepped run's number, place, advanced, held, done, finished, and the cells
unfoldable pub ran_on : List ℕ → List ℕ
ran_on schedule =
    let told : Told = run_told flow_a start schedule in
    told.number ∷ told.place ∷ told.advanced ∷ told.held ∷ told.done ∷ told.finished ∷ run_cells flow_a start schedule

-- why steps were held (02, Q-1): the count of each reason, then the reasons and the cells of workers 0 to 7
unfoldable pub held_numbers : HeldTold → List ℕ
held_numbers why = why.past_last ∷ why.write_differs ∷ why.reads_differ ∷ (why.reasons ++ why.cells)

unfoldable pub held_on : List ℕ → List ℕ
held_on schedule = held_numbers (run_held flow_a start schedule)

-- the same of two tasks, of which worker 0's reads cells 0 and 1 and worker 1's then writes them
unfoldable pub read_then_written : List Task
read_then_written =
    record { owner = 0; accesses = record { cell = 0; mode = 1 } ∷ record { cell = 1; mode = 1 } ∷ []; operations = [] }
    ∷ record {
      owner = 1;
      accesses = record { cell = 0; mode = 2 } ∷ record { cell = 1; mode = 3 } ∷ [];
      operations = record { code = 1; a = 0; b = 0; k = 7 } ∷ [];
    }
    ∷ []

unfoldable pub held_by_reads : List ℕ → List ℕ
held_by_reads schedule = held_numbers (held_of success (named_by (setting_for 1 read_then_written) (0 ∷ 0 ∷ []) schedule))

-- what is told of the two workers, before those that the flow does not have
unfoldable pub latest : List ℕ → List ℕ → List ℕ
latest reasons cells = padded 8 reasons ++ padded 8 cells

-- after the same steps, the shared last write of cell 0: the task that has posted it, or 0 where none has
unfoldable pub posted_on : List ℕ → ℕ
posted_on schedule = ((ran flow_a start schedule).machine.shared 0).last_write

-- check A and check B
unfoldable pub sums_of : List ℕ → List ℕ
sums_of bytes = (fletcher bytes).a ∷ (fletcher bytes).b ∷ []

-- cells 0 and 1 after an operation that writes 0 and reads 1, in a flow of a version
unfoldable pub made_on : ℕ → ℕ → ℕ → ℕ → List ℕ
made_on version code a b = operated (effect version) (record { code = code; a = 0; b = 1; k = 0 }) (a ∷ b ∷ [])

-- ---- the table

-- "0 0 0 0 1 1"
unfoldable pub unposted : List ℕ
unposted = 0 ∷ 0 ∷ 0 ∷ 0 ∷ 1 ∷ 1 ∷ []

-- "0 six times, 1 nine times, 0 seven times"
unfoldable pub whole : List ℕ
whole = replicate 6 0 ++ (replicate 9 1 ++ replicate 7 0)

unfoldable pub bench : List Case
bench =
    -- "Total 22"
    gives (total (flow_of flow_a) ∷ []) (22 ∷ [])
    -- P1
    ∷ gives plain_of (0 ∷ 0 ∷ 4660 ∷ 13330 ∷ 13335 ∷ [])
    -- P2
    ∷ gives (ran_on []) (0 ∷ 0 ∷ 0 ∷ 0 ∷ 0 ∷ 0 ∷ start)
    -- P3
    ∷ gives (ran_on (1 ∷ 1 ∷ [])) (0 ∷ 0 ∷ 1 ∷ 1 ∷ 0 ∷ 0 ∷ start)
    -- P4, with 02, Q-3: "P4 and P5 then report 0 done"
    ∷ gives (ran_on (0 ∷ 0 ∷ 0 ∷ [])) (0 ∷ 0 ∷ 3 ∷ 0 ∷ 0 ∷ 0 ∷ 4660 ∷ 0 ∷ 5 ∷ [])
    -- P5
    ∷ gives (ran_on unposted) (0 ∷ 0 ∷ 5 ∷ 1 ∷ 0 ∷ 0 ∷ 4660 ∷ 0 ∷ 5 ∷ [])
    -- and "the last write of task 1 isn't yet posted": one more step of worker 0 posts it
    ∷ gives (posted_on unposted ∷ posted_on (unposted ++ (0 ∷ [])) ∷ []) (0 ∷ 1 ∷ [])
    -- P6
    ∷ gives (ran_on (replicate 7 0)) (0 ∷ 0 ∷ 6 ∷ 1 ∷ 1 ∷ 0 ∷ 4660 ∷ 0 ∷ 5 ∷ [])
    -- P7
    ∷ gives (ran_on whole) (0 ∷ 0 ∷ 22 ∷ 0 ∷ 3 ∷ 1 ∷ 4660 ∷ 13330 ∷ 13335 ∷ [])
    -- P8
    ∷ gives (ran_on (whole ++ (0 ∷ []))) (0 ∷ 0 ∷ 22 ∷ 1 ∷ 3 ∷ 1 ∷ 4660 ∷ 13330 ∷ 13335 ∷ [])
    -- P2 to P8, why steps were held (02, Q-1): none was
    ∷ gives (held_on []) (0 ∷ 0 ∷ 0 ∷ latest [] [])
    -- worker 1 waits for task 1 to write cell 0
    ∷ gives (held_on (1 ∷ 1 ∷ [])) (0 ∷ 1 ∷ 0 ∷ latest (0 ∷ 2 ∷ []) (0 ∷ 0 ∷ []))
    ∷ gives (held_on unposted) (0 ∷ 1 ∷ 0 ∷ latest (0 ∷ 2 ∷ []) (0 ∷ 0 ∷ []))
    -- its next steps advance, and its latest held step stays
    ∷ gives (held_on (unposted ++ (0 ∷ 1 ∷ 1 ∷ []))) (0 ∷ 1 ∷ 0 ∷ latest (0 ∷ 2 ∷ []) (0 ∷ 0 ∷ []))
    -- worker 0 waits for task 2 to write cell 1
    ∷ gives (held_on (replicate 7 0)) (0 ∷ 1 ∷ 0 ∷ latest (2 ∷ []) (1 ∷ []))
    -- none was, and then worker 0 is past the last task
    ∷ gives (held_on whole) (0 ∷ 0 ∷ 0 ∷ latest [] [])
    ∷ gives (held_on (whole ++ (0 ∷ []))) (1 ∷ 0 ∷ 0 ∷ latest (1 ∷ []) [])
    -- a byte that names no worker: nothing is told
    ∷ gives (held_on (1 ∷ 1 ∷ 2 ∷ [])) (0 ∷ 0 ∷ 0 ∷ latest [] [])
    -- a writer waits for the reads of cell 0, and of cell 1 once those of cell 0 have ended
    ∷ gives (held_by_reads (1 ∷ 1 ∷ 1 ∷ [])) (0 ∷ 0 ∷ 1 ∷ latest (0 ∷ 3 ∷ []) (0 ∷ 0 ∷ []))
    ∷ gives (held_by_reads (1 ∷ 1 ∷ 1 ∷ 0 ∷ 0 ∷ 0 ∷ 1 ∷ 1 ∷ 1 ∷ [])) (0 ∷ 0 ∷ 2 ∷ latest (0 ∷ 3 ∷ []) (0 ∷ 1 ∷ []))
    -- P9: no bytes, the byte 255, and "abcde"
    ∷ gives (sums_of []) (0 ∷ 0 ∷ [])
    ∷ gives (sums_of (255 ∷ [])) (0 ∷ 0 ∷ [])
    ∷ gives (sums_of (97 ∷ 98 ∷ 99 ∷ 100 ∷ 101 ∷ [])) (240 ∷ 200 ∷ [])
    -- P10
    ∷ gives (made_on 1 3 4294967295 1) (0 ∷ 1 ∷ [])
    ∷ gives (made_on 1 4 0 1) (4294967295 ∷ 1 ∷ [])
    ∷ gives (made_on 1 5 4294967295 74565) (17699 ∷ 74565 ∷ [])
    -- P10 in version 2 (02, Q-8): "74565 gives 83235; in version 1 it stays 17699"
    ∷ gives (made_on 2 3 4294967295 1) (0 ∷ 1 ∷ [])
    ∷ gives (made_on 2 4 0 1) (4294967295 ∷ 1 ∷ [])
    ∷ gives (made_on 2 5 4294967295 74565) (83235 ∷ 74565 ∷ [])
    ∷ []
