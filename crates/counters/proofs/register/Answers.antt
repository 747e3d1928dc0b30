-- One access more is noted, which adds at most one read, and after all of them nothing is left.
use Rattle.std.proofs.Common.{◌≡◌, [], ℕ, zero, suc, ◌+◌, ◌<◌, ◌≤◌, Bool, true, false, cond, List, ◌∷◌, get_or, set, drop, sym, ap, ◌∙◌, arith, rules}
use Rattle.layout.specs.Lists.{each}
use Rattle.layout.specs.Row.{access_at, task_of}
use Rattle.layout.proofs.Modes.{each-drop, each-drop-all}
use Rattle.steps.specs.Step.{writes}
use Rattle.arrays.specs.declared.Counter.{Counter}
use Rattle.arrays.specs.Arrays.{counted, nothing, counter_at, noted, noted_all, most_reads}
use Rattle.counters.proofs.register.Goals as goal

-- what holds of a list's member and of what is stored holds of that member after the store
stored : {A : Type 0} (P : A → Type 0) (xs : List A) (i j : ℕ) (y d : A) → P y → P (get_or xs j d) → P (get_or (set xs i y) j d)
stored P [] i j y d new old = old
stored P (x ∷ xs) zero zero y d new old = new
stored P (x ∷ xs) zero (suc j) y d new old = old
stored P (x ∷ xs) (suc i) zero y d new old = old
stored P (x ∷ xs) (suc i) (suc j) y d new old = stored P xs i j y d new old

-- a note adds at most one read
reads_noted : (private : List (List Counter)) (w cell : ℕ) (write : Bool) (number limit : ℕ)
    → ((c : ℕ) → (counter_at (get_or private w []) c).reads ≤ limit)
    → (c : ℕ) → (counter_at (get_or (noted private w cell write number) w []) c).reads ≤ limit + 1
reads_noted private w cell write number limit few c =
    stored (λ row. (counter_at row c).reads ≤ limit + 1) private w w _ []
    (stored (λ (counter : Counter). counter.reads ≤ limit + 1) (get_or private w []) cell c _ nothing (new write) (omega (arith, few c)))
    (omega (arith, few c))
  where
    before : Counter
    before = get_or (get_or private w []) cell nothing

    new : (is : Bool) → (cond is (counted number 0) (counted before.last_write (before.reads + 1))).reads ≤ limit + 1
    new true = omega arith
    new false = omega (arith, few cell)

-- and an access more is noted
noted_next : (row : List ℕ) (count w number j cell : ℕ) (write : Bool) (all before after : List (List Counter)) → j < count
    → cell ≡ (access_at row j).cell → write ≡ writes (access_at row j) → after ≡ noted before w cell write number
    → all ≡ noted_all before w number (drop j (each count (access_at row)))
    → all ≡ noted_all after w number (drop (j + 1) (each count (access_at row)))
unfolding noted_all
noted_next row count w number j cell write all before after more of-cell of-write is rest =
    rest ∙ ap (noted_all before w number) (each-drop count (access_at row) j more) ∙ rw (is, of-cell, of-write)

pub loop-j-preserved : goal.loop-j-preserved
loop-j-preserved c =
    let turn = c.loop-j in
    let cell = c.from.result in
    record {
      few = λ d. rw c.note.ensures (omega (arith, reads_noted turn.private c.args.w cell c.is_write.result c.args.number (most_reads + turn.j) turn.invariant.few d));
      left =
          noted_next c.args.row.now _ c.args.w c.args.number turn.j cell c.is_write.result _ turn.private c.note.new.private
          (search rules) (search rules) (search rules) (search rules) turn.invariant.left;
    }

pub returns : goal.returns
unfolding noted_all task_of
returns c =
    let row = c.args.row.now in
    sym
    (c.loop-j.invariant.left
    ∙ ap (noted_all c.loop-j.private c.args.w c.args.number) (each-drop-all (get_or row 1 0) (access_at row) c.loop-j.j (omega arith)))
