-- The words of a stepped run, written worker by worker.
use Rattle.std.proofs.Common.{◌≡◌, ℕ, zero, suc, ◌+◌, ◌*◌, List, [], ◌∷◌, Bool, cond, map, get_or, set, Option, None, Ok, refl, ap, add-one}
use Rattle.machine.specs.declared.Held.{Held}
use Rattle.notes.specs.Noted.{reason_in, cell_in}
use Rattle.run.specs.declared.Ran.{Ran}
use Rattle.run.specs.Answers.{answer_by}
use Rattle.sflw.specs.Words.{run_words}

-- the words once those of so many workers are written
unfoldable pub told : List ℕ → List (Option Held) → ℕ → List ℕ
told first latest zero = first
told first latest (suc w) =
    set (set (told first latest w) (9 + 2 * w) (reason_in (get_or latest w None))) (10 + 2 * w) (cell_in (get_or latest w None))

-- with those of one worker more
pub told_more : (first : List ℕ) (latest : List (Option Held)) (w : ℕ) → told first latest (w + 1)
    ≡ set (set (told first latest w) (9 + 2 * w) (reason_in (get_or latest w None))) (10 + 2 * w) (cell_in (get_or latest w None))
unfolding told
told_more first latest w = ap (told first latest) (add-one w)

-- the words before any worker's
abbrev pub first_words : Ran → ℕ → List ℕ
first_words ran finished =
    0 ∷ 0 ∷ ran.advanced ∷ ran.held ∷ ran.done ∷ finished ∷ ran.notes.past_last ∷ ran.notes.write_differs ∷ ran.notes.reads_differ
    ∷ 0 ∷ 0 ∷ 0 ∷ 0 ∷ 0 ∷ 0 ∷ 0 ∷ 0 ∷ 0 ∷ 0 ∷ 0 ∷ 0 ∷ 0 ∷ 0 ∷ 0 ∷ 0 ∷ []

-- what is told of each is told of the one
told_of : {A : Type 0} (f : A → ℕ) (none : A) → f none ≡ 0 → (l : List A) (w : ℕ) → f (get_or l w none) ≡ get_or (map f l) w 0
told_of f none e [] w = e
told_of f none e (x ∷ l) zero = refl
told_of f none e (x ∷ l) (suc w) = told_of f none e l w

-- all eight
pub all_told : (ran : Ran) (finished : ℕ) → finished ≡ cond ran.finished 1 0 → told (first_words ran finished) ran.notes.latest 8 ≡ run_words (answer_by (Ok ran))
unfolding told
all_told ran finished e =
    let reason = λ (w : ℕ). told_of reason_in None refl ran.notes.latest w in
    let cell = λ (w : ℕ). told_of cell_in None refl ran.notes.latest w in
    λ i.
    0 ∷ 0 ∷ ran.advanced ∷ ran.held ∷ ran.done ∷ e i ∷ ran.notes.past_last ∷ ran.notes.write_differs ∷ ran.notes.reads_differ
    ∷ reason 0 i ∷ cell 0 i ∷ reason 1 i ∷ cell 1 i ∷ reason 2 i ∷ cell 2 i ∷ reason 3 i ∷ cell 3 i
    ∷ reason 4 i ∷ cell 4 i ∷ reason 5 i ∷ cell 5 i ∷ reason 6 i ∷ cell 6 i ∷ reason 7 i ∷ cell 7 i ∷ []
