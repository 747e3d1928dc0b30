-- What a run keeps of its steps is what the rules tell of them. One step more raises one count by one, and a held one changes what is kept of its worker
-- alone.
use mathlib.Core.Path.{◌≡◌, refl, sym, ap, ◌∙◌}
use mathlib.Core.Bool.{Bool, true, false, cond, true≢false}
use mathlib.Core.List.{List, [], ◌∷◌, ◌++◌}
use Prim.Native.Nat.{ℕ, suc, ◌+◌, ◌<◌, ◌≤◌}
use native.Mathlib.Omega.{arith}
use borrow.Author.Tests.{eq-eqb, ne_eqb}
use Rattle.std.proofs.lemmas.Bool.Decides.{nat_tests}
use lib.ListN.{length, get_or, set}
use lib.Dec.{eqb}
use Rattle.layout.specs.Lists.{each}
use Rattle.layout.specs.Flow.{most_workers}
use Rattle.layout.proofs.Lists.{each_at, each_same, each_set}
use Rattle.steps.specs.Step.{Outcome, advanced, past_last, write_differs, reads_differ}
use Rattle.steps.specs.Held.{reason_of, cell_of, Named, named, held_for, latter, latest_of}
use Rattle.steps.proofs.Held.{held_more, latest_more, held_within, latter_held}
use Rattle.arrays.specs.Arrays.{moves_on}
use Rattle.notes.specs.declared.Notes.{Notes}
use Rattle.notes.specs.Noted.{counts_of, reasons_of, cells_of, no_notes, count_at, counted_more, kept_for}

-- ---- the counts

-- those of the reasons 1, 2 and 3
abbrev pub counts_by : List Named → List ℕ
counts_by steps = each 3 (λ i. held_for (suc i) steps)

module _ (steps : List Named) (w : ℕ) (why : Outcome) where
  -- a reason that the step does not have is counted as before
  not_counted : (reason : ℕ) → (reason ≡ reason_of why → ⊥) → held_for reason steps ≡ held_for reason (steps ++ named w why ∷ [])
  not_counted reason apart = let more = held_more reason steps (named w why) in grind (arith, nat_tests)

  -- and the one that it has once more
  counted_once : (i : ℕ) → i < 3 → suc i ≡ reason_of why
      → set (counts_by steps) i (get_or (counts_by steps) i 0 + 1) ≡ counts_by (steps ++ named w why ∷ [])
  counted_once i h e =
      let before = each_at 3 (λ j. held_for (suc j) steps) i 0 h in
      let more = held_more (suc i) steps (named w why) in
      each_set 3 (λ j. held_for (suc j) steps) (λ j. held_for (suc j) (steps ++ named w why ∷ [])) i _ (grind (arith, nat_tests))
      (λ j apart. not_counted (suc j) (λ same. apart (omega (arith, same, e))))

counts_more : (steps : List Named) (w : ℕ) (why : Outcome) → counted_more (counts_by steps) why ≡ counts_by (steps ++ named w why ∷ [])
counts_more steps w advanced = each_same 3 _ _ (λ i h. not_counted steps w advanced (suc i) (λ e. omega arith))
counts_more steps w past_last = counted_once steps w past_last 0 (omega arith) refl
counts_more steps w (write_differs c) = counted_once steps w (write_differs c) 1 (omega arith) refl
counts_more steps w (reads_differ c) = counted_once steps w (reads_differ c) 2 (omega arith) refl

-- ---- each worker's latest

-- a number of each worker's latest held step
abbrev pub latest_by : (Outcome → ℕ) → List Named → List ℕ
latest_by number steps = each most_workers (λ w. number (latest_of w steps))

held_not : (why : Outcome) → moves_on why ≡ false → why ≡ advanced → ⊥
held_not why stayed e = true≢false (sym (ap moves_on e) ∙ stayed)

module _ (number : Outcome → ℕ) (steps : List Named) (w : ℕ) where
  -- what a step says of its own worker, and of another
  own_latest : (why : Outcome) → latest_of w (steps ++ named w why ∷ []) ≡ latter (latest_of w steps) why
  own_latest why =
      latest_more w steps (named w why) ∙ ap (λ (b : Bool). latter (latest_of w steps) (cond b why advanced)) (eq-eqb w w refl)

  other_latest : (why : Outcome) (v : ℕ) → (v ≡ w → ⊥) → latest_of v (steps ++ named w why ∷ []) ≡ latest_of v steps
  unfolding latter
  other_latest why v apart =
      latest_more v steps (named w why)
      ∙ ap (λ (b : Bool). latter (latest_of v steps) (cond b why advanced)) (ne_eqb w v (λ e. apart (sym e)))

  held_kept : (why : Outcome) → moves_on why ≡ false → set (latest_by number steps) w (number why) ≡ latest_by number (steps ++ named w why ∷ [])
  held_kept why stayed =
      each_set most_workers (λ v. number (latest_of v steps)) (λ v. number (latest_of v (steps ++ named w why ∷ []))) w (number why)
      (ap number (sym (own_latest why ∙ latter_held (latest_of w steps) why (held_not why stayed))))
      (λ v apart. ap number (sym (other_latest why v apart)))

  -- an advancing step says nothing
  unchanged : (v : ℕ) → latest_of v steps ≡ latest_of v (steps ++ named w advanced ∷ [])
  unfolding latter
  unchanged v = rw (latest_more v steps (named w advanced)) (elim (eqb w v) as (λ own. latest_of v steps ≡ latter (latest_of v steps) (cond own advanced advanced)) [ true ↦ refl | false ↦ refl ])

  latest_kept : (why : Outcome) → kept_for (latest_by number steps) w why (number why) ≡ latest_by number (steps ++ named w why ∷ [])
  latest_kept advanced = each_same most_workers _ _ (λ v h. ap number (unchanged v))
  latest_kept past_last = held_kept past_last refl
  latest_kept (write_differs c) = held_kept (write_differs c) refl
  latest_kept (reads_differ c) = held_kept (reads_differ c) refl

-- ---- what is kept

-- of these steps
pub record Noted (steps : List Named) (notes : Notes) : Type 0 where
  pub counts_are : counts_of notes ≡ counts_by steps
  pub reasons_are : reasons_of notes ≡ latest_by reason_of steps
  pub cells_are : cells_of notes ≡ latest_by cell_of steps

pub none_noted : Noted [] no_notes
unfolding each held_for latest_of
none_noted = record { counts_are = refl; reasons_are = refl; cells_are = refl }

module _ {steps : List Named} {notes : Notes} (noted : Noted steps notes) where
  -- one step more
  pub noted_more : (w : ℕ) (why : Outcome) (after : Notes) → counts_of after ≡ counted_more (counts_of notes) why
      → reasons_of after ≡ kept_for (reasons_of notes) w why (reason_of why)
      → cells_of after ≡ kept_for (cells_of notes) w why (cell_of why)
      → Noted (steps ++ named w why ∷ []) after
  noted_more w why after c r n =
      record {
        counts_are = c ∙ ap (λ (l : List ℕ). counted_more l why) noted.counts_are ∙ counts_more steps w why;
        reasons_are =
            r ∙ ap (λ (l : List ℕ). kept_for l w why (reason_of why)) noted.reasons_are ∙ latest_kept reason_of steps w why;
        cells_are = n ∙ ap (λ (l : List ℕ). kept_for l w why (cell_of why)) noted.cells_are ∙ latest_kept cell_of steps w why;
      }

  pub counts_at : (notes.past_last ≡ held_for 1 steps) × (notes.write_differs ≡ held_for 2 steps) × (notes.reads_differ ≡ held_for 3 steps)
  unfolding each
  counts_at =
      let at : (i : ℕ) → get_or (counts_of notes) i 0 ≡ get_or (counts_by steps) i 0 = λ i. ap (λ (l : List ℕ). get_or l i 0) noted.counts_are in
      (at 0, at 1, at 2)

  -- no count is above the steps
  pub count_fits : (why : Outcome) → count_at (counts_of notes) why ≤ length steps
  count_fits advanced = let sums = held_within steps in omega (arith, counts_at.0)
  count_fits past_last = let sums = held_within steps in omega (arith, counts_at.0)
  count_fits (write_differs c) = let sums = held_within steps in omega (arith, counts_at.1)
  count_fits (reads_differ c) = let sums = held_within steps in omega (arith, counts_at.2)
