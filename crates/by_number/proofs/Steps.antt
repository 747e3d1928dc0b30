-- A step over numbers: what they stand for makes it, the worker's place is told by its numbers, and those of all other places stay.
use mathlib.Core.Path.{sym, ap, ◌∙◌}
use lib.Dec.{eqb}
use Rattle.std.proofs.Common.{◌≡◌, Bool, true, false, cond, subst, ℕ, ◌+◌, ◌<◌, ◌≤◌, List, [], ◌∷◌, length, get_or, set, map, refl, arith}
use Rattle.std.proofs.lemmas.List.{get_or-set_same, set-get_or, length-map, map-set}
use Rattle.layout.specs.Flow.{most_workers}
use Rattle.layout.specs.File.{row_start}
use Rattle.steps.specs.Step.{Outcome}
use Rattle.arrays.specs.declared.Stage.{Stage}
use Rattle.arrays.specs.declared.Stage.TheVariants.{WaitWrite, WaitReads, Operate, End, Post}
use Rattle.arrays.specs.declared.Place.{Place}
use Rattle.arrays.specs.declared.Kept.{Kept}
use Rattle.arrays.specs.Arrays.{Arrays, lent, moves_on, places_after, Placed, StepDone}
use Rattle.arrays.specs.Numbers.{place_of_numbers}
use Rattle.arrays.proofs.Machines.{stored_at}
use Rattle.by_number.specs.Numbers.{numbers_of_counter, number_of_stage, numbers_of_place, kept_of, standing_for, numbers_after}
use Rattle.by_number.proofs.Numbers.{place_told, kept_told}

-- ---- the step

-- a step of what is kept is one of the numbers that stand for it
pub step_told : (file : List ℕ) (version tasks w : ℕ) (why : Outcome) (cells cells' : List ℕ) (kept kept' : Kept) (shared shared' : List (List ℕ)) (private private' : List (List (List ℕ))) (places places' : List (List ℕ))
    → kept ≡ kept_of shared private places
    → shared' ≡ map numbers_of_counter kept'.shared
    → private' ≡ map (λ row. map numbers_of_counter row) kept'.private
    → map place_of_numbers places' ≡ kept'.places
    → StepDone file version tasks w (lent cells kept) why (lent cells' kept')
    → StepDone file version tasks w (standing_for cells shared private places) why (standing_for cells' shared' private' places')
step_told file version tasks w why cells cells' kept kept' shared shared' private private' places places' before s p q done =
    subst (λ (from : Kept). StepDone file version tasks w (lent cells from) why (standing_for cells' shared' private' places')) before
    (subst (λ (to : Arrays). StepDone file version tasks w (lent cells kept) why to) (kept_told cells' kept' shared' private' places' s p q) done)

-- ---- the places

-- the numbers after a step stand for the places after it
pub told_after : (why : Outcome) (numbers : List (List ℕ)) (w : ℕ) (next : Place)
    → map place_of_numbers (numbers_after why numbers w next) ≡ places_after why (map place_of_numbers numbers) w next
told_after why numbers w next = by (moves_on why)
  where
    by : (b : Bool)
        → map place_of_numbers (cond b (set numbers w (numbers_of_place next)) numbers)
        ≡ cond b (set (map place_of_numbers numbers) w next) (map place_of_numbers numbers)
    by false = refl
    by true =
        map-set place_of_numbers numbers w (numbers_of_place next)
        ∙ ap (λ (place : Place). set (map place_of_numbers numbers) w place) (place_told next)

-- of a worker that moves on they are those of its place as it is kept
pub moved_told : (why : Outcome) (numbers : List (List ℕ)) (after : List Place) (w : ℕ) (next d : Place) (told : List ℕ) → w < length numbers
    → moves_on why ≡ true
    → after ≡ places_after why (map place_of_numbers numbers) w next
    → told ≡ numbers_of_place (get_or after w d)
    → set numbers w told ≡ numbers_after why numbers w next
moved_told why numbers after w next d told l moved same is =
    ap (λ (one : List ℕ). set numbers w one) (is ∙ ap numbers_of_place there)
    ∙ ap (λ (b : Bool). cond b (set numbers w (numbers_of_place next)) numbers) (sym moved)
  where
    there : get_or after w d ≡ next
    there =
        ap (λ (all : List Place). get_or all w d)
        (same ∙ ap (λ (b : Bool). cond b (set (map place_of_numbers numbers) w next) (map place_of_numbers numbers)) moved)
        ∙ get_or-set_same (map place_of_numbers numbers) w next d (omega (arith, length-map numbers place_of_numbers))

-- and of one that is held those that it had
pub held_told : (why : Outcome) (numbers : List (List ℕ)) (w : ℕ) (next : Place) (told : List ℕ) → moves_on why ≡ false → told ≡ get_or numbers w []
    → set numbers w told ≡ numbers_after why numbers w next
held_told why numbers w next told held is =
    ap (λ (one : List ℕ). set numbers w one) is
    ∙ set-get_or numbers w []
    ∙ ap (λ (b : Bool). cond b (set numbers w (numbers_of_place next)) numbers) (sym held)

-- ---- which numbers may be any

-- past the last task the numbers of a stage and an index may be any
pub any_past : (file : List ℕ) (tasks passed stage index : ℕ) → tasks ≤ passed → Placed file tasks (place_of_numbers (passed ∷ stage ∷ index ∷ row_start (passed + 1) ∷ []))
any_past file tasks passed stage index l = record { starts = refl; stands = λ left. absurd (omega arith) }

-- with tasks left the number of each worker's stage is below 5
pub record Staged (tasks : ℕ) (places : List (List ℕ)) : Type 0 where
  pub below : (w : ℕ) → w < most_workers → get_or (get_or places w []) 0 0 < tasks → get_or (get_or places w []) 1 0 < 5

stage_below : (stage : Stage) → number_of_stage stage < 5
stage_below WaitWrite = omega arith
stage_below WaitReads = omega arith
stage_below Operate = omega arith
stage_below End = omega arith
stage_below Post = omega arith

-- a step leaves it so
pub staged_after : (tasks : ℕ) (why : Outcome) (places : List (List ℕ)) (w : ℕ) (next : Place) → w < length places → Staged tasks places
    → Staged tasks (numbers_after why places w next)
staged_after tasks why places w next l staged = by (moves_on why)
  where
    by : (b : Bool) → Staged tasks (cond b (set places w (numbers_of_place next)) places)
    by false = staged
    by true =
        record {
          below = λ v k.
              rw (stored_at places w (numbers_of_place next) [] v l)
              (elim (eqb v w) as (λ same. get_or (cond same (numbers_of_place next) (get_or places v [])) 0 0 < tasks → get_or (cond same (numbers_of_place next) (get_or places v [])) 1 0 < 5)
              [ true ↦ λ left. stage_below next.stage | false ↦ staged.below v k ]);
        }
