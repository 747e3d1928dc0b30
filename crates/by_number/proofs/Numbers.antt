-- A place's numbers stand for it, and so do those of all counters and places.
use mathlib.Core.Path.{sym, ap, ◌∙◌}
use Rattle.std.proofs.Common.{◌≡◌, ℕ, List, [], ◌∷◌, map, refl}
use Rattle.arrays.specs.declared.Counter.{Counter}
use Rattle.arrays.specs.declared.Stage.{Stage}
use Rattle.arrays.specs.declared.Stage.TheVariants.{WaitWrite, WaitReads, Operate, End, Post}
use Rattle.arrays.specs.declared.Place.{Place}
use Rattle.arrays.specs.declared.Kept.{Kept}
use Rattle.arrays.specs.Arrays.{arrays, lent}
use Rattle.arrays.specs.Numbers.{counter_of_numbers, stage_of_number, place_of_numbers}
use Rattle.by_number.specs.Numbers.{numbers_of_counter, number_of_stage, numbers_of_place, standing_for}

stage_told : (stage : Stage) → stage_of_number (number_of_stage stage) ≡ stage
stage_told WaitWrite = refl
stage_told WaitReads = refl
stage_told Operate = refl
stage_told End = refl
stage_told Post = refl

pub place_told : (place : Place) → place_of_numbers (numbers_of_place place) ≡ place
place_told place = ap (λ (stage : Stage). record { passed = place.passed; stage = stage; index = place.index; row = place.row }) (stage_told place.stage)

-- what is read off the numbers that are told of each of a list is the list, where it is so of one
told_back : {A B : Type 0} (tells : A → B) (reads : B → A) → ((one : A) → reads (tells one) ≡ one) → (l : List A) → map reads (map tells l) ≡ l
told_back tells reads one [] = refl
told_back tells reads one (x ∷ l) = λ i. one x i ∷ told_back tells reads one l i

pub counters_told : (counters : List Counter) → map counter_of_numbers (map numbers_of_counter counters) ≡ counters
counters_told = told_back numbers_of_counter counter_of_numbers (λ counter. refl)

pub rows_told : (rows : List (List Counter)) → map (λ row. map counter_of_numbers row) (map (λ row. map numbers_of_counter row) rows) ≡ rows
rows_told = told_back (λ row. map numbers_of_counter row) (λ row. map counter_of_numbers row) counters_told

-- what is kept is what its numbers stand for
pub kept_told : (cells : List ℕ) (kept : Kept) (shared : List (List ℕ)) (private : List (List (List ℕ))) (places : List (List ℕ))
    → shared ≡ map numbers_of_counter kept.shared
    → private ≡ map (λ row. map numbers_of_counter row) kept.private
    → map place_of_numbers places ≡ kept.places
    → lent cells kept ≡ standing_for cells shared private places
kept_told cells kept shared private places s p q = λ i. arrays cells (shared_told i) (private_told i) (sym q i)
  where
    shared_told : kept.shared ≡ map counter_of_numbers shared
    shared_told = sym (ap (λ (numbers : List (List ℕ)). map counter_of_numbers numbers) s ∙ counters_told kept.shared)

    private_told : kept.private ≡ map (λ row. map counter_of_numbers row) private
    private_told = sym (ap (λ (numbers : List (List (List ℕ))). map (λ row. map counter_of_numbers row) numbers) p ∙ rows_told kept.private)
