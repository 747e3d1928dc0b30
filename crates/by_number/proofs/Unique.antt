-- A step's contract allows one outcome: the answer, the cells and every number. What the numbers stand for is one by the law of
-- `machine::stepping::step`; a counter's two numbers are told by the counter, and the places are said to the number.
use Rattle.std.proofs.Common.{◌≡◌, ℕ, ◌<◌, zero, suc, List, [], length, get_or, map, sym, ap, ◌∙◌, arith}
use lib.Seq.{ext_get_or}
use Rattle.std.specs.Prelude.{Result}
use Rattle.std.proofs.lemmas.List.{get_or-map, length-map}
use Rattle.layout.specs.Flow.{most_workers, most_cells}
use Rattle.arrays.specs.declared.Counter.{Counter}
use Rattle.arrays.specs.declared.Place.{Place}
use Rattle.arrays.specs.Arrays.{nothing, Arrays, StepDone}
use Rattle.arrays.specs.Numbers.{counter_of_numbers}
use Rattle.machine.specs.declared.Held.{Held}
use Rattle.machine.specs.Outcomes.{outcome_of}
use Rattle.machine.proofs.Unique as Stepping
use Rattle.by_number.specs.Numbers.{standing_for, numbers_after}

-- counters of the sizes that the code's types give them, each of two numbers
pub record Typed (shared : List (List ℕ)) (private : List (List (List ℕ))) : Type 0 where
  pub shared_typed : length shared ≡ most_cells
  pub shared_pairs : (c : ℕ) → c < most_cells → length (get_or shared c []) ≡ 2
  pub rows : length private ≡ most_workers
  pub private_typed : (w : ℕ) → w < most_workers → length (get_or private w []) ≡ most_cells
  pub private_pairs : (w c : ℕ) → w < most_workers → c < most_cells → length (get_or (get_or private w []) c []) ≡ 2

-- two numbers, a row of such, and all rows are the same where they stand for the same
same_pair : (x y : List ℕ) → length x ≡ 2 → length y ≡ 2 → counter_of_numbers x ≡ counter_of_numbers y → x ≡ y
same_pair x y two two' same = ext_get_or 0 x y (two ∙ sym two') (λ i l. at i (omega (arith, two)))
  where
    at : (i : ℕ) → i < 2 → get_or x i 0 ≡ get_or y i 0
    at zero l = ap (λ (counter : Counter). counter.last_write) same
    at (suc zero) l = ap (λ (counter : Counter). counter.reads) same
    at (suc (suc i)) l = absurd (omega arith)

same_row : (x y : List (List ℕ)) → length x ≡ most_cells → length y ≡ most_cells → ((c : ℕ) → c < most_cells → length (get_or x c []) ≡ 2)
    → ((c : ℕ) → c < most_cells → length (get_or y c []) ≡ 2)
    → map counter_of_numbers x ≡ map counter_of_numbers y
    → x ≡ y
same_row x y size size' pairs pairs' same = ext_get_or [] x y (size ∙ sym size') (λ c l. at c (omega (arith, size)))
  where
    at : (c : ℕ) → c < most_cells → get_or x c [] ≡ get_or y c []
    at c l =
        same_pair (get_or x c []) (get_or y c []) (pairs c l) (pairs' c l)
        (sym (get_or-map counter_of_numbers x c [] nothing (omega (arith, size)))
        ∙ ap (λ (row : List Counter). get_or row c nothing) same
        ∙ get_or-map counter_of_numbers y c [] nothing (omega (arith, size')))

same_rows : (shared shared' : List (List ℕ)) (x y : List (List (List ℕ))) → Typed shared x → Typed shared' y
    → map (λ row. map counter_of_numbers row) x ≡ map (λ row. map counter_of_numbers row) y
    → x ≡ y
same_rows shared shared' x y t t' same = ext_get_or [] x y (t.rows ∙ sym t'.rows) (λ w l. at w (omega (arith, t.rows)))
  where
    at : (w : ℕ) → w < most_workers → get_or x w [] ≡ get_or y w []
    at w l =
        same_row (get_or x w []) (get_or y w []) (t.private_typed w l) (t'.private_typed w l) (λ c k. t.private_pairs w c l k)
        (λ c k. t'.private_pairs w c l k)
        (sym (get_or-map (λ row. map counter_of_numbers row) x w [] [] (omega (arith, t.rows)))
        ∙ ap (λ (rows : List (List Counter)). get_or rows w []) same
        ∙ get_or-map (λ row. map counter_of_numbers row) y w [] [] (omega (arith, t'.rows)))

-- what numbers stand for has the sizes that the law of the step asks
typed : (cells : List ℕ) (shared : List (List ℕ)) (private : List (List (List ℕ))) (places : List (List ℕ)) → Typed shared private
    → Stepping.Typed (standing_for cells shared private places)
typed cells shared private places t =
    record {
      shared_typed = length-map shared counter_of_numbers ∙ t.shared_typed;
      rows = length-map private (λ row. map counter_of_numbers row) ∙ t.rows;
      private_typed = λ w l.
          ap (λ (row : List Counter). length row) (get_or-map (λ row. map counter_of_numbers row) private w [] [] (omega (arith, t.rows)))
          ∙ length-map (get_or private w []) counter_of_numbers
          ∙ t.private_typed w l;
    }

-- one outcome
module _ (r s : Result (Unit {0}) Held) (cells cells' : List ℕ) (shared shared' : List (List ℕ)) (private private' : List (List (List ℕ))) (places places' : List (List ℕ)) where
  pub step_unique : (file : List ℕ) (version tasks w : ℕ) (before : Arrays) (numbers : List (List ℕ)) (next : Place)
      → Typed shared private
      → Typed shared' private'
      → StepDone file version tasks w before (outcome_of r) (standing_for cells shared private places)
      → StepDone file version tasks w before (outcome_of s) (standing_for cells' shared' private' places')
      → places ≡ numbers_after (outcome_of r) numbers w next
      → places' ≡ numbers_after (outcome_of s) numbers w next
      → (r ≡ s) × (cells ≡ cells') × (shared ≡ shared') × (private ≡ private') × (places ≡ places')
  step_unique file version tasks w before numbers next t t' p q at at' =
      let one =
      Stepping.step_unique r s (standing_for cells shared private places) (standing_for cells' shared' private' places') (typed cells shared private places t)
      (typed cells' shared' private' places' t') file version tasks w before p q
      in (
        one.0,
        ap (λ (kept : Arrays). kept.cells) one.1,
        same_row shared shared' t.shared_typed t'.shared_typed t.shared_pairs t'.shared_pairs (ap (λ (kept : Arrays). kept.shared) one.1),
        same_rows shared shared' private private' t t' (ap (λ (kept : Arrays). kept.private) one.1),
        at ∙ ap (λ (answer : Result (Unit {0}) Held). numbers_after (outcome_of answer) numbers w next) one.0 ∙ sym at',
      )
