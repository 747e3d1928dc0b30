-- A row that keeps its rules is the row of its task: rules 7, 8 and 10 make every byte zero that the task doesn't hold, and
-- the two bytes of k come back from k since they are below 256.
use mathlib.Core.Path.{◌≡◌, refl, sym, ap, ap₂, ◌∙◌}
use mathlib.Core.Bool.{Bool, true}
use mathlib.Core.List.{List, ◌∷◌, ◌++◌}
use Prim.Native.Nat.{ℕ, ◌+◌, ◌*◌, ◌<◌, ◌≤◌}
use native.Mathlib.Omega.{arith}
use borrow.Author.Tests.{eqb-true, leb-true, ltb-true}
use lib.ListN.{length, take, drop, length-drop, take-append-drop}
use lib.Seq.{take_all, drop-drop}
use Rattle.layout.specs.Lists.{each, all, joined}
use Rattle.layout.specs.Bytes.{IsBytes, at, part, all_zero, padded}
use Rattle.layout.specs.Flow.{most_accesses, most_operations}
use Rattle.layout.specs.Row.{access_at, operation_at, spare_at, task_of, access_bytes, operation_bytes, row_of}
use Rattle.layout.specs.Row.{access_in_range, accesses_sound, named_once, operation_in_range, operation_sound, operations_sound}
use Rattle.layout.specs.Refusal.{unless, first_broken}
use Rattle.layout.specs.Row.{owner_sound, counts_sound, retirement_kept, modes_sound, writes_made, row_refusal}
use Rattle.layout.proofs.Lists.{and_left, and_right, each-length, all_keeps}
use Rattle.roundtrip.proofs.Parts.{part_bytes, padded_back, word_back}
use Rattle.roundtrip.proofs.Pieces.{joined_cut}
use Rattle.roundtrip.proofs.NoRefusal.{rule_kept, and_iff}

-- ---- what the rules say of a row

pub record RowCounts (workers : ℕ) (row : List ℕ) : Type 0 where
  pub owner : at row 0 < workers
  pub some_access : 1 ≤ at row 1
  pub accesses_fit : at row 1 ≤ most_accesses
  pub operations_fit : at row 2 ≤ most_operations
  pub spare : at row 3 ≡ 0

pub record RowKept (retired : Bool) (workers cells : ℕ) (row : List ℕ) : Type 0 where
  pub counts : RowCounts workers row
  pub accesses : all (access_in_range cells) (task_of row).accesses ≡ true
  pub accesses_rest : all_zero (part (4 + 2 * at row 1) 12 row) ≡ true
  pub once : named_once (task_of row).accesses ≡ true
  pub operations : all (operation_sound cells row) (each (at row 2) (λ i. i)) ≡ true
  pub operations_rest : all_zero (part (12 + 6 * at row 2) 48 row) ≡ true
  pub retirement : retirement_kept retired (task_of row) ≡ true
  pub modes : modes_sound (task_of row) ≡ true
  pub writes : writes_made (task_of row) ≡ true

module _ (retired : Bool) (workers cells : ℕ) (row : List ℕ) where
  pub row_keeps : row_refusal retired workers cells row ≡ 0 → RowKept retired workers cells row
  unfolding row_refusal all accesses_sound operations_sound
  row_keeps h =
      let rule : (i : ℕ) → _ = rule_kept _ refl h in
      let owner = rule 0 in
      let counts = simp and_iff at (rule 1) in
      record {
        counts = omega (arith, eqb-true, leb-true, ltb-true);
        accesses = and_left _ _ (rule 2);
        accesses_rest = and_right (all (access_in_range cells) (task_of row).accesses) _ (rule 2);
        once = rule 3;
        operations = and_left _ _ (rule 4);
        operations_rest = and_right (all (operation_sound cells row) (each (at row 2) (λ i. i))) _ (rule 4);
        retirement = rule 5;
        modes = rule 6;
        writes = rule 7;
      }

  others_kept : row_refusal retired workers cells row ≡ 0
      → (owner_sound workers row ≡ true) × (counts_sound row ≡ true) × (accesses_sound cells row ≡ true) × (named_once (task_of row).accesses ≡ true)
      × (operations_sound cells row ≡ true)
      × (modes_sound (task_of row) ≡ true)
      × (writes_made (task_of row) ≡ true)
  unfolding row_refusal all
  others_kept h =
      let rule : (i : ℕ) → _ = rule_kept _ refl h in
      (rule 0, rule 1, rule 2, rule 3, rule 4, rule 6, rule 7)

  -- whether operation 6 is retired is asked by rule 18 alone
  pub only_18 : row_refusal retired workers cells row ≡ 0 → (other : Bool)
      → row_refusal other workers cells row ≡ unless (retirement_kept other (task_of row)) 18
  unfolding row_refusal first_broken
  only_18 h other =
      let kept = others_kept h in
      rw (kept.0, kept.1, kept.2, kept.3, kept.4, kept.5, kept.6)

  -- ---- a row that keeps the rules is the row of its task

  module _ (k : RowKept retired workers cells row) (sized : length row ≡ 48) where
    access_back : (j : ℕ) → j < at row 1 → access_bytes (access_at row j) ≡ take 2 (drop (2 * j) (drop 4 row))
    unfolding each
    access_back j l =
        let cell : 4 + 2 * j + 0 ≡ 4 + 2 * j = omega arith in
        let mode : 4 + 2 * j + 1 ≡ 5 + 2 * j = omega arith in
        rw (drop-drop (2 * j) 4 row, part_bytes 2 (4 + 2 * j) row (omega arith)) (cc)

    accesses_back : joined access_bytes (each (at row 1) (access_at row)) ≡ take (2 * at row 1) (drop 4 row)
    accesses_back = joined_cut 2 (at row 1) (drop 4 row) access_bytes (access_at row) access_back

    spare_zero : (i : ℕ) → i < at row 2 → spare_at row i ≡ 0
    spare_zero i l =
        let sound = all_keeps (operation_sound cells row) (at row 2) (λ j. j) i l k.operations in
        eqb-true (spare_at row i) 0 (and_right (operation_in_range cells (operation_at row i)) _ sound)

    operation_back : IsBytes row → (i : ℕ) → i < at row 2
        → operation_bytes (operation_at row i) ≡ take 6 (drop (6 * i) (drop 12 row))
    unfolding each IsBytes
    operation_back bytes i l =
        let code : 12 + 6 * i + 0 ≡ 12 + 6 * i = omega arith in
        let a : 12 + 6 * i + 1 ≡ 13 + 6 * i = omega arith in
        let b : 12 + 6 * i + 2 ≡ 14 + 6 * i = omega arith in
        let spare : 12 + 6 * i + 3 ≡ 15 + 6 * i = omega arith in
        let low : 12 + 6 * i + 4 ≡ 16 + 6 * i = omega arith in
        let high : 12 + 6 * i + 5 ≡ 16 + 6 * i + 1 = omega arith in
        let zero = spare_zero i l in
        let word = word_back (at row (16 + 6 * i)) (at row (16 + 6 * i + 1)) _ (bytes (16 + 6 * i)) refl in
        rw (drop-drop (6 * i) 12 row, part_bytes 6 (12 + 6 * i) row (omega arith)) (cc)

    operations_back : IsBytes row → joined operation_bytes (each (at row 2) (operation_at row)) ≡ take (6 * at row 2) (drop 12 row)
    operations_back bytes = joined_cut 6 (at row 2) (drop 12 row) operation_bytes (operation_at row) (operation_back bytes)

    split : row ≡ at row 0 ∷ at row 1 ∷ at row 2 ∷ at row 3 ∷ take 8 (drop 4 row) ++ take 36 (drop 12 row)
    unfolding each
    split =
        sym (take-append-drop 4 row)
        ∙ ap₂ ◌++◌ (part_bytes 4 0 row (omega arith))
        (sym (take-append-drop 8 (drop 4 row))
        ∙ ap (λ (t : List ℕ). take 8 (drop 4 row) ++ t)
        (drop-drop 8 4 row ∙ sym (take_all 36 (drop 12 row) (rw (length-drop, sized) (omega arith)))))

    whole_back : IsBytes row → row_of (task_of row) ≡ row
    unfolding row_of task_of
    whole_back bytes =
        let few = k.counts in
        let accesses : padded 8 (joined access_bytes (each (at row 1) (access_at row))) ≡ take 8 (drop 4 row) =
        rw accesses_back (padded_back (2 * at row 1) 8 4 row (omega arith) (omega arith) k.accesses_rest) in
        let operations : padded 36 (joined operation_bytes (each (at row 2) (operation_at row))) ≡ take 36 (drop 12 row) =
        rw (operations_back bytes) (padded_back (6 * at row 2) 36 12 row (omega arith) (omega arith) k.operations_rest) in
        rw (each-length (at row 1) (access_at row), each-length (at row 2) (operation_at row), accesses, operations)
        (sym (rw few.spare at split))

  pub row_back : row_refusal retired workers cells row ≡ 0 → length row ≡ 48 → IsBytes row → row_of (task_of row) ≡ row
  row_back h sized bytes = whole_back (row_keeps h) sized bytes
