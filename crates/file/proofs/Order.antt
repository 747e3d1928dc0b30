-- The rules are asked in the order of the definitions, so the first part that refuses gives the answer: of a file the length, the
-- blocks and the rows; and for a call that fills lent bytes, their room last.
use mathlib.Core.Path.{◌≡◌, refl, sym, ap, ◌∙◌}
use mathlib.Core.Bool.{Bool, true, false, cond}
use mathlib.Core.List.{List}
use Prim.Native.Nat.{ℕ, ◌*◌, ◌≤◌, ◌<◌}
use native.Mathlib.Nat.{zero-add}
use native.Mathlib.Omega.{arith}
use borrow.Author.Tests.{eqb-true, leb-true, ne_eqb, le-leb, lt-leb}
use lib.ListN.{length}
use lib.Dec.{leb}
use Rattle.std.specs.Prelude.{Option, Some, None}
use Rattle.layout.specs.Flow.{most_blocks, WithinLimits}
use Rattle.layout.specs.Refusal as Rules
use Rattle.layout.specs.Refusal.{success, refusal, unless, or_else, first_at}
use Rattle.layout.specs.Block.{blocks_for}
use Rattle.layout.specs.File.{block_at, blocks_of, version_of, tasks_of, workers_of, cells_of, length_sound, block_number, row_number, file_answer}
use Rattle.roundtrip.proofs.NoRefusal.{and_iff, second_given, rule_passed, none_at}
use Rattle.roundtrip.proofs.BlockRules.{BlockKept, block_keeps}
use Rattle.refusal.specs.declared.Refusal.{Refusal}
use Rattle.refusal.specs.Numbers.{answer_of}
use Rattle.refusal.proofs.Unique.{number_positive}

-- ---- a part that refuses, and one that doesn't

pub first_given : (met first second : Rules.Answer) → met ≡ first → (met.number ≡ 0 → ⊥) → met ≡ or_else first second
first_given met first second e some =
    let refuses : first.number ≡ 0 → ⊥ = λ none. some (ap (λ (a : Rules.Answer). a.number) e ∙ none) in
    e ∙ sym (ap (λ (b : Bool). cond b second first) (ne_eqb first.number 0 refuses))

-- 16: less is lent than needed, or enough
module _ (first : Rules.Answer) (none : first.number ≡ 0) (needed lent : ℕ) where
  pub too_short : lent < needed → refusal 16 0 ≡ or_else first (refusal (unless (leb needed lent) 16) 0)
  too_short h = sym (second_given first _ none ∙ ap (λ (b : Bool). refusal (unless b 16) 0) (lt-leb needed lent h))

  pub long_enough : needed ≤ lent → success ≡ or_else first (refusal (unless (leb needed lent) 16) 0)
  long_enough h = sym (second_given first _ none ∙ ap (λ (b : Bool). refusal (unless b 16) 0) (le-leb needed lent h))

-- ---- the file

-- what the code counts as blocks in a file
abbrev counted_in : List ℕ → Option ℕ
counted_in file = cond (length_sound (length file)) (Some (blocks_of file)) None

-- no blocks are counted
pub length_refused : (file : List ℕ) {found : Option ℕ} → found ≡ counted_in file → found ≡ None → refusal 1 0 ≡ file_answer file
unfolding file_answer
length_refused file {found} e none = go (length_sound (length file)) refl (sym none ∙ e)
  where
    go : (b : Bool) → length_sound (length file) ≡ b → None ≡ cond b (Some (blocks_of file)) None → refusal 1 0 ≡ file_answer file
    go true s p = cc
    go false s p = rw s

-- so many are
pub record Counted (file : List ℕ) (blocks : ℕ) : Type 0 where
  pub sound : length_sound (length file) ≡ true
  pub count_is : blocks ≡ blocks_of file
  pub is_whole : length file ≡ 512 * blocks
  pub some_block : 1 ≤ blocks
  pub few_blocks : blocks ≤ most_blocks

pub counted : (file : List ℕ) {found : Option ℕ} {blocks : ℕ} → found ≡ counted_in file → found ≡ Some blocks → Counted file blocks
counted file {found} {blocks} e some = go (length_sound (length file)) refl (sym some ∙ e)
  where
    go : (b : Bool) → length_sound (length file) ≡ b → Some blocks ≡ cond b (Some (blocks_of file)) None → Counted file blocks
    go true s p =
        let tests = simp and_iff at s in
        let count_is : blocks ≡ blocks_of file = cc in
        record {
          sound = s;
          count_is = count_is;
          is_whole = omega (arith, eqb-true);
          some_block = omega (arith, eqb-true, leb-true);
          few_blocks = omega (arith, leb-true);
        }
    go false s p = cc

-- and then they are asked, and the rows after them
module _ {file : List ℕ} {blocks : ℕ} (whole : Counted file blocks) where
  abbrev by_blocks : Rules.Answer
  by_blocks = first_at (block_number file) 0 blocks

  abbrev by_rows : Rules.Answer
  by_rows = first_at (row_number file) 1 (tasks_of file)

  parts : or_else by_blocks by_rows ≡ file_answer file
  unfolding file_answer
  parts =
      ap (λ (n : ℕ). or_else (first_at (block_number file) 0 n) by_rows) whole.count_is
      ∙ sym (rule_passed (length_sound (length file)) 1 _ whole.sound)

  pub block_refused : (met : Refusal) → answer_of met ≡ by_blocks → answer_of met ≡ file_answer file
  block_refused met e = first_given (answer_of met) by_blocks by_rows e (number_positive met.rule) ∙ parts

  module _ (passed : success ≡ by_blocks) where
    none : by_blocks.number ≡ 0
    none = sym (ap (λ (a : Rules.Answer). a.number) passed)

    pub row_answers : {last : Rules.Answer} → last ≡ by_rows → last ≡ file_answer file
    row_answers e = e ∙ sym (second_given by_blocks by_rows none) ∙ parts

    -- block 0 keeps the rules, so that the sizes are within the limits and the rows within the file
    first_kept : BlockKept (blocks_of file) (version_of file) (tasks_of file) (workers_of file) (cells_of file) 0 (block_at file 0)
    first_kept = block_keeps _ _ _ _ _ 0 (block_at file 0) (rw zero-add at (none_at (block_number file) 0 blocks none 0 whole.some_block))

    pub sizes_fit : WithinLimits (tasks_of file) (workers_of file) (cells_of file)
    sizes_fit = first_kept.sizes

    pub rows_within : length file ≡ 512 * blocks_for (tasks_of file)
    rows_within = omega (arith, first_kept.fewest, whole)
