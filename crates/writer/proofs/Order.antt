-- The rules are asked in the order of the definitions, so the first part that refuses gives the answer: of given rows their length,
-- the version, the sizes and the rows. What is asked with the sizes that the code has at hand is asked with those that the definitions name, for
-- they are the same.
use Rattle.std.proofs.Common.{◌≡◌, ℕ, ◌*◌, ◌/◌, ◌≤◌, ◌<◌, Bool, true, false, cond, List, length, Option, Some, None, Result, Ok, Err, refl, sym, ap, ◌∙◌, arith}
use Rattle.std.specs.Option.{ok_or}
use borrow.Author.Tests.{eqb-true}
use Rattle.layout.specs.Flow.{known_version, in_range}
use Rattle.layout.specs.Refusal as Rules
use Rattle.layout.specs.Refusal.{success, refusal, first_at}
use Rattle.layout.specs.Row.{retired_in_writer, row_refusal}
use Rattle.layout.specs.Block.{blocks_for}
use Rattle.layout.specs.Write.{row_count, rows_sound, row_of_task, rows_answer, write_answer}
use Rattle.roundtrip.proofs.NoRefusal.{and_iff}
use Rattle.refusal.specs.declared.Rule.{Rule}
use Rattle.refusal.specs.declared.Rule.TheVariants.{Rows, Version}
use Rattle.refusal.specs.declared.Refusal.{Refusal}
use Rattle.refusal.specs.Numbers.{number_of, answer_of}
use Rattle.refusal.proofs.Unique.{number_positive}
use Rattle.flow.specs.declared.Flow.{Flow}
use Rattle.flow.specs.Made.{FlowAnswer, stated, refused, stated_by, asked_for}
use Rattle.flow.proofs.Answers.{MadeAs, within_is}
use Rattle.file.proofs.Order.{first_given, too_short, long_enough}

-- what the code counts as rows in so many bytes
abbrev pub counted_in : ℕ → Option ℕ
counted_in bytes = cond (rows_sound bytes) (Some (bytes / 48)) None

-- the first refusal among given rows
abbrev pub from_given : List ℕ → ℕ → ℕ → ℕ → ℕ → Rules.Answer
from_given rows version tasks workers cells =
    first_at (λ task. row_refusal (retired_in_writer version) workers cells (row_of_task rows task)) 1 tasks

-- ---- no rows are counted

pub rows_refused : (rows : List ℕ) (version workers cells room : ℕ) {found : Option ℕ} {rule : Rule} → found ≡ counted_in (length rows)
    → ◌≡◌ {A = Result ℕ Rule} (Err rule) (ok_or found Rows)
    → refusal (number_of rule) 0 ≡ write_answer rows version workers cells room
unfolding write_answer rows_answer
rows_refused rows version workers cells room {found} {rule} e is = go (rows_sound (length rows)) refl (is ∙ ap (λ (o : Option ℕ). ok_or o Rows) e)
  where
    go : (b : Bool) → rows_sound (length rows) ≡ b → ◌≡◌ {A = Result ℕ Rule} (Err rule) (ok_or (cond b (Some (length rows / 48)) None) Rows)
        → refusal (number_of rule) 0 ≡ write_answer rows version workers cells room
    go true s p = cc
    go false s p = let same : rule ≡ Rows = cc in rw s (ap (λ (k : Rule). refusal (number_of k) 0) same)

-- ---- so many are, and no flow is made of them

pub record Counted (rows : List ℕ) (tasks : ℕ) : Type 0 where
  pub sound : rows_sound (length rows) ≡ true
  pub count_is : tasks ≡ row_count rows

pub counted : {rows : List ℕ} {found : Option ℕ} {tasks : ℕ} → found ≡ counted_in (length rows) → found ≡ Some tasks → Counted rows tasks
counted {rows} {found} {tasks} e some = go (rows_sound (length rows)) refl (sym some ∙ e)
  where
    go : (b : Bool) → rows_sound (length rows) ≡ b → Some tasks ≡ cond b (Some (length rows / 48)) None → Counted rows tasks
    go true s p = record { sound = s; count_is = cc }
    go false s p = cc

pub flow_refused : {rows : List ℕ} (version : ℕ) {tasks : ℕ} (workers cells room : ℕ) (rule : Rule) → Counted rows tasks
    → stated_by (Err rule) ≡ asked_for version tasks workers cells
    → refusal (number_of rule) 0 ≡ write_answer rows version workers cells room
unfolding write_answer rows_answer
flow_refused {rows} version {tasks} workers cells room rule whole e = go (known_version version) (in_range tasks workers cells) refl refl e
  where
    go : (known range : Bool) → known_version version ≡ known → in_range tasks workers cells ≡ range
        → stated_by (Err rule) ≡ cond known (cond range (stated version tasks workers cells) (refused 4)) (refused 22)
        → refusal (number_of rule) 0 ≡ write_answer rows version workers cells room
    go true true k r p = absurd (number_positive rule (ap (λ (a : FlowAnswer). a.number) p))
    go true false k r p =
        let range : in_range (row_count rows) workers cells ≡ false = rw whole.count_is at r in
        rw (whole.sound, k, range) (ap (λ (a : FlowAnswer). refusal a.number 0) p)
    go false r k s p = rw (whole.sound, k) (ap (λ (a : FlowAnswer). refusal a.number 0) p)

-- whatever the sizes are: another version than 1 and 2 is looked at before them
pub version_refused : {rows : List ℕ} (version : ℕ) {tasks : ℕ} (workers cells room : ℕ) → Counted rows tasks → known_version version ≡ false
    → refusal 22 0 ≡ write_answer rows version workers cells room
version_refused version {tasks} workers cells room whole other =
    flow_refused version workers cells room Version whole
    (sym (ap (λ (b : Bool). cond b (cond (in_range tasks workers cells) (stated version tasks workers cells) (refused 4)) (refused 22)) other))

-- ---- a flow is made of them

pub record FlowMade (rows : List ℕ) (version workers cells : ℕ) (flow : Flow) : Type 0 where
  pub whole : Counted rows flow.tasks
  pub made : MadeAs flow version flow.tasks workers cells
  pub is_whole : length rows ≡ 48 * row_count rows

pub flow_made : {rows : List ℕ} {version tasks workers cells : ℕ} (flow : Flow) → Counted rows tasks
    → stated_by (Ok flow) ≡ asked_for version tasks workers cells
    → FlowMade rows version workers cells flow
flow_made {rows} {version} {tasks} {workers} {cells} flow whole asked =
    let made = within_is version tasks workers cells flow asked in
    let tests = simp and_iff at whole.sound in
    record {
      whole = rw (← made.tasks_is) at whole;
      made = rw (← made.tasks_is) at made;
      is_whole = omega (arith, eqb-true);
    }

module _ {rows : List ℕ} {version workers cells : ℕ} {flow : Flow} (f : FlowMade rows version workers cells flow) where
  given_answers : from_given rows flow.version flow.tasks flow.workers flow.cells ≡ rows_answer rows version workers cells
  unfolding rows_answer
  given_answers =
      let range : in_range (row_count rows) workers cells ≡ true = rw f.whole.count_is at f.made.range in
      (λ i. from_given rows (f.made.version_is i) (f.whole.count_is i) (f.made.workers_is i) (f.made.cells_is i))
      ∙ (rw (f.whole.sound, f.made.known, range))

  pub given_refused : (met : Refusal) (room : ℕ) → answer_of met ≡ from_given rows flow.version flow.tasks flow.workers flow.cells
      → answer_of met ≡ write_answer rows version workers cells room
  unfolding write_answer
  given_refused met room e =
      first_given (answer_of met) (rows_answer rows version workers cells) _ (e ∙ given_answers) (number_positive met.rule)

  module _ (passed : success ≡ from_given rows flow.version flow.tasks flow.workers flow.cells) where
    kept : (rows_answer rows version workers cells).number ≡ 0
    kept = sym (ap (λ (a : Rules.Answer). a.number) (passed ∙ given_answers))

    pub output_short : (room : ℕ) → room < 512 * blocks_for flow.tasks → refusal 16 0 ≡ write_answer rows version workers cells room
    unfolding write_answer
    output_short room h =
        too_short (rows_answer rows version workers cells) kept (512 * blocks_for (row_count rows)) room (rw f.whole.count_is at h)

    pub output_long : (room : ℕ) → 512 * blocks_for flow.tasks ≤ room → success ≡ write_answer rows version workers cells room
    unfolding write_answer
    output_long room h =
        long_enough (rows_answer rows version workers cells) kept (512 * blocks_for (row_count rows)) room (rw f.whole.count_is at h)
