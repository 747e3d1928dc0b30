-- A step's contract allows one outcome. It says what the outcome of the rules, the machine that the arrays stand for and the places are.
-- The outcome of the rules tells the answer; and the machine tells the counters, of which there are as many as the arrays' types have.
use mathlib.Core.Path.{◌≡◌, refl, sym, ap, ◌∙◌}
use mathlib.Core.List.{List, []}
use Prim.Native.Nat.{ℕ, ◌<◌}
use native.Mathlib.Omega.{arith}
use lib.ListN.{length, get_or}
use lib.Seq.{ext_get_or}
use Rattle.std.specs.Prelude.{Result, Ok, Err}
use Rattle.layout.specs.Flow.{Task, most_workers, most_cells}
use Rattle.layout.specs.File.{tasks_in}
use Rattle.steps.specs.Machine as Rules
use Rattle.steps.specs.Machine.{Machine}
use Rattle.steps.specs.Step.{Outcome, Stepped, stepped, advanced, past_last, write_differs, reads_differ}
use Rattle.arrays.specs.declared.Counter.{Counter}
use Rattle.arrays.specs.declared.Stage.{Stage}
use Rattle.arrays.specs.declared.Place.{Place}
use Rattle.arrays.specs.Arrays.{counted, nothing, counter_at, Arrays, arrays, machine_of, Changed, places_after, OwnStep, StepDone}
use Rattle.machine.specs.declared.Held.{Held}
use Rattle.machine.specs.declared.Held.TheVariants.{PastLast, WriteDiffers, ReadsDiffer}
use Rattle.machine.specs.Outcomes.{outcome_of}

-- ---- the answer

-- the code's answer
abbrev Answer : Type 0
Answer = Result (Unit {0}) Held

-- the one for an outcome of the rules
abbrev of_rules : Outcome → Answer
of_rules advanced = Ok tt
of_rules past_last = Err PastLast
of_rules (write_differs cell) = Err (WriteDiffers cell)
of_rules (reads_differ cell) = Err (ReadsDiffer cell)

-- it is the one that stands for that
told_back : (r : Answer) → r ≡ of_rules (outcome_of r)
told_back (Ok done) = refl
told_back (Err PastLast) = refl
told_back (Err (WriteDiffers cell)) = refl
told_back (Err (ReadsDiffer cell)) = refl

-- so `outcome_of` is one to one
pub same_outcome : (r s : Answer) → outcome_of r ≡ outcome_of s → r ≡ s
same_outcome r s e = told_back r ∙ ap of_rules e ∙ sym (told_back s)

-- whether a step is held, and why
pub held_unique : (why : Outcome) (r s : Answer) → outcome_of r ≡ why → outcome_of s ≡ why → r ≡ s
held_unique why r s p q = same_outcome r s (p ∙ sym q)

-- ---- the arrays

-- counters of the sizes that the code's types give them
pub record Typed (kept : Arrays) : Type 0 where
  pub shared_typed : length kept.shared ≡ most_cells
  pub rows : length kept.private ≡ most_workers
  pub private_typed : (w : ℕ) → w < most_workers → length (get_or kept.private w []) ≡ most_cells

-- such arrays are the same where the machine that they stand for is: a counter, a row of them, and all
abbrev stored_of : Rules.Counter → Counter
stored_of one = counted one.last_write one.reads

same_row : (x y : List Counter) → length x ≡ length y → ((c : ℕ) → counter_at x c ≡ counter_at y c) → x ≡ y
same_row x y sizes same = ext_get_or nothing x y sizes (λ c l. ap stored_of (same c))

same_arrays : (tasks : List Task) (x y : Arrays) → Typed x → Typed y → machine_of tasks x ≡ machine_of tasks y → x.places ≡ y.places → x ≡ y
same_arrays tasks x y t t' same places = λ i. arrays (same i).cells (shared i) (private i) (places i)
  where
    shared : x.shared ≡ y.shared
    shared = same_row x.shared y.shared (t.shared_typed ∙ sym t'.shared_typed) (λ c. ap (λ (m : Machine). m.shared c) same)

    private : x.private ≡ y.private
    private =
        ext_get_or [] x.private y.private (t.rows ∙ sym t'.rows)
        (λ w l.
        let within : w < most_workers = omega (arith, t.rows) in
        same_row (get_or x.private w []) (get_or y.private w []) (t.private_typed w within ∙ sym (t'.private_typed w within))
        (λ c. ap (λ (m : Machine). m.private w c) same))

-- ---- a step

-- what an own step changes but for the place
pub change_unique : (version : ℕ) (row : List ℕ) (w number : ℕ) (stage : Stage) (index : ℕ) (before x y : Arrays) → Typed x → Typed y → x.places ≡ y.places
    → Changed version row w number stage index before x
    → Changed version row w number stage index before y
    → x ≡ y
change_unique version row w number stage index before x y t t' places p q = same_arrays [] x y t t' (p.1 ∙ sym q.1) places

module _ (r s : Answer) (r_after s_after : Arrays) (t : Typed r_after) (t' : Typed s_after) where
  -- two outcomes with the same places before, and the same next place
  one_outcome : (tasks : List Task) (places : List Place) (w : ℕ) (next : Place)
      → stepped (outcome_of r) (machine_of tasks r_after) ≡ stepped (outcome_of s) (machine_of tasks s_after)
      → r_after.places ≡ places_after (outcome_of r) places w next
      → s_after.places ≡ places_after (outcome_of s) places w next
      → (r ≡ s) × (r_after ≡ s_after)
  one_outcome tasks places w next same p q =
      let why : outcome_of r ≡ outcome_of s = ap (λ (d : Stepped). d.outcome) same in (
        same_outcome r s why,
        same_arrays tasks r_after s_after t t' (ap (λ (d : Stepped). d.machine) same)
            (p ∙ ap (λ (y : Outcome). places_after y places w next) why ∙ sym q),
      )

  pub own_step_unique : (version : ℕ) (row : List ℕ) (w : ℕ) (before : Arrays) → OwnStep version row w before (outcome_of r) r_after
      → OwnStep version row w before (outcome_of s) s_after
      → (r ≡ s) × (r_after ≡ s_after)
  own_step_unique version row w before p q =
      one_outcome [] before.places w _ (p.machine_is [] ∙ sym (q.machine_is [])) p.places_are q.places_are

  pub step_unique : (file : List ℕ) (version tasks w : ℕ) (before : Arrays) → StepDone file version tasks w before (outcome_of r) r_after
      → StepDone file version tasks w before (outcome_of s) s_after
      → (r ≡ s) × (r_after ≡ s_after)
  step_unique file version tasks w before p q =
      one_outcome (tasks_in file tasks) before.places w _ (p.machine_is ∙ sym q.machine_is) p.places_are q.places_are
