-- `step` meets its contract: it is the step of what the numbers stand for, and the numbers are told back.
use Rattle.std.proofs.Common.{rules, ◌≡◌, ℕ, List, map, length, Bool, Result, sym, ap, ◌∙◌}
use Rattle.layout.specs.Bytes.{IsBytes}
use Rattle.arrays.specs.declared.Kept.{Kept}
use Rattle.arrays.specs.Arrays.{lent, no_place, moves_on, places_after, goes_to}
use Rattle.arrays.specs.Numbers.{place_of_numbers}
use Rattle.machine.specs.declared.Held.{Held}
use Rattle.machine.specs.Outcomes.{outcome_of}
use Rattle.machine.proofs.Steps.{stays}
use Rattle.by_number.specs.Numbers.{standing_for}
use Rattle.by_number.proofs.Bytes.{ready_at}
use Rattle.by_number.proofs.Steps.{step_told, told_after, moved_told, held_told}
use Rattle.by_number.proofs.step.Goals as goal
use Rattle.by_number.proofs.step.Goals.{in-Ok, in-Err}

-- a row's bytes name no cell above those that a byte can name
pub invariant_of-all : goal.invariant_of-all
unfolding IsBytes
invariant_of-all c =
    let a = c.args in
    record { ready = ready_at a.file.now a.tasks (length a.cells.now) (search rules) c.requires.steppable.0.ready }

-- the places that are kept, said of the numbers
places_are : (c : goal.Joined-answer)
    → c.step-answer.new.kept.places
    ≡ places_after (outcome_of c.step-answer.result) (map place_of_numbers c.args.places.now) c.args.w
    (goes_to c.args.file.now (standing_for c.args.cells.now c.args.shared.now c.args.private.now c.args.places.now) c.args.w)
places_are c =
    c.step-answer.ensures.places_are
    ∙ ap
    (λ (kept : Kept). places_after (outcome_of c.step-answer.result) kept.places c.args.w (goes_to c.args.file.now (lent c.args.cells.now kept) c.args.w))
    c.kept_from-kept.ensures

-- whether a worker moves on with an answer
abbrev moving : Result (Unit {0}) Held → Bool
moving answer = moves_on (outcome_of answer)

pub returns-clause-places_after : goal.returns-clause-places_after
returns-clause-places_after c =
    let a = c.args in
    elim c.match-answer.branch [
      | in-Ok w ↦
          moved_told _ a.places.now c.step-answer.new.kept.places a.w _ no_place _ (search rules) (ap moving w.in-Ok.is) (places_are c) (search rules)
      | in-Err w ↦ held_told _ a.places.now a.w _ _ (ap moving w.in-Err.is ∙ stays w.in-Err.field-0) w.places-is
    ]

pub returns-clause-done : goal.returns-clause-done
returns-clause-done c =
    let a = c.args in
    let made = c.step-answer in
    step_told _ _ _ a.w _ _ _ _ made.new.kept _ _ _ _ _ _ c.kept_from-kept.ensures c.tell_row.ensures c.tell_rows.ensures
    (ap (λ (numbers : List (List ℕ)). map place_of_numbers numbers) (returns-clause-places_after c) ∙ told_after _ a.places.now a.w _ ∙ sym (places_are c))
    made.ensures
