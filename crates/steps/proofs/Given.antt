-- What demand 3 is given, and what the stepped run accepts: the run asks besides only that the schedule is no longer than the longest. Bytes that
-- name workers do so in any part of a schedule, and in two laid end to end.
use mathlib.Core.Path.{◌≡◌, sym, ap, subst, ◌∙◌}
use mathlib.Core.Bool.{Bool, true}
use mathlib.Core.List.{List, [], ◌∷◌, ◌++◌}
use Prim.Native.Nat.{ℕ, zero, suc, ◌+◌, ◌-◌, ◌≤◌, ◌<◌}
use native.Mathlib.Nat.{zero-add}
use native.Mathlib.Omega.{arith}
use borrow.Author.Tests.{eqb-true, eq-eqb, lt-ltb, ltb-true}
use lib.ListN.{length, get_or, take, drop, length-append, length-take, take-append-drop, get_or-append}
use lib.Seq.{get_or-append-add}
use lib.Dec.{ltb, lit<}
use Rattle.layout.specs.Refusal.{Answer, unless}
use Rattle.layout.specs.File.{file_answer, flow_of}
use Rattle.roundtrip.proofs.NoRefusal.{kept, both_zero, rule_then, second_given, rule_passed, none_at, success_at}
use Rattle.steps.specs.Run.{Names}
use Rattle.steps.specs.Answers.{plain_answer, run_answer, start_sound, schedule_sound, byte_number}
use Rattle.steps.specs.Demand.{Given}
use Rattle.steps.proofs.OwnMade.{order}

-- ---- the bytes

-- in the first bytes of a schedule
pub names_first : (workers n : ℕ) (schedule : List ℕ) → Names workers schedule → Names workers (take n schedule)
names_first workers n schedule names i h =
    let whole = take-append-drop n schedule in
    let same = get_or-append (take n schedule) (drop n schedule) 0 i h in
    let inside : i < length schedule = omega (arith, length-take n schedule) in
    subst (λ (byte : ℕ). byte < workers) (ap (λ (l : List ℕ). get_or l i 0) (sym whole) ∙ same) (names i inside)

-- in two schedules laid end to end
pub names_append : (workers : ℕ) (one other : List ℕ) → Names workers one → Names workers other → Names workers (one ++ other)
names_append workers one other names more i h =
    order i (length one)
    (λ l. subst (λ (byte : ℕ). byte < workers) (sym (get_or-append one other 0 i l)) (names i l))
    (λ e. after (omega arith))
    (λ l. after (omega arith))
  where
    after : length one ≤ i → get_or (one ++ other) i 0 < workers
    after l =
        let there : length one + (i - length one) ≡ i = omega arith in
        subst (λ (byte : ℕ). byte < workers)
        (sym (ap (λ (n : ℕ). get_or (one ++ other) n 0) (sym there) ∙ get_or-append-add one other (i - length one) 0))
        (more (i - length one) (omega (arith, length-append one other)))

-- one worker's byte names a worker
one_names : (workers w : ℕ) → w < workers → Names workers (w ∷ [])
one_names workers w below zero h = below
one_names workers w below (suc i) h = absurd (omega arith)

-- ---- what is given

-- at any point: the first bytes of a schedule are a schedule too
pub given_first : (file cells schedule : List ℕ) (n : ℕ) → Given file cells schedule → Given file cells (take n schedule)
given_first file cells schedule n given =
    record { accepted = given.accepted; start = given.start; names = names_first (flow_of file).workers n schedule given.names }

pub given_more : (file cells schedule : List ℕ) (w : ℕ) → w < (flow_of file).workers → Given file cells schedule
    → Given file cells (schedule ++ w ∷ [])
given_more file cells schedule w below given =
    record { accepted = given.accepted; start = given.start; names = names_append (flow_of file).workers schedule (w ∷ []) given.names (one_names (flow_of file).workers w below) }

-- ---- what the run accepts

module _ (file cells schedule : List ℕ) where
  pub accepted_given : (run_answer file cells schedule).number ≡ 0 → Given file cells schedule
  unfolding run_answer plain_answer
  accepted_given h =
      let start = both_zero (plain_answer file cells) _ h in
      let whole = both_zero (file_answer file) _ start.0 in
      let bytes = (rule_then (schedule_sound schedule) 13 _ (lit< tt) start.1).1 in
      record {
        accepted = whole.0;
        start = eqb-true _ _ (kept (start_sound (flow_of file) cells) 12 0 (lit< tt) whole.1).0;
        names = λ i l.
            ltb-true _ _
            (kept (ltb (get_or schedule i 0) (flow_of file).workers) 14 0 (lit< tt)
            (ap (byte_number (flow_of file) schedule) (sym (zero-add i)) ∙ none_at (byte_number (flow_of file) schedule) 0 (length schedule) bytes i l)
            ).0;
      }

  pub given_accepted : Given file cells schedule → schedule_sound schedule ≡ true → (run_answer file cells schedule).number ≡ 0
  unfolding run_answer plain_answer
  given_accepted given fits =
      let start : unless (start_sound (flow_of file) cells) 12 ≡ 0 = ap (λ (b : Bool). unless b 12) (eq-eqb _ _ given.start) in
      let plain : (plain_answer file cells).number ≡ 0 = ap (λ (a : Answer). a.number) (second_given (file_answer file) _ given.accepted) ∙ start in
      ap (λ (a : Answer). a.number)
      (second_given (plain_answer file cells) _ plain ∙ rule_passed (schedule_sound schedule) 13 _ fits
      ∙ success_at (byte_number (flow_of file) schedule) 0 (length schedule)
      (λ i l. rw zero-add (ap (λ (b : Bool). unless b 14) (lt-ltb _ _ (given.names i l)))))
