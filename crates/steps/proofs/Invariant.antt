-- What holds of the machine after every step of every schedule: the workers stand where they can, each cell keeps its protocol, and each
-- private row is what the tasks before its worker's place give.
use mathlib.Core.Path.{◌≡◌, refl, sym, ap, subst, ◌∙◌}
use mathlib.Core.Bool.{Bool, true, false, cond}
use mathlib.Core.List.{List}
use Prim.Native.Nat.{ℕ, ◌+◌, ◌<◌, ◌≤◌}
use borrow.Author.Tests.{eqb-true}
use lib.ListN.{length}
use lib.Dec.{eqb}
use Rattle.layout.specs.Row.{named_once}
use Rattle.steps.specs.Machine.{Counter, Place, Machine, put, fresh}
use Rattle.steps.specs.Step.{Setting, Try, wait_write, wait_reads, operate, end_read, zero_reads, post_write, own_steps, change, Stepped, step}
use Rattle.steps.specs.Conflict.{task_at, AllKeep, TellsApart}
use Rattle.steps.proofs.OnCell.{on, stage, stage_start}
use Rattle.steps.proofs.OwnMade.{made_none, own_made_past}
use Rattle.steps.proofs.Places.{PlacesFit, standing_fresh, standing_kept, facing, after_own, StepView, past, other, held, view, change_places}
use Rattle.steps.proofs.Protocol.{inv_start, inv_step}
use Rattle.steps.proofs.Protocol.Words.{last_before, sum_before}
use Rattle.steps.proofs.Protocol.Invariant.{Inv}
use Rattle.steps.proofs.Rows.{kinds, RowIs, row_arrives, row_registers, row_after, row_moves}
use Rattle.steps.proofs.Seen.{seen, seen_off, seen_on, below_there, allowed_there}

pub record Kept (s : Setting) (m : Machine) : Type 0 where
  pub standing : PlacesFit s.tasks m.places
  pub cells : (c : ℕ) → Inv (kinds s c) s.number (length s.tasks) (seen s m c)
  pub rows : (w : ℕ) → RowIs s w (m.places w) (m.private w)

-- a thing replaced by itself
put_itself : {A : Type 0} (things : ℕ → A) (i j : ℕ) → things j ≡ put things i (things i) j
put_itself {A} things i j = go (eqb j i) refl
  where
    go : (t : Bool) → eqb j i ≡ t → things j ≡ cond t (things i) (things j)
    go true e = ap things (eqb-true j i e)
    go false e = refl

-- the private counters after an own step are the worker's row, replaced
change_row : (s : Setting) (m : Machine) (w number : ℕ) (try : Try) (v : ℕ)
    → (change s.does number m w try).private v ≡ put m.private w (row_after number try (m.private w)) v
unfolding change
change_row s m w number (wait_write c) v = put_itself m.private w v
change_row s m w number (wait_reads c) v = put_itself m.private w v
change_row s m w number (operate o) v = put_itself m.private w v
change_row s m w number (end_read c) v = refl
change_row s m w number (zero_reads c) v = put_itself m.private w v
change_row s m w number (post_write c) v = refl

-- one worker's row and place replaced, the others as they were
rows_put : (s : Setting) (m : Machine) (w : ℕ) (at : Place) (row : ℕ → Counter) → RowIs s w at row
    → ((v : ℕ) → RowIs s v (m.places v) (m.private v))
    → (v : ℕ) → RowIs s v (put m.places w at v) (put m.private w row v)
rows_put s m w at row here others v = go (eqb v w) refl
  where
    go : (t : Bool) → eqb v w ≡ t → RowIs s v (cond t at (m.places v)) (cond t row (m.private v))
    go true e = subst (λ (u : ℕ). RowIs s u at row) (sym (eqb-true v w e)) here
    go false e = others v

module _ (s : Setting) (workers cells : ℕ) (keep : AllKeep workers cells s.tasks) (apart : TellsApart s.tasks s.number) where
  some_access : (i : ℕ) → i < length s.tasks → 1 ≤ length (task_at s.tasks i).accesses
  some_access i h = (keep.each_task i h).some_access

  -- ---- at the start

  pub kept_fresh : (start : List ℕ) → Kept s (fresh (s.number 0) start)
  unfolding some_access last_before sum_before
  kept_fresh start =
      record {
        standing = standing_fresh s some_access start;
        cells = λ c. subst (Inv (kinds s c) s.number (length s.tasks))
            (λ i. record {
              stage = λ j. (sym (ap (stage (task_at s.tasks j) c) (made_none (length (own_steps (task_at s.tasks j))) j) ∙ stage_start (task_at s.tasks j) c)) i;
              last_write = s.number 0;
              reads = 0;
            })
            (inv_start (kinds s c) s.number (length s.tasks));
        rows = λ w. row_arrives s w 0 _ (λ c. refl);
      }

  -- ---- after a step

  record Goes (m : Machine) : Type 0 where
    cells_go : (c : ℕ) → Inv (kinds s c) s.number (length s.tasks) (seen s m c)
    rows_go : (w : ℕ) → RowIs s w (m.places w) (m.private w)

  goes : (m : Machine) (w : ℕ) → Kept s m → {r : Stepped} → StepView s m w r → Goes r.machine
  goes m w k (past e) = record { cells_go = k.cells; rows_go = k.rows }
  goes m w k (other h not_own none) =
      record {
        cells_go = λ c. subst (Inv (kinds s c) s.number (length s.tasks))
            (λ i. record {
              stage = λ j. ap (stage (task_at s.tasks j) c) (sym (own_made_past s.tasks m.places w not_own none j)) i;
              last_write = (m.shared c).last_write;
              reads = (m.shared c).reads;
            })
            (k.cells c);
        rows_go = rows_put s m w _ _ (row_registers s w (m.places w) (m.private w) not_own (keep.each_task _ h).each_once (k.rows w)) k.rows;
      }
  goes m w k (held trying e waits) = record { cells_go = k.cells; rows_go = k.rows }
  goes m w k (StepView.made {try} trying e passes) =
      record {
        cells_go = λ c. cell c (on c try) refl;
        rows_go = λ v. row v;
      }
    where
      once : named_once (facing s m w).accesses ≡ true
      once = (keep.each_task _ trying.at_task).each_once

      cell : (c : ℕ) (o : Bool) → on c try ≡ o → Inv (kinds s c) s.number (length s.tasks) (seen s (after_own s m w try) c)
      cell c true o =
          subst (Inv (kinds s c) s.number (length s.tasks)) (sym (seen_on s m w try trying c once o))
          (inv_step (kinds s c) s.number (length s.tasks) apart.apart (seen s m c) (k.cells c) (m.places w).passed trying.at_task
          (below_there s m w try trying c once o)
          (allowed_there s m w try trying c once o (k.rows w) passes))
      cell c false o = subst (Inv (kinds s c) s.number (length s.tasks)) (sym (seen_off s m w try trying c o)) (k.cells c)

      row : (v : ℕ) → RowIs s v ((after_own s m w try).places v) ((after_own s m w try).private v)
      row v =
          rw (change_places s m w (s.number ((m.places w).passed + 1)) try, change_row s m w (s.number ((m.places w).passed + 1)) try v)
          (rows_put s m w _ _
          (row_moves s w (m.places w) try _ (m.private w) trying.owns trying.here once (k.rows w) trying.unmade)
          k.rows v)

  pub kept_step : (m : Machine) (w : ℕ) → Kept s m → Kept s (step s m w).machine
  unfolding some_access
  kept_step m w k =
      let after = goes m w k (view s m w (k.standing.each_worker w)) in
      record { standing = standing_kept s some_access m w k.standing; cells = after.cells_go; rows = after.rows_go }
