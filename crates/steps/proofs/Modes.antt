-- What an operation that keeps to the modes writes and reads. Where all operations of a task keep to the modes, each does after those before it: the check goes through them with the latest first; whether a
-- cell has been written is the same in either order.
use mathlib.Core.Path.{◌≡◌, refl, sym, ap₂, ◌∙◌}
use mathlib.Core.Bool.{Bool, true, false, not, ◌&&◌, ◌||◌, false≢true}
use mathlib.Core.List.{List, [], ◌∷◌}
use Prim.Native.Nat.{ℕ, zero, suc, ◌<◌}
use native.Mathlib.Nat.{not-suc-le-zero, le_of_suc-le-suc}
use lib.ListN.{length, get_or, take}
use lib.Dec.{eqb}
use Rattle.layout.specs.Flow.{Access, Operation, Task}
use Rattle.layout.specs.Lists.{any}
use Rattle.layout.specs.Row.{written, keeps_modes, all_keep_modes, modes_sound, may_write, may_read, mode_of, reads_a, reads_b}
use Rattle.layout.proofs.Lists.{and_left, and_right, or_swap}
use Rattle.steps.specs.Conflict.{operation_of, no_operation}

-- ---- what it writes and reads

-- a test that is asked where something is read
asked_where : (reads may : Bool) → (not reads || may) ≡ true → reads ≡ true → may ≡ true
asked_where true may h e = h
asked_where false may h e = absurd (false≢true e)

module _ (accesses : List Access) (earlier : List Operation) (o : Operation) (h : keeps_modes accesses earlier o ≡ true) where
  abbrev writes_kept : Bool
  writes_kept = may_write (mode_of accesses o.a)

  abbrev reads_kept : ℕ → Bool
  reads_kept cell = may_read (mode_of accesses cell) (written earlier cell)

  first_two : (writes_kept && (not (reads_a o.code) || reads_kept o.a)) ≡ true
  unfolding keeps_modes
  first_two = and_left (writes_kept && (not (reads_a o.code) || reads_kept o.a)) (not (reads_b o.code) || reads_kept o.b) h

  pub keeps_writes : may_write (mode_of accesses o.a) ≡ true
  keeps_writes = and_left writes_kept (not (reads_a o.code) || reads_kept o.a) first_two

  pub keeps_reads_a : reads_a o.code ≡ true → may_read (mode_of accesses o.a) (written earlier o.a) ≡ true
  keeps_reads_a = asked_where (reads_a o.code) (reads_kept o.a) (and_right writes_kept (not (reads_a o.code) || reads_kept o.a) first_two)

  pub keeps_reads_b : reads_b o.code ≡ true → may_read (mode_of accesses o.b) (written earlier o.b) ≡ true
  unfolding keeps_modes
  keeps_reads_b =
      asked_where (reads_b o.code) (reads_kept o.b)
      (and_right (writes_kept && (not (reads_a o.code) || reads_kept o.a)) (not (reads_b o.code) || reads_kept o.b) h)

-- ---- each after those before it

-- two lists that write the same cells ask the same of an operation
keeps_same : (accesses : List Access) (one other : List Operation) (o : Operation) → ((c : ℕ) → written one c ≡ written other c)
    → keeps_modes accesses one o ≡ keeps_modes accesses other o
unfolding keeps_modes
keeps_same accesses one other o same =
    ap₂ (λ (x y : Bool). may_write (mode_of accesses o.a) && (not (reads_a o.code) || may_read (mode_of accesses o.a) x)
    && (not (reads_b o.code) || may_read (mode_of accesses o.b) y)) (same o.a) (same o.b)

-- each operation after those of the list before it and some earlier ones
keeps_after : (accesses : List Access) (operations earlier before : List Operation) (i : ℕ) → all_keep_modes accesses earlier operations ≡ true
    → i < length operations
    → ((c : ℕ) → written before c ≡ (written (take i operations) c || written earlier c))
    → keeps_modes accesses before (get_or operations i no_operation) ≡ true
unfolding all_keep_modes written any
keeps_after accesses [] earlier before i all h same = absurd (not-suc-le-zero h)
keeps_after accesses (o ∷ operations) earlier before zero all h same =
    keeps_same accesses before earlier o same ∙ and_left (keeps_modes accesses earlier o) _ all
keeps_after accesses (o ∷ operations) earlier before (suc i) all h same =
    keeps_after accesses operations (o ∷ earlier) before i (and_right (keeps_modes accesses earlier o) _ all) (le_of_suc-le-suc h)
    (λ c. same c ∙ sym (or_swap (eqb o.a c) (written (take i operations) c) (written earlier c)))

or-false : (x : Bool) → x ≡ (x || false)
or-false true = refl
or-false false = refl

pub keeps_at : (task : Task) → modes_sound task ≡ true → (i : ℕ) → i < length task.operations
    → keeps_modes task.accesses (take i task.operations) (operation_of task i) ≡ true
unfolding written any
keeps_at task all i h =
    keeps_after task.accesses task.operations [] (take i task.operations) i all h (λ c. or-false _)
