-- A worker that goes past another's task registers each of its accesses: only the access that names a cell changes the cell's
-- counter in the row, and it changes it by its kind.
use mathlib.Core.Path.{◌≡◌, refl, sym, ◌∙◌}
use mathlib.Core.Bool.{Bool, true, false, cond}
use mathlib.Core.List.{List}
use Prim.Native.Nat.{ℕ}
use borrow.Author.Tests.{eqb-false, eq-eqb, ne_eqb}
use Rattle.layout.specs.Flow.{Access, Task}
use Rattle.layout.specs.Row.{named_once}
use Rattle.steps.specs.Machine.{Counter, counter}
use Rattle.steps.specs.Step.{writes, after_read, register_all}
use Rattle.steps.proofs.Kind.{Kind, none, read, write}
use Rattle.steps.proofs.Naming.{kind_of, Where, nowhere, at_first, at_later, where_named}

-- a cell's counter after a task of a kind at the cell, whose number is given
abbrev pub registered_as : Kind → ℕ → Counter → Counter
registered_as none number before = before
registered_as read number before = after_read before
registered_as write number before = counter number 0

-- an access registers as its kind
registered_as_lem : (writing : Bool) (number : ℕ) (before : Counter)
    → cond writing (counter number 0) (after_read before) ≡ registered_as (cond writing write read) number before
registered_as_lem true number before = refl
registered_as_lem false number before = refl

register_each : {c : ℕ} {accesses : List Access} {kind : Kind} (number : ℕ) (row : ℕ → Counter) → Where c accesses kind
    → register_all number accesses row c ≡ registered_as kind number (row c)
unfolding register_all
register_each number row nowhere = refl
register_each {c} number row (at_first {access} here rest) =
    register_each number _ rest ∙ rw (here, eq-eqb c c refl) (registered_as_lem (writes access) number (row c))
register_each {c} number row (at_later {access} there rest) =
    register_each number _ rest ∙ rw (ne_eqb c access.cell (λ e. eqb-false access.cell c there (sym e)))

pub registers : (task : Task) (c : ℕ) → named_once task.accesses ≡ true → (number : ℕ) (row : ℕ → Counter)
    → register_all number task.accesses row c ≡ registered_as (kind_of task c) number (row c)
registers task c once number row = register_each number row (where_named task c once)
