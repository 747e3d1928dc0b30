-- Accesses that name no cell twice name a cell at one access at most, and the mode under which they name it is that access's. So a
-- task's kind at a cell is the kind of that access, and a task that doesn't name the cell has none. A cell that is declared written is
-- named, and one that is named by accesses within range is within range.
use mathlib.Core.Path.{◌≡◌, refl}
use mathlib.Core.Bool.{Bool, true, false, not, cond, ◌||◌, false≢true}
use mathlib.Core.List.{List, [], ◌∷◌}
use Prim.Native.Nat.{ℕ, ◌≤◌, ◌<◌}
use borrow.Author.Tests.{eqb-true, leb-true, ltb-true, not-true}
use lib.Dec.{eqb, leb, ltb}
use Rattle.layout.specs.Flow.{Access, Task, up_to}
use Rattle.layout.specs.Lists.{all, any}
use Rattle.layout.specs.Row.{names, mode_of, may_write, named_once, access_in_range}
use Rattle.layout.proofs.Lists.{and_left, and_right}
use Rattle.steps.specs.Step.{writes}
use Rattle.steps.specs.Conflict.{names_cell, declares_written}
use Rattle.steps.proofs.Kind.{Kind, none, read, write}

-- write where the task declares the cell written, else read where it names it
unfoldable pub kind_of : Task → ℕ → Kind
kind_of task c = cond (declares_written task c) write (cond (names_cell task c) read none)

-- ---- what the kind says of the task

abbrev pub naming : Kind → Bool
naming none = false
naming read = true
naming write = true

abbrev pub writing : Kind → Bool
writing none = false
writing read = false
writing write = true

-- accesses that don't name a cell give it no mode
pub unnamed_mode : (accesses : List Access) (c : ℕ) → names accesses c ≡ false → mode_of accesses c ≡ 0
unfolding names any mode_of
unnamed_mode [] c unnamed = refl
unnamed_mode (access ∷ accesses) c unnamed = go (eqb access.cell c) unnamed (unnamed_mode accesses c)
  where
    go : (here : Bool) → (here || names accesses c) ≡ false → (names accesses c ≡ false → mode_of accesses c ≡ 0)
        → cond here access.mode (mode_of accesses c) ≡ 0
    go true unnamed rest = cc
    go false unnamed rest = rest unnamed

-- and accesses within range that name it give it one from 1 to 3
pub named_mode : (cells : ℕ) (accesses : List Access) (c : ℕ) → all (access_in_range cells) accesses ≡ true → names accesses c ≡ true
    → (1 ≤ mode_of accesses c) × (mode_of accesses c ≤ 3)
unfolding all names any mode_of
named_mode cells [] c sound named = absurd (false≢true named)
named_mode cells (access ∷ accesses) c sound named =
    go (eqb access.cell c) named
    (named_mode cells accesses c (and_right (access_in_range cells access) (all (access_in_range cells) accesses) sound))
  where
    mode : up_to 3 access.mode ≡ true
    mode = and_right (ltb access.cell cells) _ (and_left (access_in_range cells access) (all (access_in_range cells) accesses) sound)

    go : (here : Bool) → (here || names accesses c) ≡ true
        → (names accesses c ≡ true → (1 ≤ mode_of accesses c) × (mode_of accesses c ≤ 3))
        → (1 ≤ cond here access.mode (mode_of accesses c)) × (cond here access.mode (mode_of accesses c) ≤ 3)
    go true named rest =
        (leb-true 1 _ (and_left _ (leb access.mode 3) mode), leb-true _ 3 (and_right (leb 1 access.mode) _ mode))
    go false named rest = rest named

module _ (task : Task) (c : ℕ) where
  pub written_named : declares_written task c ≡ true → names_cell task c ≡ true
  written_named written = go (names_cell task c) refl
    where
      go : (named : Bool) → names_cell task c ≡ named → named ≡ true
      go true e = refl
      go false e = rw (unnamed_mode task.accesses c e) at written

  pub kind_names : names_cell task c ≡ naming (kind_of task c)
  unfolding kind_of
  kind_names = go (declares_written task c) (names_cell task c) written_named
    where
      go : (written named : Bool) → (written ≡ true → named ≡ true) → named ≡ naming (cond written write (cond named read none))
      go true named h = h refl
      go false true h = refl
      go false false h = refl

  pub kind_writes : declares_written task c ≡ writing (kind_of task c)
  unfolding kind_of
  kind_writes = go (declares_written task c) (names_cell task c)
    where
      go : (written named : Bool) → written ≡ writing (cond written write (cond named read none))
      go true named = refl
      go false true = refl
      go false false = refl

-- ---- a cell that accesses within range name is within range

pub named_below : (cells : ℕ) (accesses : List Access) (cell : ℕ) → all (access_in_range cells) accesses ≡ true
    → names accesses cell ≡ true
    → cell < cells
unfolding names any all
named_below cells [] cell t h = absurd (false≢true h)
named_below cells (x ∷ accesses) cell t h =
    go (eqb x.cell cell) refl (named_below cells accesses cell (and_right (access_in_range cells x) _ t)) h
  where
    x_below : x.cell < cells
    x_below = ltb-true x.cell cells (and_left _ (up_to 3 x.mode) (and_left (access_in_range cells x) _ t))

    go : (first : Bool) → eqb x.cell cell ≡ first → (names accesses cell ≡ true → cell < cells)
        → (first || names accesses cell) ≡ true
        → cell < cells
    go true e later h = rw (eqb-true x.cell cell e) at x_below
    go false e later h = later h

-- ---- where accesses name a cell

-- the kind of an access at its own cell
abbrev pub kind_by : Access → Kind
kind_by access = cond (writes access) write read

-- the accesses' kind at cell c: none, or that of the one access that names it
pub data Where (c : ℕ) : List Access → Kind → Type 0 where
  nowhere : Where c [] none
  at_first : {access : Access} {accesses : List Access} → access.cell ≡ c → Where c accesses none
      → Where c (access ∷ accesses) (kind_by access)
  at_later : {access : Access} {accesses : List Access} {kind : Kind} → eqb access.cell c ≡ false → Where c accesses kind
      → Where c (access ∷ accesses) kind

kind_among : List Access → ℕ → Kind
kind_among accesses c = cond (may_write (mode_of accesses c)) write (cond (names accesses c) read none)

where_among : (accesses : List Access) (c : ℕ) → named_once accesses ≡ true → Where c accesses (kind_among accesses c)
unfolding kind_among names any mode_of named_once
where_among [] c once = nowhere
where_among (access ∷ accesses) c once =
    go (eqb access.cell c) refl (where_among accesses c (and_right (not (names accesses access.cell)) _ once))
  where
    go : (here : Bool) → eqb access.cell c ≡ here → Where c accesses (kind_among accesses c)
        → Where c (access ∷ accesses)
        (cond (may_write (cond here access.mode (mode_of accesses c))) write (cond (here || names accesses c) read none))
    go true here rest =
        let same = eqb-true access.cell c here in
        let other = rw same at (not-true (names accesses access.cell) (and_left _ (named_once accesses) once)) in
        at_first same (rw (unnamed_mode accesses c other, other) at rest)
    go false here rest = at_later here rest

pub where_named : (task : Task) (c : ℕ) → named_once task.accesses ≡ true → Where c task.accesses (kind_of task c)
unfolding kind_of kind_among
where_named task c once = where_among task.accesses c once
