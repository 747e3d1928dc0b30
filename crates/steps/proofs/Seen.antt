-- The machine seen from one cell is the protocol of that cell: an own step on the cell is one step of the protocol, and it is allowed where the
-- wait passes, since the private counter is what the tasks before give; any other step is no step of the protocol.
use mathlib.Core.Path.{◌≡◌, refl, sym, ap, fun_ext, ◌∙◌}
use mathlib.Core.Bool.{Bool, true, false, cond}
use Prim.Native.Nat.{ℕ, suc, ◌+◌, ◌<◌}
use native.Mathlib.Numerals.{add-one}
use borrow.Author.Tests.{eqb-true, eqb-false}
use lib.Dec.{eqb}
use Rattle.layout.specs.Row.{named_once}
use Rattle.steps.specs.Machine.{Counter, Machine, counter}
use Rattle.steps.specs.Step.{Setting, Try, wait_write, wait_reads, operate, end_read, zero_reads, post_write, change}
use Rattle.steps.specs.Conflict.{task_at}
use Rattle.steps.proofs.Kind.{Kind, full}
use Rattle.steps.proofs.OnCell.{on, stage, next_on_lem, next_off, next_step, next_below, NextOn, read_waits, read_ends, write_waits, write_waits_reads, write_zeroes, write_posts}
use Rattle.steps.proofs.Protocol.Words.{State, Allowed, after, next, last_write_after, reads_after}
use Rattle.steps.proofs.OwnMade.{own_made, own_there, own_then}
use Rattle.steps.proofs.Places.{facing, Trying, Passes, after_own}
use Rattle.steps.proofs.Put.{put_here, put_other}
use Rattle.steps.proofs.Rows.{kinds, registered_before, RowIs, row_unended}

-- the steps that each task has made on the cell, and the cell's shared counter
abbrev pub seen : Setting → Machine → ℕ → State
seen s m c =
    record {
      stage = λ j. stage (task_at s.tasks j) c (own_made s.tasks m.places j);
      last_write = (m.shared c).last_write;
      reads = (m.shared c).reads;
    }

-- states that agree
same_state : {f g : ℕ → ℕ} {l l' r r' : ℕ} → ((j : ℕ) → f j ≡ g j) → l ≡ l' → r ≡ r'
    → ◌≡◌ {A = State} (record { stage = f; last_write = l; reads = r }) (record { stage = g; last_write = l'; reads = r' })
same_state h p q = λ i. record { stage = fun_ext h i; last_write = p i; reads = q i }

-- a step on another cell leaves the shared counter
shared_off : (s : Setting) (number c : ℕ) (m : Machine) (w : ℕ) (try : Try) → on c try ≡ false
    → (change s.does number m w try).shared c ≡ m.shared c
unfolding change
shared_off s number c m w (wait_write d) e = refl
shared_off s number c m w (wait_reads d) e = refl
shared_off s number c m w (operate o) e = refl
shared_off s number c m w (end_read d) e = put_other m.shared d _ c (λ q. eqb-false d c e (sym q))
shared_off s number c m w (zero_reads d) e = put_other m.shared d _ c (λ q. eqb-false d c e (sym q))
shared_off s number c m w (post_write d) e = put_other m.shared d _ c (λ q. eqb-false d c e (sym q))

-- a step on the cell makes of the shared counter what the protocol says
shared_on : (s : Setting) (number c : ℕ) (m : Machine) (w : ℕ) (try : Try) (kind : Kind) (at : ℕ) → NextOn kind c at try
    → (change s.does number m w try).shared c
    ≡ counter (last_write_after (next kind at) number (m.shared c).last_write) (reads_after (next kind at) (m.shared c).reads)
unfolding change
shared_on s number c m w try kind at (read_waits k n t) = rw (t, k, n)
shared_on s number c m w try kind at (read_ends k n t) = rw (t, k, n) (put_here m.shared c _)
shared_on s number c m w try kind at (write_waits k n t) = rw (t, k, n)
shared_on s number c m w try kind at (write_waits_reads k n t) = rw (t, k, n)
shared_on s number c m w try kind at (write_zeroes k n t) = rw (t, k, n) (put_here m.shared c _)
shared_on s number c m w try kind at (write_posts k n t) = rw (t, k, n) (put_here m.shared c _)

module _ (s : Setting) (m : Machine) (w : ℕ) (try : Try) (trying : Trying s m w try) (c : ℕ) where
  p : ℕ
  p = (m.places w).passed

  stage_there : (seen s m c).stage p ≡ stage (facing s m w) c (m.places w).made
  unfolding p
  stage_there = ap (stage (facing s m w) c) (own_there s m w try trying)

  -- a step on another cell is no step of the protocol
  pub seen_off : on c try ≡ false → seen s (after_own s m w try) c ≡ seen s m c
  unfolding p
  seen_off o =
      same_state (λ j. ap (stage (task_at s.tasks j) c) (own_then s m w try trying j) ∙ at j (eqb j p) refl)
      (ap (λ (k : Counter). k.last_write) (shared_off s _ c m w try o)) (ap (λ (k : Counter). k.reads) (shared_off s _ c m w try o))
    where
      at : (j : ℕ) (t : Bool) → eqb j p ≡ t
          → stage (task_at s.tasks j) c (cond t ((m.places w).made + 1) (own_made s.tasks m.places j)) ≡ (seen s m c).stage j
      at j true e = rw (eqb-true j p e) (next_off (facing s m w) c (m.places w).made trying.here o ∙ sym stage_there)
      at j false e = refl

  module _ (once : named_once (facing s m w).accesses ≡ true) (o : on c try ≡ true) where
    next_there : NextOn (kinds s c p) c ((seen s m c).stage p) try
    unfolding p
    next_there = rw stage_there (next_step (facing s m w) c once (m.places w).made trying.here o)

    pub below_there : (seen s m c).stage (m.places w).passed < full (kinds s c (m.places w).passed)
    unfolding p
    below_there = rw stage_there (next_below (facing s m w) c once (m.places w).made trying.here o)

    -- a step on the cell is one step of the protocol
    pub seen_on : seen s (after_own s m w try) c ≡ after (kinds s c) s.number (seen s m c) (m.places w).passed
    unfolding p
    seen_on =
        let shared = shared_on s (s.number ((m.places w).passed + 1)) c m w try (kinds s c p) ((seen s m c).stage p) next_there in
        same_state (λ j. ap (stage (task_at s.tasks j) c) (own_then s m w try trying j) ∙ at j (eqb j p) refl)
        (ap (λ (k : Counter). k.last_write) shared
        ∙ ap (λ (n : ℕ). last_write_after (next (kinds s c p) ((seen s m c).stage p)) (s.number n) (m.shared c).last_write) (add-one p))
        (ap (λ (k : Counter). k.reads) shared)
      where
        at : (j : ℕ) (t : Bool) → eqb j p ≡ t
            → stage (task_at s.tasks j) c (cond t ((m.places w).made + 1) (own_made s.tasks m.places j))
            ≡ cond t (suc ((seen s m c).stage p)) ((seen s m c).stage j)
        at j true e =
            rw (eqb-true j p e)
            (next_on_lem (facing s m w) c (m.places w).made trying.here o ∙ add-one _ ∙ ap suc (sym stage_there))
        at j false e = refl

    -- and it is allowed where the wait passes, and only there
    module _ (was : RowIs s w (m.places w) (m.private w)) where
      row_there : m.private w c ≡ registered_before s c (m.places w).passed
      unfolding p
      row_there = row_unended s w (m.places w) try _ (m.private w) trying.owns trying.here once was c (rw stage_there at below_there)

      pub allowed_there : Passes m w try → Allowed (kinds s c) s.number (seen s m c) (m.places w).passed
      unfolding p
      allowed_there passes = go next_there
        where
          go : NextOn (kinds s c p) c ((seen s m c).stage p) try → Allowed (kinds s c) s.number (seen s m c) p
          go (read_waits k n t) = rw (k, n) (sym (rw t at passes) ∙ ap (λ (x : Counter). x.last_write) row_there)
          go (read_ends k n t) = rw (k, n) tt
          go (write_waits k n t) = rw (k, n) (sym (rw t at passes) ∙ ap (λ (x : Counter). x.last_write) row_there)
          go (write_waits_reads k n t) = rw (k, n) (sym (rw t at passes) ∙ ap (λ (x : Counter). x.reads) row_there)
          go (write_zeroes k n t) = rw (k, n) tt
          go (write_posts k n t) = rw (k, n) tt

      pub passes_there : Allowed (kinds s c) s.number (seen s m c) (m.places w).passed → Passes m w try
      unfolding p
      passes_there allowed = go next_there
        where
          go : NextOn (kinds s c p) c ((seen s m c).stage p) try → Passes m w try
          go (read_waits k n t) = rw t (ap (λ (x : Counter). x.last_write) row_there ∙ sym (rw (k, n) at allowed))
          go (read_ends k n t) = rw t tt
          go (write_waits k n t) = rw t (ap (λ (x : Counter). x.last_write) row_there ∙ sym (rw (k, n) at allowed))
          go (write_waits_reads k n t) = rw t (ap (λ (x : Counter). x.reads) row_there ∙ sym (rw (k, n) at allowed))
          go (write_zeroes k n t) = rw t tt
          go (write_posts k n t) = rw t tt
