-- Schedules by the stretch (02, Q-10): "a stretch of a schedule in which each worker is named at least once", stretches laid end to end, and the schedule
-- that "names workers 0, 1, .. in turn".
use Rattle.std.specs.Prelude.{◌≡◌, cond, List, [], ◌∷◌, ◌++◌, ℕ, zero, suc, ◌+◌, ◌*◌, ◌<◌, length, get_or, eqb, ltb}
use Rattle.layout.specs.Lists.{each}
use Rattle.layout.specs.Flow.{Flow}
use Rattle.steps.specs.Run.{Names, total}

-- ---- stretches

-- a byte names the worker
abbrev pub NamedIn : ℕ → List ℕ → Type 0
NamedIn w bytes = (k : ℕ) × (k < length bytes) × (get_or bytes k 0 ≡ w)

-- how often they name it
unfoldable pub times_named : ℕ → List ℕ → ℕ
times_named w [] = 0
times_named w (v ∷ bytes) = cond (eqb v w) 1 0 + times_named w bytes

-- bytes that name workers, "each worker .. at least once"
pub record Stretch (workers : ℕ) (bytes : List ℕ) : Type 0 where
  pub names : Names workers bytes
  pub each_worker : (w : ℕ) → w < workers → NamedIn w bytes

-- each worker once, in whatever order: no more bytes than workers
pub record Turn (workers : ℕ) (bytes : List ℕ) : Type 0 where
  pub stretch : Stretch workers bytes
  pub once : length bytes ≡ workers

-- the first so many of stretches, laid end to end
unfoldable pub stretches : (ℕ → List ℕ) → ℕ → List ℕ
stretches order zero = []
stretches order (suc n) = stretches order n ++ order n

-- ---- the workers in turn

-- the worker after one, and after the last the first again
abbrev pub next_turn : ℕ → ℕ → ℕ
next_turn workers w = cond (ltb (w + 1) workers) (w + 1) 0

-- the worker named at an index
unfoldable pub turn : ℕ → ℕ → ℕ
turn workers zero = 0
turn workers (suc i) = next_turn workers (turn workers i)

-- so many steps in turn
abbrev pub turns : ℕ → ℕ → List ℕ
turns workers steps = each steps (turn workers)

-- what the run program names: "all workers in turn, the total times over"
abbrev pub in_turn : Flow → List ℕ
in_turn flow = turns flow.workers (flow.workers * total flow)
