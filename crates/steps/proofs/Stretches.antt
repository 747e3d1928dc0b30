-- Schedules by the stretch: their lengths, the names in them, and that the workers in turn are one stretch after another that names each worker once.
use mathlib.Core.Path.{◌≡◌, sym, ap, ap₂, ◌∙◌}
use mathlib.Core.Bool.{Bool, cond}
use mathlib.Core.List.{List, ◌∷◌, ◌++◌, append-nil, append_assoc}
use Prim.Native.Nat.{ℕ, zero, suc, ◌+◌, ◌-◌, ◌*◌, ◌≤◌, ◌<◌}
use native.Mathlib.Nat.{zero-add, suc-add, suc-mul, zero-mul, mul-zero, mul-suc}
use native.Mathlib.Omega.{arith}
use borrow.Author.Tests.{lt-ltb, le-ltb}
use lib.ListN.{length, length-append}
use Rattle.layout.specs.Lists.{each}
use Rattle.layout.proofs.Lists.{each-length, each_at, each_same}
use Rattle.steps.specs.Run.{Names}
use Rattle.steps.specs.Turns.{Stretch, Turn, stretches, next_turn, turn, turns}
use Rattle.steps.proofs.Given.{names_append}

-- ---- stretches

module _ (named : ℕ → List ℕ) where
  -- more stretches go on where fewer end
  pub stretches_more : (n more : ℕ) → stretches named (n + more) ≡ stretches named n ++ stretches (λ i. named (n + i)) more
  unfolding stretches
  stretches_more n zero =
      let none : n + 0 ≡ n = omega arith in
      ap (stretches named) none ∙ sym (append-nil (stretches named n))
  stretches_more n (suc more) =
      let one : n + suc more ≡ suc (n + more) = omega arith in
      ap (stretches named) one
      ∙ ap (λ (l : List ℕ). l ++ named (n + more)) (stretches_more n more)
      ∙ append_assoc (stretches named n) (stretches (λ i. named (n + i)) more) (named (n + more))

  pub stretches_names : (workers n : ℕ) → ((i : ℕ) → i < n → Stretch workers (named i)) → Names workers (stretches named n)
  unfolding stretches
  stretches_names workers zero each_one = λ i h. absurd (omega arith)
  stretches_names workers (suc n) each_one =
      names_append workers (stretches named n) (named n) (stretches_names workers n (λ i l. each_one i (omega arith))) (each_one n (omega arith)).names

  pub stretches_length : (workers : ℕ) → ((i : ℕ) → Turn workers (named i)) → (n : ℕ) → length (stretches named n) ≡ n * workers
  unfolding stretches
  stretches_length workers each_one zero = omega (arith, zero-mul workers)
  stretches_length workers each_one (suc n) =
      length-append (stretches named n) (named n)
      ∙ omega (arith, stretches_length workers each_one n, (each_one n).once, suc-mul n workers)

-- ---- the workers in turn

-- each worker once, in order
abbrev pub one_turn : ℕ → List ℕ
one_turn workers = each workers (λ w. w)

pub turn_is : (workers : ℕ) → Turn workers (one_turn workers)
turn_is workers =
    record {
      stretch = record {
        names = λ i h.
            let inside : i < workers = omega (arith, each-length workers (λ w. w)) in
            omega (arith, each_at workers (λ w. w) i 0 inside);
        each_worker = λ w h. (w, omega (arith, each-length workers (λ v. v)), each_at workers (λ v. v) w 0 h);
      };
      once = each-length workers (λ w. w);
    }

each_append : (m n : ℕ) (f : ℕ → ℕ) → each (m + n) f ≡ each m f ++ each n (λ i. f (m + i))
unfolding each
each_append zero n f = ap (λ (k : ℕ). each k f) (zero-add n) ∙ each_same n f (λ i. f (0 + i)) (λ i h. ap f (sym (zero-add i)))
each_append (suc m) n f =
    let further : ℕ → ℕ = λ i. f (suc i) in
    ap (λ (k : ℕ). each k f) (suc-add m n)
    ∙ ap (λ (l : List ℕ). f 0 ∷ l)
    (each_append m n further
    ∙ ap (λ (l : List ℕ). each m further ++ l) (each_same n (λ i. further (m + i)) (λ i. f (suc m + i)) (λ i h. ap f (sym (suc-add m i)))))

module _ (workers : ℕ) where
  -- from an index at which worker 0 is named, the others follow
  turn_from : (from : ℕ) → turn workers from ≡ 0 → (i : ℕ) → i < workers → turn workers (from + i) ≡ i
  unfolding turn
  turn_from from first zero h =
      let none : from + 0 ≡ from = omega arith in
      ap (turn workers) none ∙ first
  turn_from from first (suc i) h =
      let one : from + suc i ≡ suc (from + i) = omega arith in
      let more : i + 1 ≡ suc i = omega arith in
      ap (turn workers) one
      ∙ ap (next_turn workers) (turn_from from first i (omega arith))
      ∙ ap (λ (t : Bool). cond t (i + 1) 0) (lt-ltb (i + 1) workers (omega arith))
      ∙ more

  -- after each turn worker 0 is named again
  turn_start : 1 ≤ workers → (n : ℕ) → turn workers (workers * n) ≡ 0
  unfolding turn
  turn_start some zero = ap (turn workers) (mul-zero workers)
  turn_start some (suc n) =
      let last : workers * suc n ≡ suc (workers * n + (workers - 1)) = omega (arith, mul-suc workers n) in
      ap (turn workers) last
      ∙ ap (next_turn workers) (turn_from (workers * n) (turn_start some n) (workers - 1) (omega arith))
      ∙ ap (λ (t : Bool). cond t (workers - 1 + 1) 0) (le-ltb (workers - 1 + 1) workers (omega arith))

  pub turns_are : (n : ℕ) → turns workers (workers * n) ≡ stretches (λ i. one_turn workers) n
  unfolding stretches each
  turns_are zero = ap (turns workers) (mul-zero workers)
  turns_are (suc n) =
      let more : workers * suc n ≡ workers * n + workers = omega (arith, mul-suc workers n) in
      ap (turns workers) more
      ∙ each_append (workers * n) workers (turn workers)
      ∙ ap₂ ◌++◌ (turns_are n)
      (each_same workers (λ i. turn workers (workers * n + i)) (λ i. i)
      (λ i h. turn_from (workers * n) (turn_start (omega arith) n) i h))
