-- Numbers 0, 4 and 22 differ, so the constructor's answer tells whether the version is known and the sizes are within the limits, and a
-- flow that was made has the version and the sizes that were asked for.
use mathlib.Core.Path.{◌≡◌, refl, ap}
use mathlib.Core.Bool.{Bool, true, false, cond}
use Prim.Native.Nat.{ℕ}
use native.Mathlib.Omega.{arith}
use Rattle.std.proofs.Common.{Ok, Err, ◌⊎◌, inl, inr}
use Rattle.layout.specs.Flow.{known_version, in_range}
use Rattle.refusal.specs.declared.Rule.{Rule}
use Rattle.refusal.specs.declared.Rule.TheVariants.{Sizes, Version}
use Rattle.refusal.proofs.Unique.{number_positive, rule_unique}
use Rattle.flow.specs.Made.{FlowAnswer, stated, refused, stated_by, asked_for}
use Rattle.flow.specs.declared.Flow.{Flow}

-- the flow has the version and the sizes asked for, and they are known and within the limits
pub record MadeAs (flow : Flow) (version tasks workers cells : ℕ) : Type 0 where
  pub known : known_version version ≡ true
  pub range : in_range tasks workers cells ≡ true
  pub version_is : flow.version ≡ version
  pub tasks_is : flow.tasks ≡ tasks
  pub workers_is : flow.workers ≡ workers
  pub cells_is : flow.cells ≡ cells

-- the numbers of two equal answers
numbers : {a b : FlowAnswer} → a ≡ b → a.number ≡ b.number
numbers e = ap (λ (s : FlowAnswer). s.number) e

module _ (version tasks workers cells : ℕ) where
  -- the answer, by what the two tests give
  abbrev given : Bool → Bool → FlowAnswer
  given known range = cond known (cond range (stated version tasks workers cells) (refused 4)) (refused 22)

  pub within_is : (flow : Flow) → stated_by (Ok flow) ≡ asked_for version tasks workers cells → MadeAs flow version tasks workers cells
  within_is flow e = go (known_version version) (in_range tasks workers cells) refl refl e
    where
      go : (k r : Bool) → known_version version ≡ k → in_range tasks workers cells ≡ r → stated_by (Ok flow) ≡ given k r
          → MadeAs flow version tasks workers cells
      go true true known range p =
          record {
            known = known;
            range = range;
            version_is = ap (λ (s : FlowAnswer). s.version) p;
            tasks_is = ap (λ (s : FlowAnswer). s.tasks) p;
            workers_is = ap (λ (s : FlowAnswer). s.workers) p;
            cells_is = ap (λ (s : FlowAnswer). s.cells) p;
          }
      go true false known range p = absurd (omega (arith, numbers p))
      go false r known range p = absurd (omega (arith, numbers p))

  pub other_version_is : stated_by (Err Version) ≡ asked_for version tasks workers cells → known_version version ≡ false
  other_version_is e = go (known_version version) (in_range tasks workers cells) refl e
    where
      go : (k r : Bool) → known_version version ≡ k → stated_by (Err Version) ≡ given k r → known_version version ≡ false
      go true true known p = absurd (omega (arith, numbers p))
      go true false known p = absurd (omega (arith, numbers p))
      go false r known p = known

  pub outside_is : stated_by (Err Sizes) ≡ asked_for version tasks workers cells
      → (known_version version ≡ true) × (in_range tasks workers cells ≡ false)
  outside_is e = go (known_version version) (in_range tasks workers cells) refl refl e
    where
      go : (k r : Bool) → known_version version ≡ k → in_range tasks workers cells ≡ r → stated_by (Err Sizes) ≡ given k r
          → (known_version version ≡ true) × (in_range tasks workers cells ≡ false)
      go true true known range p = absurd (omega (arith, numbers p))
      go true false known range p = (known, range)
      go false r known range p = absurd (omega (arith, numbers p))

  -- no other rule is answered
  pub no_other : (rule : Rule) → stated_by (Err rule) ≡ asked_for version tasks workers cells → (rule ≡ Version) ⊎ (rule ≡ Sizes)
  no_other rule e = go (known_version version) (in_range tasks workers cells) e
    where
      go : (k r : Bool) → stated_by (Err rule) ≡ given k r → (rule ≡ Version) ⊎ (rule ≡ Sizes)
      go true true p = absurd (number_positive rule (numbers p))
      go true false p = inr (rule_unique rule Sizes (numbers p))
      go false r p = inl (rule_unique rule Version (numbers p))
