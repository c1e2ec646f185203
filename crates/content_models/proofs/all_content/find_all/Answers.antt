use Rattle.std.proofs.Common.{◌||◌, inl, inr, List, ℕ, sym, ap, subst}
use Rattle.content_models.specs.Ways.{IsAllFound}
use Rattle.content_models.proofs.WayLaws.{IsOther, way-more, way-found, way-none, below-lower}
use Rattle.content_models.proofs.all_content.find_all.Goals as goal

pub is_optional-optional-requires-in-Some : goal.is_optional-optional-requires-in-Some
is_optional-optional-requires-in-Some c = record { there = (below-lower c.args.parts.now c.requires.ranked c.loop-below.at c.in-Some.below (sym c.in-Some.ensures)).there }

pub loop-below-smaller : goal.loop-below-smaller
loop-below-smaller c = (below-lower c.args.parts.now c.requires.ranked c.loop-below.at c.in-Some.below (sym c.in-Some.ensures)).lower

pub loop-below-preserved : goal.loop-below-preserved
loop-below-preserved c =
    way-more c.args.parts.now c.requires.ranked c.args.p c.loop-below.at c.loop-below.optional c.loop-below.invariant c.in-Some.below (sym c.in-Some.ensures) _
    (ap (λ b. c.loop-below.optional || b) c.is_optional-optional-in-Some.ensures)

pub returns-in-All-clause-found : goal.returns-in-All-clause-found
returns-in-All-clause-found c =
    subst (λ (members : List ℕ). IsAllFound c.args.parts.now c.args.p members c.loop-below.optional) (sym c.as_slice.ensures)
    (way-found c.args.parts.now c.requires.ranked c.args.p c.loop-below.at c.loop-below.optional c.loop-below.invariant c.particle.result.now c.particle.ensures.part c.in-All.members c.in-All.is)

pub returns-in-Element-clause-none : goal.returns-in-Element-clause-none
returns-in-Element-clause-none c =
    way-none c.args.parts.now c.requires.ranked c.args.p c.loop-below.at c.loop-below.optional c.loop-below.invariant c.particle.result.now c.particle.ensures.part (sym c.in_default.ensures)
    (elim c.in-Element.is [
      | inl a ↦ subst IsOther (sym a.1) tt
      | inr rest ↦ elim rest [
        | inl a ↦ subst IsOther (sym a.1) tt
        | inr rest ↦ elim rest [
          | inl a ↦ subst IsOther (sym a.1) tt
          | inr rest ↦ elim rest [
            | inl a ↦ subst IsOther (sym a.1) tt
            | inr a ↦ subst IsOther (sym a.1) tt
          ]
        ]
      ]
    ])
