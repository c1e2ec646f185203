use Rattle.std.proofs.Common.{Bool, sym, ap, ◌∙◌, subst}
use Rattle.std.specs.Prelude.{◌||◌}
use Rattle.derive_restriction.proofs.TextLaws.{Goes, goes-begin, goes-up, ends-nothing, ends-found, step-lower}
use Rattle.derive_restriction.proofs.texts.text_type.Goals as goal

pub up-init : goal.up-init
up-init c = record { there = c.requires.there; same = goes-begin c.args.parts.now c.args.of }

pub returns-in-Nothing : goal.returns-in-Nothing
returns-in-Nothing c = record { text = ends-nothing c.args.parts.now c.up.is_restricted c.up.at c.args.of (sym c.text_step.ensures ∙ c.in-Nothing.is) c.up.invariant.same }

pub returns-in-Found : goal.returns-in-Found
returns-in-Found c = record {
  text = ends-found c.args.parts.now c.up.is_restricted c.up.at c.args.of c.in-Found.text c.restricted_if.result (sym c.text_step.ensures ∙ c.in-Found.is) c.restricted_if.ensures c.up.invariant.same;
}

pub up-smaller : goal.up-smaller
up-smaller c = (step-lower c.args.parts.now c.requires.ranked c.up.at c.in-Up.base c.in-Up.restricts (sym c.text_step.ensures ∙ c.in-Up.is)).lower

-- where it was not restricted yet, and where it was
pub up-preserved : goal.up-preserved
up-preserved c =
    let goes = sym c.text_step.ensures ∙ c.in-Up.is in
    record {
      there = (step-lower c.args.parts.now c.requires.ranked c.up.at c.in-Up.base c.in-Up.restricts goes).there;
      same = subst (λ (r : Bool). Goes c.args.parts.now (r || c.in-Up.restricts) c.in-Up.base c.args.of) c.if-is_restricted.false
          (goes-up c.args.parts.now c.up.is_restricted c.up.at c.args.of c.in-Up.base c.in-Up.restricts goes c.up.invariant.same);
    }

pub up-preserved-then-is_restricted : goal.up-preserved-then-is_restricted
up-preserved-then-is_restricted c =
    let goes = sym c.text_step.ensures ∙ c.in-Up.is in
    record {
      there = (step-lower c.args.parts.now c.requires.ranked c.up.at c.in-Up.base c.in-Up.restricts goes).there;
      same = subst (λ (r : Bool). Goes c.args.parts.now r c.in-Up.base c.args.of) (ap (λ (r : Bool). r || c.in-Up.restricts) c.if-is_restricted.true ∙ sym c.if-is_restricted.true)
          (goes-up c.args.parts.now c.up.is_restricted c.up.at c.args.of c.in-Up.base c.in-Up.restricts goes c.up.invariant.same);
    }
