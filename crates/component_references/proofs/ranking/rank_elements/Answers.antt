use Rattle.std.proofs.Common.{◌≡◌, length, sym, ap, ◌∙◌, subst, arith}
use Rattle.component_references.specs.NumberedCircles.{IsWithin}
use Rattle.xs_codes.specs.declared.code.Code.TheVariants.{EPropsCorrect6}
use Rattle.xs_components.specs.declared.element.ElementDecl.{ElementDecl}
use Rattle.component_references.specs.References.{element_references}
use Rattle.component_references.proofs.GraphLaws.{elements-within}
use Rattle.component_references.proofs.OutcomeLaws.{elements-length, parts-outcome}
use Rattle.component_references.proofs.ranking.rank_elements.Goals as goal

pub rank_parts-requires-clause-within : goal.rank_parts-requires-clause-within
rank_parts-requires-clause-within c =
    let e : c.as_slice.result.now ≡ element_references c.args.parts.now = c.as_slice.ensures.value ∙ c.in_ok-refs.ensures.same ∙ c.in_ok-element_references.ensures.references in
    subst IsWithin (sym e) (elements-within c.args.parts.now c.requires.closed)

pub rank_parts-requires-clause-there : goal.rank_parts-requires-clause-there
rank_parts-requires-clause-there c =
    let e : c.as_slice.result.now ≡ element_references c.args.parts.now = c.as_slice.ensures.value ∙ c.in_ok-refs.ensures.same ∙ c.in_ok-element_references.ensures.references in
    let n = ap length e ∙ elements-length c.args.parts.now in
    omega (arith, n, ap length c.elements.ensures.parts)

pub put_elements-requires-clause-outcome : goal.put_elements-requires-clause-outcome
put_elements-requires-clause-outcome c =
    let e : c.as_slice.result.now ≡ element_references c.args.parts.now = c.as_slice.ensures.value ∙ c.in_ok-refs.ensures.same ∙ c.in_ok-element_references.ensures.references in
    parts-outcome (λ (p : ElementDecl). p.at) c.elements.result.now c.args.parts.now.elements.parts c.as_slice.result.now (element_references c.args.parts.now) EPropsCorrect6 c.in_ok-ranking.ranking c.elements.ensures.parts e c.in_ok-ranking.ensures.outcome
