use Rattle.std.proofs.Common.{◌≡◌, length, sym, ap, ◌∙◌, subst, arith}
use Rattle.component_references.specs.NumberedCircles.{IsWithin}
use Rattle.xs_codes.specs.declared.code.Code.TheVariants.{SrcAttributeGroup3}
use Rattle.xs_components.specs.declared.attr_group.AttrGroupDef.{AttrGroupDef}
use Rattle.component_references.specs.References.{attr_group_references}
use Rattle.component_references.proofs.GraphLaws.{attr_groups-within}
use Rattle.component_references.proofs.OutcomeLaws.{attr_groups-length, parts-outcome}
use Rattle.component_references.proofs.ranking.rank_attr_groups.Goals as goal

pub rank_parts-requires-clause-within : goal.rank_parts-requires-clause-within
rank_parts-requires-clause-within c =
    let e : c.as_slice.result.now ≡ attr_group_references c.args.parts.now = c.as_slice.ensures.value ∙ c.in_ok-refs.ensures.same ∙ c.in_ok-attr_group_references.ensures.references in
    subst IsWithin (sym e) (attr_groups-within c.args.parts.now c.requires.closed)

pub rank_parts-requires-clause-there : goal.rank_parts-requires-clause-there
rank_parts-requires-clause-there c =
    let e : c.as_slice.result.now ≡ attr_group_references c.args.parts.now = c.as_slice.ensures.value ∙ c.in_ok-refs.ensures.same ∙ c.in_ok-attr_group_references.ensures.references in
    let n = ap length e ∙ attr_groups-length c.args.parts.now in
    omega (arith, n, ap length c.attr_groups.ensures.parts)

pub put_attr_groups-requires-clause-outcome : goal.put_attr_groups-requires-clause-outcome
put_attr_groups-requires-clause-outcome c =
    let e : c.as_slice.result.now ≡ attr_group_references c.args.parts.now = c.as_slice.ensures.value ∙ c.in_ok-refs.ensures.same ∙ c.in_ok-attr_group_references.ensures.references in
    parts-outcome (λ (p : AttrGroupDef). p.at) c.attr_groups.result.now c.args.parts.now.attr_groups.parts c.as_slice.result.now (attr_group_references c.args.parts.now) SrcAttributeGroup3 c.in_ok-ranking.ranking c.attr_groups.ensures.parts e c.in_ok-ranking.ensures.outcome
