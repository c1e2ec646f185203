use Rattle.std.proofs.Common.{◌≡◌, length, sym, ap, ◌∙◌, subst, arith}
use Rattle.component_references.specs.NumberedCircles.{IsWithin}
use Rattle.xs_codes.specs.declared.code.Code.TheVariants.{MgPropsCorrect2}
use Rattle.xs_components.specs.declared.group.GroupDef.{GroupDef}
use Rattle.component_references.specs.References.{model_references}
use Rattle.component_references.proofs.GraphLaws.{models-within}
use Rattle.component_references.proofs.OutcomeLaws.{models-length, parts-outcome}
use Rattle.component_references.proofs.ranking.rank_models.Goals as goal

pub rank_parts-requires-clause-within : goal.rank_parts-requires-clause-within
rank_parts-requires-clause-within c =
    let e : c.as_slice.result.now ≡ model_references c.args.parts.now = c.as_slice.ensures.value ∙ c.in_ok-refs.ensures.same ∙ c.in_ok-model_references.ensures.references in
    subst IsWithin (sym e) (models-within c.args.parts.now c.requires.closed)

pub rank_parts-requires-clause-there : goal.rank_parts-requires-clause-there
rank_parts-requires-clause-there c =
    let e : c.as_slice.result.now ≡ model_references c.args.parts.now = c.as_slice.ensures.value ∙ c.in_ok-refs.ensures.same ∙ c.in_ok-model_references.ensures.references in
    let n = ap length e ∙ models-length c.args.parts.now in
    omega (arith, n, ap length c.groups.ensures.parts)

pub put_models-requires-clause-outcome : goal.put_models-requires-clause-outcome
put_models-requires-clause-outcome c =
    let e : c.as_slice.result.now ≡ model_references c.args.parts.now = c.as_slice.ensures.value ∙ c.in_ok-refs.ensures.same ∙ c.in_ok-model_references.ensures.references in
    parts-outcome (λ (p : GroupDef). p.at) c.groups.result.now c.args.parts.now.groups.parts c.as_slice.result.now (model_references c.args.parts.now) MgPropsCorrect2 c.in_ok-ranking.ranking c.groups.ensures.parts e c.in_ok-ranking.ensures.outcome
