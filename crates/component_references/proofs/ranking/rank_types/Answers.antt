use Rattle.std.proofs.Common.{◌≡◌, length, sym, ap, ◌∙◌, subst, arith}
use Rattle.component_references.specs.NumberedCircles.{IsWithin}
use Rattle.component_references.specs.References.{type_references}
use Rattle.component_references.proofs.GraphLaws.{types-within}
use Rattle.component_references.proofs.OutcomeLaws.{types-length, types-outcome}
use Rattle.component_references.proofs.ranking.rank_types.Goals as goal

pub rank_all_types-requires-clause-within : goal.rank_all_types-requires-clause-within
rank_all_types-requires-clause-within c =
    let e : c.as_slice.result.now ≡ type_references c.args.parts.now = c.as_slice.ensures.value ∙ c.in_ok-refs.ensures.same ∙ c.in_ok-type_references.ensures.references in
    subst IsWithin (sym e) (types-within c.args.parts.now c.requires.closed)

pub rank_all_types-requires-clause-there : goal.rank_all_types-requires-clause-there
rank_all_types-requires-clause-there c =
    let e : c.as_slice.result.now ≡ type_references c.args.parts.now = c.as_slice.ensures.value ∙ c.in_ok-refs.ensures.same ∙ c.in_ok-type_references.ensures.references in
    let n = ap length e ∙ types-length c.args.parts.now in
    omega (arith, n, ap length c.simples.ensures.parts, ap length c.complexes.ensures.parts)

pub put_types-requires-clause-outcome : goal.put_types-requires-clause-outcome
put_types-requires-clause-outcome c =
    let e : c.as_slice.result.now ≡ type_references c.args.parts.now = c.as_slice.ensures.value ∙ c.in_ok-refs.ensures.same ∙ c.in_ok-type_references.ensures.references in
    types-outcome c.args.parts.now c.simples.result.now c.complexes.result.now c.as_slice.result.now c.in_ok-ranking.ranking c.simples.ensures.parts c.complexes.ensures.parts e c.in_ok-ranking.ensures.outcome
