use Rattle.std.proofs.Common.{Bool, ap, ◌∙◌}
use Rattle.xs_codes.specs.declared.code.Code.TheVariants.{SrcRedefine7_2_2}
use Rattle.derive_faults.specs.TypeFaults.{when}
use Rattle.derive_restriction.proofs.AttrGroupLaws.{group-first}
use Rattle.derive_restriction.proofs.group_faults.pair_code.Goals as goal

pub returns : goal.returns
returns c = record {
  first = group-first c.args.set.now.parts.now c.args.set.now.names.now c.args.own c.args.original c.in_ok-found.found c.when.result (c.when.ensures ∙ ap (λ (b : Bool). when b SrcRedefine7_2_2) c.is_some.ensures) c.in_ok-found.ensures.first;
  same = c.broken_code.ensures.same;
}
