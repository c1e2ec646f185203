use Rattle.std.proofs.Common.{sym, subst, ◌∙◌}
use Rattle.derive_restriction.specs.Given.{AreTypes}
use Rattle.derive_restriction.proofs.SumLaws.{least-comparison}
use Rattle.derive_restriction.proofs.faults.first_of_both.Goals as goal

pub first_attr_group_fault-requires : goal.first_attr_group_fault-requires
first_attr_group_fault-requires c = record {
  given = c.requires.known.given;
  bases = c.requires.known.bases;
  types = subst (AreTypes c.args.set.now.parts.now) (sym c.first_restriction.ensures.same) c.requires.types;
  tables = c.requires.known.tables;
}

pub returns : goal.returns
returns c = record {
  least = least-comparison c.args.set.now.parts.now c.args.set.now.names.now c.args.redefined.now c.in_ok-restriction.restriction c.in_ok-group.group c.sooner.result c.sooner.ensures.sooner c.in_ok-restriction.ensures.least
      c.in_ok-group.ensures.least;
  same = c.first_attr_group_fault.ensures.same ∙ c.first_restriction.ensures.same;
}
