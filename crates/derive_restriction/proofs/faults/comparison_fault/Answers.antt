use Rattle.std.proofs.Common.{sym, subst}
use Rattle.component_tables.specs.Bases.{AreLinesOf}
use Rattle.derive_restriction.proofs.faults.comparison_fault.Goals as goal

pub first_of_both-requires : goal.first_of_both-requires
first_of_both-requires c =
    let known = c.requires.known in
    record {
      known = record { given = known.given; tables = known.tables; contents = known.contents; ranges = c.in_ok-ranges.ensures.ranges; bases = subst (AreLinesOf c.args.set.now.parts.now) (sym c.bases.ensures) known.declarations.bases };
      types = c.requires.types;
    }
