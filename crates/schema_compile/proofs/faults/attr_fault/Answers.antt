use Rattle.schema_compile.proofs.ValueLaws.{least-properties}
use Rattle.schema_compile.proofs.faults.attr_fault.Goals as goal

pub first_attr_fault-uses-requires : goal.first_attr_fault-uses-requires
first_attr_fault-uses-requires c = let uses = c.requires.found.attr_uses in record { tables = (uses.ids, uses.are) }

pub returns-clause-least : goal.returns-clause-least
returns-clause-least c =
    let uses = c.requires.found.attr_uses in (
      uses.ids,
      uses.marks,
      least-properties c.args.set.now.parts uses.ids c.first_attr_fault-uses.result c.in_ok-values.values c.sooner.result c.sooner.ensures.sooner
          (c.first_attr_fault-uses.ensures.least uses.ids uses.are) c.in_ok-values.ensures.least,
    )
