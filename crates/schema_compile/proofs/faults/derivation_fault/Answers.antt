use Rattle.schema_compile.proofs.ValueLaws.{compared, known}
use Rattle.schema_compile.proofs.faults.derivation_fault.Goals as goal

pub first_derivation_fault-requires : goal.first_derivation_fault-requires
first_derivation_fault-requires c =
    let set = c.args.set.now in
    let found = c.requires.found in
    record {
      known = record {
        given = compared set c.requires.fit;
        elements = c.requires.fit.types;
        there = c.requires.there.there;
        declarations = found.declarations;
        tables = (found.attr_uses.ids, found.attr_uses.are);
        contents = found.contents;
      };
      types = known set c.requires.fit;
    }
