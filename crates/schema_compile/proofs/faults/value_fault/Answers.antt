use Rattle.schema_compile.proofs.ValueLaws.{given, read}
use Rattle.schema_compile.proofs.faults.value_fault.Goals as goal

pub first_value_fault-requires : goal.first_value_fault-requires
first_value_fault-requires c =
    let set = c.args.set.now in
    record {
      given = given set c.requires.fit;
      read = read set c.requires.fit;
      declarations = c.requires.found.declarations;
      contents = c.requires.found.contents;
    }
