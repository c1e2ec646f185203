use Rattle.xs_components.specs.declared.common.TypeId.TheVariants.{Complex}
use Rattle.attr_uses.specs.Uses.{uses_of}
use Rattle.derive_faults.proofs.AttrLaws.{accepted, refused, type-accepted, type-refused}
use Rattle.derive_faults.proofs.faults.type_fault.Goals as goal

pub returns-in-Err : goal.returns-in-Err
returns-in-Err c = record {
  least = λ ids are.
      type-refused c.args.parts.now ids c.args.id c.in-Err.fault c.requires.there
      (refused c.args.parts.now ids c.args.tables.now.store c.of_type.result c.in-Err.fault c.in-Err.is (uses_of c.args.parts.now (Complex c.args.id)) (c.of_type.ensures.table c.args.parts.now ids are c.requires.there));
}

pub returns-in-Ok : goal.returns-in-Ok
returns-in-Ok c = record {
  least = λ ids are.
      let w = accepted c.args.parts.now ids c.args.tables.now.store c.of_type.result c.in-Ok.table c.in-Ok.is (uses_of c.args.parts.now (Complex c.args.id)) (c.of_type.ensures.table c.args.parts.now ids are c.requires.there) in
      type-accepted c.args.parts.now ids c.args.id c.complex.result.now w.0 c.complex.ensures.part w.1 c.props_code-code.result c.coded.result c.coded.ensures (c.props_code-code.ensures.first c.args.parts.now ids w.0 w.2);
}

pub props_code-code-requires-clause-table : goal.props_code-code-requires-clause-table
props_code-code-requires-clause-table c =
    let t = c.args.parts.now in
    let w = c.requires.tables in
    let own = accepted t w.0 c.args.tables.now.store c.of_type.result c.in-Ok.table c.in-Ok.is (uses_of t (Complex c.args.id)) (c.of_type.ensures.table t w.0 w.1 c.requires.there) in
    (t, w.0, own.0, own.2)
