use Rattle.attr_uses.specs.Uses.{uses_of}
use Rattle.attr_assess.proofs.TableLaws.{table-accepted, table-refused}
use Rattle.attr_assess.proofs.schema.AttrSchema.table_of.Goals as goal

pub returns-in-Ok : goal.returns-in-Ok
returns-in-Ok c = record {
  table = λ ids set. table-accepted c.args.self.now.parts.now ids c.args.self.now.tables.now.store c.in-Ok.table (uses_of c.args.self.now.parts.now c.args.of)
      (c.in-Ok.ensures.table c.args.self.now.parts.now ids set.uses c.requires.there);
}

pub returns-in-Err : goal.returns-in-Err
returns-in-Err c = record {
  table = λ ids set. table-refused c.args.self.now.parts.now ids c.args.self.now.tables.now.store c.in-Err.field-0 (uses_of c.args.self.now.parts.now c.args.of)
      (c.in-Err.ensures.table c.args.self.now.parts.now ids set.uses c.requires.there);
}
