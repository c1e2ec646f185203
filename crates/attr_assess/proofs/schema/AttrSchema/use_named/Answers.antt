use Rattle.std.proofs.Common.{Option, subst}
use Rattle.attr_assess.specs.Schema.{IsTableIf}
use Rattle.attr_assess.proofs.schema.AttrSchema.use_named.Goals as goal

pub use_named-requires-clause-table : goal.use_named-requires-clause-table
use_named-requires-clause-table c =
    let w = c.requires.table in
    (c.args.self.now.parts.now, w.0, w.1, subst (λ o. IsTableIf c.args.self.now.parts.now w.0 c.args.self.now.tables.now.store o w.1) c.in-Some.is w.2)

pub returns-in-Some : goal.returns-in-Some
returns-in-Some c = record {
  of = λ ids value s. c.use_named.ensures.named c.args.self.now.parts.now ids value
      (subst (λ o. IsTableIf c.args.self.now.parts.now ids c.args.self.now.tables.now.store o value) c.in-Some.is s);
}
