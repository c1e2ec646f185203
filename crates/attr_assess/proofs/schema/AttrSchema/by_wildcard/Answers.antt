use Rattle.std.proofs.Common.{None, Some, subst}
use Rattle.xs_names.specs.Names.{space_of}
use Rattle.component_tables.specs.Named.{attribute_with}
use Rattle.attr_assess.specs.Schema.{IsTableIf}
use Rattle.attr_assess.proofs.TableLaws.{by_wildcard-like, is-admitted, is-not-admitted}
use Rattle.attr_assess.proofs.schema.AttrSchema.by_wildcard.Goals as goal

pub returns-in_default-wildcard : goal.returns-in_default-wildcard
returns-in_default-wildcard c = record {
  of = λ ids value s.
      (let stands = subst (λ o. IsTableIf c.args.self.now.parts.now ids c.args.self.now.tables.now.store o value) c.in-Some.is s in
      by_wildcard-like None value.wildcard (c.in_default-wildcard.ensures.wildcard c.args.self.now.parts.now ids value stands)
      (space_of c.args.self.now.names.now c.args.name) (attribute_with c.args.self.now.parts.now c.args.name));
}

pub returns-then-admits : goal.returns-then-admits
returns-then-admits c = record {
  of = λ ids value s.
      (let stands = subst (λ o. IsTableIf c.args.self.now.parts.now ids c.args.self.now.tables.now.store o value) c.in-Some.is s in
      is-admitted c.in-Some-wildcard.wildcard.now value.wildcard (c.in-Some-wildcard.ensures.wildcard c.args.self.now.parts.now ids value stands)
      (space_of c.args.self.now.names.now c.args.name) c.ns.result c.ns.ensures.value (attribute_with c.args.self.now.parts.now c.args.name)
      c.admits.result c.admits.ensures.admitted c.attribute_with.result c.by_process.result c.if-admits.true (c.attribute_with.ensures.of c.requires.tops) c.by_process.ensures);
}

pub returns-else-admits : goal.returns-else-admits
returns-else-admits c = record {
  of = λ ids value s.
      (let stands = subst (λ o. IsTableIf c.args.self.now.parts.now ids c.args.self.now.tables.now.store o value) c.in-Some.is s in
      is-not-admitted c.in-Some-wildcard.wildcard.now value.wildcard (c.in-Some-wildcard.ensures.wildcard c.args.self.now.parts.now ids value stands)
      (space_of c.args.self.now.names.now c.args.name) c.ns.result c.ns.ensures.value (attribute_with c.args.self.now.parts.now c.args.name)
      c.admits.result c.admits.ensures.admitted c.if-admits.false);
}
