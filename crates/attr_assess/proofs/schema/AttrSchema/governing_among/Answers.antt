use Rattle.std.proofs.Common.{ap, ◌∙◌}
use Rattle.xs_names.specs.Names.{space_of}
use Rattle.component_tables.specs.Named.{attribute_with}
use Rattle.attr_assess.specs.Governing.{by_use, by_wildcard}
use Rattle.attr_assess.proofs.schema.AttrSchema.governing_among.Goals as goal

pub returns-in-Some : goal.returns-in-Some
returns-in-Some c = record {
  governing = λ ids value s.
      c.by_written.ensures
      ∙ ap (λ u. by_use c.args.self.now.parts.now u (by_wildcard value.wildcard (space_of c.args.self.now.names.now c.args.name) (attribute_with c.args.self.now.parts.now c.args.name)))
      (c.in-Some.ensures.of ids value s);
}

pub returns-in-None : goal.returns-in-None
returns-in-None c = record {
  governing = λ ids value s.
      c.by_wildcard.ensures.of ids value s
      ∙ ap (λ u. by_use c.args.self.now.parts.now u (by_wildcard value.wildcard (space_of c.args.self.now.names.now c.args.name) (attribute_with c.args.self.now.parts.now c.args.name)))
      (c.in-None.ensures.of ids value s);
}
