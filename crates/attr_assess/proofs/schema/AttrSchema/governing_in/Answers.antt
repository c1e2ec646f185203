use Rattle.attr_assess.specs.Governing.{uses_for}
use Rattle.attr_assess.proofs.schema.AttrSchema.governing_in.Goals as goal

pub table_of-requires : goal.table_of-requires
table_of-requires c = record { store = c.requires.set.1.uses.store; there = c.requires.there }

pub governing_among-requires : goal.governing_among-requires
governing_among-requires c = record {
  store = c.requires.set.1.uses.store;
  tops = c.requires.set.1.at_top;
  named = c.requires.named;
  table = (c.requires.set.0, uses_for c.args.self.now.parts.now c.args.of, c.table_of.ensures.table c.requires.set.0 c.requires.set.1);
}

pub returns : goal.returns
returns c = record {
  governing = c.governing_among.ensures.governing c.requires.set.0 (uses_for c.args.self.now.parts.now c.args.of) (c.table_of.ensures.table c.requires.set.0 c.requires.set.1);
}
