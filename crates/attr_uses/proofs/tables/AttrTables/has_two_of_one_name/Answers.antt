use Rattle.attr_uses.proofs.ReadLaws.{two-of-one}
use Rattle.attr_uses.proofs.tables.AttrTables.has_two_of_one_name.Goals as goal

pub returns : goal.returns
returns c = record {
  two = λ t ids value s. two-of-one t ids value.uses c.args.self.now.store.maps.depth c.requires.store.deep c.has_double.result (c.has_double.ensures.double _ s.uses);
}
