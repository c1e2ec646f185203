use Rattle.attr_uses.proofs.ReadLaws.{two-ids}
use Rattle.attr_uses.proofs.tables.AttrTables.has_two_ids.Goals as goal

pub returns : goal.returns
returns c = record {
  two = λ t ids value s. two-ids t ids value.uses c.args.self.now.store.maps.depth c.requires.store.deep c.has_two_ids.result (c.has_two_ids.ensures.two _ s.uses);
}
