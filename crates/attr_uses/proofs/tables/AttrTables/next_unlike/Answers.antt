use Rattle.attr_uses.proofs.ReadLaws.{next-unlike}
use Rattle.attr_uses.proofs.tables.AttrTables.next_unlike.Goals as goal

pub returns : goal.returns
returns c = record {
  next = λ t ids value also one other. next-unlike t ids value.uses also.uses c.args.self.now.store.maps.depth c.requires.store.deep c.args.from c.next_unlike.result (c.next_unlike.ensures.next _ _ one.uses other.uses);
}
