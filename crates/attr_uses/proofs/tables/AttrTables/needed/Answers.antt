use Rattle.std.proofs.lemmas.Result.{IfOk-weaker}
use Rattle.attr_uses.proofs.ReadLaws.{all-needed}
use Rattle.attr_uses.proofs.tables.AttrTables.needed.Goals as goal

pub returns : goal.returns
returns c = record {
  needed = λ t ids value s.
      IfOk-weaker c.needed.result _ _ (λ needed are. all-needed t ids value.uses c.args.self.now.store.maps.depth c.requires.store.deep 0 needed.items are)
      (c.needed.ensures.needed _ s.uses);
}
