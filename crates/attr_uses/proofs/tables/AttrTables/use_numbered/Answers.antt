use Rattle.std.proofs.Common.{◌^◌, ◌<◌, arith, sym, ◌∙◌}
use Rattle.attr_uses.proofs.ReadLaws.{named-by}
use Rattle.attr_uses.proofs.tables.AttrTables.use_numbered.Goals as goal

pub returns-in-Some : goal.returns-in-Some
returns-in-Some c = record {
  named = λ t ids value s.
      (let small : c.args.name < 2 ^ c.args.self.now.store.maps.depth = rw c.requires.store.deep (omega arith) in
      named-by t ids value.uses c.args.name _ (sym c.in-Some.is ∙ (c.get.ensures.entry _ s.uses small)));
}

pub returns-in-None : goal.returns-in-None
returns-in-None c = record {
  named = λ t ids value s.
      (let small : c.args.name < 2 ^ c.args.self.now.store.maps.depth = rw c.requires.store.deep (omega arith) in
      named-by t ids value.uses c.args.name _ (sym c.in-None.is ∙ (c.get.ensures.entry _ s.uses small)));
}
