use Rattle.attr_uses.specs.Uses.{group_uses}
use Rattle.attr_uses.proofs.KeptLaws.{keeps-on, store-kept, answer-kept}
use Rattle.attr_uses.proofs.tables.AttrTables.of.Goals as goal

pub returns : goal.returns
returns c =
    let g = c.in_ok-groups.ensures.made in
    let y = c.in_ok-types.ensures.made in
    record {
      tables = record {
        store = store-kept _ _ (keeps-on _ _ _ g.0 y.0) c.in_ok-store.ensures.store;
        groups = λ n h. answer-kept c.args.parts.now c.args.ids.now _ _ y.0 _ (group_uses c.args.parts.now n) (g.1.each n h);
        types = λ n h. y.1.each n h;
      };
    }
