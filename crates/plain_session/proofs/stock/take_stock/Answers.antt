use Rattle.std.proofs.Common.{sym, subst}
use Rattle.plain_tree.specs.Found.{HasNames}
use Rattle.plain_session.proofs.Known.{set_named}
use Rattle.plain_session.proofs.stock.take_stock.Goals as goal

pub assessed-requires : goal.assessed-requires
assessed-requires c =
    let set = c.args.set.now in
    let f = c.args.tree.now.forest in
    let names = c.add_names.new.names in
    record {
      ready = record {
        usable = c.usable_with_more_names.ensures.usable set names c.requires.ready.usable c.add_names.ensures.grown;
        sound = c.add_names.ensures.sound;
      };
      names = subst (λ t. HasNames t f) (sym c.in_ok-add_names.ensures.table) (c.document_names_are_found.ensures.found set.names f);
    }

pub returns-clause-named : goal.returns-clause-named
returns-clause-named c = set_named c.assessed.result c.args.set.now c.assessed.new.set c.add_names.new.names c.args.tree.now.forest c.assessed.ensures.same c.in_ok-add_names.ensures.table
