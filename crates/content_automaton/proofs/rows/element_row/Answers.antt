use Rattle.std.proofs.Common.{◌<◌, length}
use Rattle.std.specs.Prelude.{Contains}
use Rattle.std.proofs.lemmas.List.Elements.{All-contains}
use Rattle.content_automaton.specs.declared.symbol_terms.Given.{Given}
use Rattle.content_automaton.proofs.Items.{map_contains, item_in}
use Rattle.content_automaton.proofs.rows.element_row.Goals as goal

pub symbol-symbol-requires-clause-name : goal.symbol-symbol-requires-clause-name
symbol-symbol-requires-clause-name c =
    All-contains (λ n. n < length c.args.names.now.names) c.args.symbols.now.names c.one-item.result.name c.requires.within
    (All-contains (Contains c.args.symbols.now.names) _ c.one-item.result.name c.requires.own_names
    (map_contains (λ (g : Given). g.name) c.args.given.now c.one-item.result (item_in c.args.given.now c.loop-one.one-index c.one-item.result c.loop-one-test.true c.one-item.is)))
