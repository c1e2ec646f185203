use Rattle.std.proofs.Common.{ap, ◌∙◌}
use Rattle.std.proofs.lemmas.Option.{none-some}
use Rattle.content_automaton.specs.Symbols.{symbol_of}
use Rattle.content_automaton.specs.Terms.{name_at}
use Rattle.content_models.specs.Built.{symbols_of}
use Rattle.doc_changes.specs.Readers.{name_at as named_at}
use Rattle.child_listing.proofs.Symbols.{model-of, names-within}
use Rattle.child_lists.proofs.Listed.{name-there, name-is, name-within}
use Rattle.child_lists.proofs.lists.listed.Goals as goal

pub unreachable-requires : goal.unreachable-requires
unreachable-requires c = none-some (named_at c.args.doc.now c.args.at.now.node) (c.in_default.ensures.name ∙ name-there c.args.doc.now c.args.at.now.node c.requires.element)

pub symbol-requires-clause-name : goal.symbol-requires-clause-name
symbol-requires-clause-name c =
    name-within c.args.set.now.names c.args.doc.now c.requires.stands.0 c.requires.stands.1 c.args.at.now.node c.in-Some.name c.requires.element c.in-Some.ensures.name

pub symbol-requires-clause-within : goal.symbol-requires-clause-within
symbol-requires-clause-within c =
    names-within c.args.set.now c.args.automaton.now (model-of c.args.set.now c.requires.usable c.requires.model.0 c.args.automaton.now c.requires.model.1)

pub returns-clause-symbol : goal.returns-clause-symbol
returns-clause-symbol c =
    let t = c.args.set.now.names in
    c.symbol.ensures.symbol
    ∙ ap (λ n. symbol_of t (symbols_of c.args.automaton.now) (name_at t n)) (name-is c.args.doc.now c.args.at.now.node c.in-Some.name c.requires.element c.in-Some.ensures.name)
