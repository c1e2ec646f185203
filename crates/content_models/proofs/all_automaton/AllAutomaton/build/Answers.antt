use Rattle.std.proofs.Common.{◌∙◌}
use Rattle.content_models.proofs.Modelling.{within_of, built_of, automaton_of}
use Rattle.content_models.proofs.all_automaton.AllAutomaton.build.Goals as goal

pub list_terms-requires-clause-within : goal.list_terms-requires-clause-within
list_terms-requires-clause-within c = within_of c.args.names.now c.args.terms.now c.in_ok-symbols.symbols c.in_ok-symbols.ensures c.requires.within

pub returns-clause-automaton : goal.returns-clause-automaton
returns-clause-automaton c = λ once accepts model of.
    automaton_of c.args.names.now c.in_ok-symbols.symbols c.args.terms.now c.args.members.now c.in_ok-listing.listing.accepted.items c.in_ok-listing.listing.attributions.items
    c.in_ok-found.found.letters.items c.in_ok-found.found.pair c.args.optional c.of-machine.result
    (built_of c.args.names.now c.in_ok-symbols.symbols c.args.terms.now c.args.members.now c.in_ok-listing.listing.accepted.items c.in_ok-listing.listing.attributions.items
    c.in_ok-found.found.letters.items c.in_ok-found.found.pair c.args.optional c.of-machine.result c.in_ok-listing.ensures
    c.as_slice.result.now c.as_slice-2.result.now c.count.result c.in_ok-inhabited.inhabited.items c.deref.result.now
    c.as_slice.ensures.value c.as_slice-2.ensures.value c.count.ensures.count c.in_ok-found.ensures c.in_ok-inhabited.ensures c.deref.ensures.value c.of-machine.ensures
    c.requires.count c.requires.few c.count.ensures.named
    (within_of c.args.names.now c.args.terms.now c.in_ok-symbols.symbols c.in_ok-symbols.ensures c.requires.within) once)
    c.in_ok-kept.kept.items (c.in_ok-kept.ensures.items ∙ c.requires.ids) accepts model of
