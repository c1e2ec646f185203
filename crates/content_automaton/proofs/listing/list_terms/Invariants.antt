use Rattle.content_automaton.specs.Listed.{IsListedUpTo}
use Rattle.content_automaton.proofs.listing.list_terms.Given as goal

abbrev pub invariant-loop-number : goal.invariant-loop-number
invariant-loop-number l = IsListedUpTo l.names l.symbols l.terms l.number l.accepted.items l.attributions.items
