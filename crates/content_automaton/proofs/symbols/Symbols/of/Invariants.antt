use Rattle.std.proofs.Common.{take}
use Rattle.content_automaton.specs.Terms.{names_of, spaces_of}
use Rattle.content_automaton.proofs.Adding.{AreFrom}
use Rattle.content_automaton.proofs.symbols.Symbols.of.Given as goal

abbrev pub invariant-loop-term : goal.invariant-loop-term
invariant-loop-term l = record {
  names : AreFrom names_of (take l.term-index l.terms) l.symbols.names;
  spaces : AreFrom spaces_of (take l.term-index l.terms) l.symbols.spaces;
}
