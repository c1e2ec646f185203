use Rattle.std.proofs.Common.{List, subst, take_all}
use Rattle.xs_names.specs.Numbering.{HasNoRepeats}
use Rattle.content_automaton.specs.Symbols.{SymbolTable}
use Rattle.content_automaton.specs.declared.symbol_terms.Accepts.{Accepts}
use Rattle.content_automaton.specs.Terms.{names_of, spaces_of}
use Rattle.content_automaton.proofs.Adding.{AreFrom, from_more}
use Rattle.content_automaton.proofs.symbols.Symbols.of.Goals as goal

pub loop-term-preserved : goal.loop-term-preserved
loop-term-preserved c = record {
  names = from_more names_of c.args.terms.now c.loop-term.term-index c.term-item.result _ _ c.loop-term-test.true c.term-item.is c.in_ok-add_term.ensures.names c.loop-term.invariant.names;
  spaces = from_more spaces_of c.args.terms.now c.loop-term.term-index c.term-item.result _ _ c.loop-term-test.true c.term-item.is c.in_ok-add_term.ensures.spaces c.loop-term.invariant.spaces;
}

pub returns : goal.returns
returns c =
    let e = take_all c.loop-term.term-index c.args.terms.now c.loop-term-test.false in
    record {
      names = subst (λ (terms : List Accepts). AreFrom names_of terms c.loop-term.symbols.names) e c.loop-term.invariant.names;
      spaces = subst (λ (terms : List Accepts). AreFrom spaces_of terms c.loop-term.symbols.spaces) e c.loop-term.invariant.spaces;
      names_once = subst (λ (s : SymbolTable). HasNoRepeats s.names) c.symbols-2.view_is c.symbols-2.invariant.2;
      spaces_once = subst (λ (s : SymbolTable). HasNoRepeats s.spaces) c.symbols-2.view_is c.symbols-2.invariant.3;
    }
