use Rattle.std.proofs.Common.{◌≡◌, map, take}
use Rattle.content_automaton.specs.declared.symbol_terms.Given.{Given}
use Rattle.content_automaton.specs.Rows.{with_all}
use Rattle.content_automaton.proofs.symbols.Symbols.add_names.Given as goal

abbrev pub invariant-loop-one : goal.invariant-loop-one
invariant-loop-one l = record {
  names : l.self.names ≡ with_all l.initial.self.names (map (λ (g : Given). g.name) (take l.one-index l.given));
  spaces : l.self.spaces ≡ l.initial.self.spaces;
}
