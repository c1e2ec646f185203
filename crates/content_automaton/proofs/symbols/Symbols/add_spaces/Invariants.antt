use Rattle.std.proofs.Common.{◌≡◌, take}
use Rattle.content_automaton.specs.Rows.{with_all}
use Rattle.content_automaton.proofs.symbols.Symbols.add_spaces.Given as goal

abbrev pub invariant-loop-space : goal.invariant-loop-space
invariant-loop-space l = record {
  names : l.self.names ≡ l.initial.self.names;
  spaces : l.self.spaces ≡ with_all l.initial.self.spaces (take l.space-index l.spaces);
}
