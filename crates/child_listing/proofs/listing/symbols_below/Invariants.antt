use Rattle.std.proofs.Common.{◌≡◌, Some, map, take}
use Rattle.model_terms.specs.Symbols.{child_symbols}
use Rattle.child_listing.proofs.listing.symbols_below.Given as goal

abbrev pub invariant-loop-element : goal.invariant-loop-element
invariant-loop-element l = l.symbols.items ≡ child_symbols l.names (Some l.automaton) (map (λ e. e.1) (take l.element-index l.elements))
