use Rattle.std.proofs.Common.{◌≡◌, ℕ, ◌<◌, subst}
use Rattle.xs_names.specs.Names.{NameTable}
use Rattle.xs_names.specs.Numbering.{HasNoRepeats}
use Rattle.content_automaton.specs.Terms.{ExpandedName}
use Rattle.content_automaton.specs.Symbols.{SymbolTable, AreNamesOf, count_of, symbol_of}
use Rattle.content_automaton.proofs.Freshness.{named}
use Rattle.content_automaton.proofs.symbols.Symbols.count.Goals as goal

pub returns-clause-named : goal.returns-clause-named
returns-clause-named c =
    subst (λ (s : SymbolTable). (t : NameTable) → AreNamesOf t s.names → HasNoRepeats t.names → (n : ℕ) → n < count_of s → (name : ExpandedName) × (symbol_of t s name ≡ n)) c.self.view_is
    (λ t within once. named t _ within once c.self.invariant.2 c.self.invariant.3)
