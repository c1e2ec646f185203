-- Symbols that are those of names.
use Rattle.std.specs.Prelude.{◌≡◌, ℕ, List, Option, None, Some, map}
use Rattle.xs_names.specs.Names.{NameTable}
use Rattle.content_automaton.specs.Terms.{ExpandedName, name_at}
use Rattle.content_automaton.specs.Symbols.{symbol_of}
use Rattle.content_models.specs.Built.{symbols_of}
use Rattle.content_models.specs.declared.automaton.ContentAutomaton.{ContentAutomaton}
use Rattle.assessment.specs.Attribution.{SchemaSet}
use Rattle.assessment.specs.Fitting.{IsAutomatonFor}

-- the automaton stands for a content model of a schema set, and the symbols are those of names
pub record AreSymbolsBy (a : ContentAutomaton) (symbols : List ℕ) : Type 0 where
  pub set : SchemaSet
  pub particle : ℕ
  pub fits : IsAutomatonFor set particle a
  pub names : List ExpandedName
  pub are : symbols ≡ map (symbol_of set.names (symbols_of a)) names

-- the symbols of child elements by the automaton of their parent's content model; without one, all names have one symbol
abbrev pub child_symbols : NameTable → Option ContentAutomaton → List ℕ → List ℕ
child_symbols t None children = map (λ name. 0) children
child_symbols t (Some a) children = map (λ name. symbol_of t (symbols_of a) (name_at t name)) children
