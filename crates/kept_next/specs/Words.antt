-- The words of a content model, by names and by symbols, and how the automaton tells of them.
use Rattle.std.specs.Prelude.{◌≡◌, ◌≢◌, ℕ, true, List, Contains, if◌then◌else◌}
use Rattle.xs_names.specs.Names.{NameTable}
use Rattle.particle_models.specs.Words.{IsWordOfNames}
use Rattle.particle_forms.specs.Models.{model_of}
use Rattle.particle_forms.specs.Accepted.{accepts}
use Rattle.content_automaton.specs.Symbols.{SymbolTable}
use Rattle.content_automaton.specs.Terms.{ExpandedName, name_at}
use Rattle.content_models.specs.declared.automaton.ContentAutomaton.{ContentAutomaton}
use Rattle.assessment.specs.Attribution.{SchemaSet}
use Rattle.model_terms.specs.Symbols.{AreSymbolsBy}
use Rattle.model_terms.specs.Terms.{begins, is_word}
use Rattle.kept_next.specs.declared.symbol.Fit.{Fit}
use Rattle.kept_next.specs.declared.symbol.Fit.TheVariants.{No, Prefix, Word}
use Rattle.kept_next.specs.declared.symbol.SymbolName.{SymbolName}
use Rattle.kept_next.specs.declared.symbol.SymbolName.TheVariants.{Name, Namespace, Other}

-- the names are those of a word of the content model of a particle (Structures 3.8.4)
abbrev pub IsWordBy : SchemaSet → ℕ → List ExpandedName → Type 0
IsWordBy s p names = IsWordOfNames (accepts s.names s.members s.parts) (model_of s.parts p) names

-- the symbols are those of names, and they are a word by the automaton
abbrev pub IsWordIn : ContentAutomaton → List ℕ → Type 0
IsWordIn a symbols = AreSymbolsBy a symbols × (is_word a symbols ≡ true)

-- how symbols fit: they are a word, they begin one, or neither
abbrev pub fit_by : ContentAutomaton → List ℕ → Fit
fit_by a symbols = if is_word a symbols then Word else (if begins a symbols then Prefix else No)

-- the names that a symbol stands for: its own; those of its namespace that have no symbols of their own; or all others
module _ (t : NameTable) (s : SymbolTable) where
  abbrev pub HasNone : ExpandedName → Type 0
  HasNone name = (n : ℕ) → Contains s.names n → name_at t n ≢ name

  abbrev pub IsNameOf : SymbolName → ExpandedName → Type 0
  IsNameOf (Name n) name = name_at t n ≡ name
  IsNameOf (Namespace space) name = (name.0 ≡ space) × HasNone name
  IsNameOf Other name = (Contains s.spaces name.0 → ⊥) × HasNone name
