-- A place of a list of child elements.
use Rattle.std.specs.Prelude.{◌≡◌, ℕ, ◌+◌, ◌*◌, ◌<◌, ◌≤◌, ◌^◌, List, [], ◌∷◌, ◌++◌, Option, None, Some, length, map, take, drop, slice_get, slice_index_or}
use Rattle.xs_names.specs.Names.{IsSound}
use Rattle.child_trees.specs.Bits.{bits}
use Rattle.child_trees.specs.Lists.{Entry, get}
use Rattle.content_automaton.specs.Symbols.{symbol_of}
use Rattle.content_automaton.specs.Terms.{ExpandedName}
use Rattle.content_models.specs.Built.{symbols_of}
use Rattle.content_models.specs.declared.automaton.ContentAutomaton.{ContentAutomaton}
use Rattle.assessment.specs.Attribution.{SchemaSet}
use Rattle.assessment.specs.Fitting.{IsAutomatonFor}
use Rattle.model_lists.specs.Lists.{ListsView, RowLists, IsListOf}
use Rattle.model_lists.specs.Around.{LeadTo}
use Rattle.model_lists.specs.declared.handle.ModelList.{ModelList}
use Rattle.model_lists.specs.declared.around.ChildState.{ChildState}
use Rattle.kept_next.specs.declared.symbol.Fit.{Fit}
use Rattle.kept_next.specs.declared.symbol.SymbolName.{SymbolName}
use Rattle.kept_next.specs.declared.symbol.SymbolName.TheVariants.{Other}
use Rattle.kept_next.specs.Order.{IsOrderOf}
use Rattle.kept_next.specs.declared.order.Symbol.{Symbol}
use Rattle.kept_next.specs.Spaces.{HasSpacesNamed}
use Rattle.kept_next.specs.Words.{fit_by}

-- a list among others, its automaton, the symbols of the automaton in the order in which they are printed, and a place of the list
pub record ListPlace : Type 0 where
  pub lists : ListsView
  pub list : ModelList
  pub automaton : ContentAutomaton
  pub symbols : List Symbol
  pub place : ℕ

-- The automaton is that of the content model of a particle of a schema set, and the list that of child elements with these names. The
-- table of the set has the namespaces that its wildcards name.
pub record IsListBy (lists : ListsView) (list : ModelList) (a : ContentAutomaton) (s : SchemaSet) (p : ℕ) (names : List ExpandedName) : Type 0 where
  pub fits : IsAutomatonFor s p a
  pub sound : IsSound s.names
  pub spaced : HasSpacesNamed s
  pub list_is : IsListOf lists list a (map (symbol_of s.names (symbols_of a)) names)

-- it is a place of such a list, with the symbols of the automaton in the order in which they are printed
pub record IsPlaceBy (v : ListPlace) (s : SchemaSet) (p : ℕ) (names : List ExpandedName) : Type 0 where
  pub listed : IsListBy v.lists v.list v.automaton s p names
  pub within : v.place ≤ length names
  pub ordered : IsOrderOf s.names (symbols_of v.automaton).names (symbols_of v.automaton).spaces v.symbols
  pub few : length v.symbols < 2 ^ 32

-- the place is one of a list of child elements with some names
abbrev pub IsPlace : ListPlace → Type 0
IsPlace v = (s : SchemaSet) × (p : ℕ) × (names : List ExpandedName) × IsPlaceBy v s p names

abbrev pub symbol_at : ListPlace → ℕ → Symbol
symbol_at v n = slice_index_or v.symbols n (record { number = 0; name = Other })

-- what the n-th symbol in the order in which they are printed stands for, and its number by the automaton
abbrev pub name_at : ListPlace → ℕ → SymbolName
name_at v n = (symbol_at v n).name

abbrev pub number_at : ListPlace → ℕ → ℕ
number_at v n = (symbol_at v n).number

-- the child elements before the place, and from it on, have these symbols
abbrev pub AreAround : ListPlace → List ℕ → List ℕ → Type 0
AreAround v before behind =
    (s : SchemaSet) × (p : ℕ) × (names : List ExpandedName) × IsPlaceBy v s p names ×
    (before ≡ take v.place (map (symbol_of s.names (symbols_of v.automaton)) names)) ×
    (behind ≡ drop v.place (map (symbol_of s.names (symbols_of v.automaton)) names))

-- how the n-th symbol fits at the place, where the child elements have these symbols
abbrev pub fits_at : ListPlace → List ℕ → ℕ → Fit
fits_at v symbols n = fit_by v.automaton (take v.place symbols ++ number_at v n ∷ drop v.place symbols)

-- ---- states

-- the child elements before the place lead to the state
abbrev pub LeadBefore : ListPlace → ChildState → Type 0
LeadBefore v x = (symbols : List ℕ) → IsListOf v.lists v.list v.automaton symbols → LeadTo v.automaton (take v.place symbols) x

-- those, and one with the n-th symbol, lead to it
abbrev pub LeadWith : ListPlace → ℕ → ChildState → Type 0
LeadWith v n x = (symbols : List ℕ) → IsListOf v.lists v.list v.automaton symbols → LeadTo v.automaton (take v.place symbols ++ number_at v n ∷ []) x

-- those, and the child elements from the place on, lead to it
abbrev pub LeadAfter : ListPlace → ℕ → ChildState → Type 0
LeadAfter v n x =
    (symbols : List ℕ) → IsListOf v.lists v.list v.automaton symbols → LeadTo v.automaton ((take v.place symbols ++ number_at v n ∷ []) ++ drop v.place symbols) x

-- ---- steps

abbrev pub entries_in : {Map : Type 0} → Option (List (Entry Map)) → ℕ
entries_in None = 0
entries_in (Some entries) = length entries

abbrev pub entries_of : Option RowLists → ℕ → ℕ
entries_of None list = 0
entries_of (Some lists) list = entries_in (get lists list)

abbrev pub leaves_in : ListsView → Option ℕ → ℕ → ℕ
leaves_in v (Some dead) list = entries_of (slice_get v.rows dead) list
leaves_in v None list = entries_in (get v.alls list)

-- how many children a list has
abbrev pub children_in : ListsView → ModelList → ℕ
children_in v h = leaves_in v h.dead h.list

-- so many steps it takes at most to go along the children before a place of a list, or along those from it on
abbrev pub list_most : ListPlace → ℕ
list_most v = 8 * (bits (children_in v.lists v.list + 1) + 1)
