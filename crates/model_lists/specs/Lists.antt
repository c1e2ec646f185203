-- What contracts see of the lists of child elements.
use Rattle.std.specs.Prelude.{◌≡◌, ℕ, suc, Bool, List, [], ◌∷◌, Option, None, Some, map, slice_get, if◌then◌else◌}
use Rattle.child_trees.specs.Lists.{Lists, Entry, get}
use Rattle.content_models.specs.Modelled.{AllModel, letter_of}
use Rattle.content_models.specs.declared.automaton.ContentAutomaton.{ContentAutomaton}
use Rattle.content_models.specs.declared.automaton.ContentAutomaton.TheVariants.{States, All}
use Rattle.model_summaries.specs.declared.map.AllMap.{AllMap}
use Rattle.model_summaries.specs.Masks.{of_letter}
use Rattle.model_summaries.specs.Maps.{width_of, leaf_of}
use Rattle.model_terms.specs.Terms.{is_ambivalent_symbol}
use Rattle.model_lists.specs.declared.handle.ModelList.{ModelList}

-- many lists by automata over states, and by those of alls
abbrev pub RowLists : Type 0
RowLists = Lists ℕ (List ℕ)

abbrev pub MemberLists : Type 0
MemberLists = Lists (Unit {0}) AllMap

-- the list of this number has a leaf for each of these symbols, in order, and the ambivalent ones are marked
pub record HasLeaves {Shape Map : Type 0} (v : Lists Shape Map) (list : ℕ) (leaf : ℕ → Map) (ambivalent : ℕ → Bool) (symbols : List ℕ) : Type 0 where
  pub entries : List (Entry Map)
  pub list_is : get v list ≡ Some entries
  pub maps : map (λ e. e.act) entries ≡ map leaf symbols
  pub marks : map (λ e. e.marked) entries ≡ map ambivalent symbols

-- what a child with this symbol does to the state of an all
abbrev pub member_of : AllModel → ℕ → AllMap
member_of a n = of_letter (letter_of a n)

-- the list of this number is that of child elements with these symbols, by this automaton, which is over states
abbrev pub IsRowList : RowLists → ℕ → ContentAutomaton → List ℕ → Type 0
IsRowList v list (States a) symbols = (v.shape ≡ width_of a) × HasLeaves v list (leaf_of a) (is_ambivalent_symbol (States a)) symbols
IsRowList v list (All a) symbols = ⊥

-- so, by this automaton, which is that of an all
abbrev pub IsMemberList : MemberLists → ℕ → ContentAutomaton → List ℕ → Type 0
IsMemberList v list (States a) symbols = ⊥
IsMemberList v list (All a) symbols = HasLeaves v list (member_of a) (is_ambivalent_symbol (All a)) symbols

-- the lists by the dead states of their automata, and those of alls
pub record ListsView : Type 0 where
  pub rows : List RowLists
  pub alls : MemberLists

-- the list of this number is that of child elements with these symbols, by this automaton: among those with the dead state, or with
-- none among those of alls
abbrev pub IsListIn : ListsView → Option ℕ → ℕ → ContentAutomaton → List ℕ → Type 0
IsListIn v (Some dead) list a symbols = (lists : RowLists) × (slice_get v.rows dead ≡ Some lists) × IsRowList lists list a symbols
IsListIn v None list a symbols = IsMemberList v.alls list a symbols

-- the list under this handle is that of child elements with these symbols, by this automaton
abbrev pub IsListOf : ListsView → ModelList → ContentAutomaton → List ℕ → Type 0
IsListOf v h a symbols = IsListIn v h.dead h.list a symbols

-- the handle is that of a list
abbrev pub IsLive : ListsView → ModelList → Type 0
IsLive v h = (a : ContentAutomaton) × (symbols : List ℕ) × IsListOf v h a symbols

-- all lists but these stay as they are
abbrev pub KeepLists : ListsView → ListsView → (ModelList → Type 0) → Type 0
KeepLists old new but = (g : ModelList) (a : ContentAutomaton) (symbols : List ℕ) → ¬ but g → IsListOf old g a symbols → IsListOf new g a symbols

-- the places, counted from this one, at which there is a true one
abbrev pub places_from : ℕ → List Bool → List ℕ
places_from place [] = []
places_from place (b ∷ bs) = if b then place ∷ places_from (suc place) bs else places_from (suc place) bs

-- the places of the children whose symbols are ambivalent, in order
abbrev pub ambivalent_places : ContentAutomaton → List ℕ → List ℕ
ambivalent_places a symbols = places_from 0 (map (is_ambivalent_symbol a) symbols)
