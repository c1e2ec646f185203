-- When what is kept of the elements of a document fits: of each element what is kept of its child elements (Structures 3.3.4, 3.3.5,
-- 3.4.4, 5.2).
use Rattle.std.specs.Prelude.{◌≡◌, ◌==◌, ℕ, List, [], Option, None, Some, map, unwrap_or, slice_get, slice_index_or, if◌then◌else◌}
use Rattle.xs_codes.specs.declared.fault.Found.{Found}
use Rattle.xs_components.specs.declared.common.TypeId.{TypeId}
use Rattle.xs_components.specs.declared.common.TypeId.TheVariants.{AnyType, Builtin, Simple, Complex}
use Rattle.assess_records.specs.Counts.{counts_of}
use Rattle.assess_records.specs.Instance.{instance_text}
use Rattle.assess_records.specs.Numbered.{Head, shape_of}
use Rattle.assess_records.specs.declared.instance_names.InstanceAttribute.TheVariants.{TypeName}
use Rattle.assess_records.specs.declared.shape.ElementShape.{ElementShape}
use Rattle.elem_governing.specs.Governing.{govern_root, govern_child}
use Rattle.elem_governing.specs.declared.pairs.Governing.{Governing}
use Rattle.content_models.specs.declared.automaton.ContentAutomaton.{ContentAutomaton}
use Rattle.assessment.specs.Attribution.{SchemaSet}
use Rattle.assessment.specs.Assessment.{AreJudged}
use Rattle.compiled_schema.specs.declared.compiled.Compiled.{Compiled}
use Rattle.model_terms.specs.Symbols.{child_symbols}
use Rattle.model_terms.specs.Terms.{stuck_in, term_in}
use Rattle.model_lists.specs.Lists.{ListsView, IsListOf}
use Rattle.model_lists.specs.declared.handle.ModelList.{ModelList}
use Rattle.doc_nodes.specs.Nodes.{Nodes, Has, Lacks, element_children}
use Rattle.doc_changes.specs.Held.{parent_at}
use Rattle.doc_changes.specs.Readers.{name_at, own_chars, scope_at}
use Rattle.doc_readers.specs.Heads.{texts_named}
use Rattle.kept_records.specs.Slots.{KeptSlots, IsMade, kept_at, entry_at, pair_at, record_at}

-- the automaton of the content model of each type, if it has one
abbrev pub Models : Type 0
Models = Option TypeId → Option ContentAutomaton

abbrev pub models_of : Compiled → Models
models_of c None = None
models_of c (Some AnyType) = None
models_of c (Some (Builtin kind)) = None
models_of c (Some (Simple id)) = None
models_of c (Some (Complex id)) = slice_index_or c.models id None

-- the codes of IDs stand at the root, whose number is 1
abbrev pub root_codes : List Found → ℕ → List Found
root_codes codes n = if n == 1 then codes else []

-- there is a list exactly where there is an automaton, and it is that of child elements with these symbols
abbrev pub IsListed : ListsView → Option ContentAutomaton → Option ModelList → List ℕ → Type 0
IsListed v None None symbols = Unit {0}
IsListed v None (Some h) symbols = ⊥
IsListed v (Some a) None symbols = ⊥
IsListed v (Some a) (Some h) symbols = IsListOf v h a symbols

-- what governs an element of a document goes by its name, xsi:type and scope
abbrev pub head_at : SchemaSet → Nodes → ℕ → Head
head_at s ns n = record { name = name_at ns n; xsi = instance_text s.names (texts_named ns n) TypeName; scope = scope_at ns n }

-- the parent of an element bears the IDs of its text; of the root the root itself (Structures 3.15.5)
abbrev pub bearer_at : Nodes → ℕ → ℕ
bearer_at ns n = unwrap_or (parent_at ns n) n

-- the root is governed as the root
pub record IsTop (s : SchemaSet) (ns : Nodes) (ks : KeptSlots) : Type 0 where
  pub made : IsMade ks 1
  pub pair_is : pair_at ks 1 ≡ govern_root s.names s.parts (head_at s ns 1).name (head_at s ns 1).xsi (head_at s ns 1).scope

-- by a schema set with the automata of its types, of a document's nodes by their numbers, with what is kept
module _ (s : SchemaSet) (models : Models) (ns : Nodes) (ks : KeptSlots) where
  -- the automaton of the content model of an element's type, and the symbols of the names of its child elements
  abbrev pub model_at : ℕ → Option ContentAutomaton
  model_at n = models (pair_at ks n).of

  abbrev pub symbols_at : ℕ → List ℕ
  symbols_at n = child_symbols s.names (model_at n) (map (name_at ns) (element_children ns n))

  -- what governs the element at a place among the child elements of another, by the term that it is attributed to
  abbrev pub child_pair : ℕ → ℕ → ℕ → Governing
  child_pair n place child =
      govern_child s.names s.parts (pair_at ks n).mode (term_in (model_at n) (symbols_at n) place) (head_at s ns child).name (head_at s ns child).xsi (head_at s ns child).scope

  -- something is kept of the child element at the place, and what governs it is what its parent gives it
  pub record IsGiven (n place child : ℕ) : Type 0 where
    pub made : IsMade ks child
    pub pair_is : pair_at ks child ≡ child_pair n place child

  -- what an element is judged by is right, with these lists: its child elements are governed, listed and counted
  pub record IsGathered (v : ListsView) (n : ℕ) : Type 0 where
    pub number_is : (kept_at ks n).found.number ≡ n
    pub bearer_is : (kept_at ks n).found.bearer ≡ bearer_at ns n
    pub text_is : (kept_at ks n).text ≡ own_chars ns n
    pub given : (place child : ℕ) → slice_get (element_children ns n) place ≡ Some child → IsGiven n place child
    pub list_is : IsListed v (model_at n) (kept_at ks n).list (symbols_at n)
    pub stuck_is : (kept_at ks n).stuck ≡ stuck_in (model_at n) (symbols_at n)
    pub counts_are : (kept_at ks n).counts ≡ counts_of (map (record_at ks) (element_children ns n))

-- what an element has to show, where these are the codes of the document's IDs
abbrev pub shape_at : SchemaSet → Nodes → KeptSlots → List Found → ℕ → ElementShape
shape_at s ns ks ids n =
    shape_of (head_at s ns n) (texts_named ns n) (own_chars ns n) (kept_at ks n).stuck (kept_at ks n).counts (kept_at ks n).identity (root_codes ids n)

module _ (s : SchemaSet) (models : Models) (ns : Nodes) (ks : KeptSlots) (v : ListsView) (ids : List Found) where
  -- what is kept of an element is what it is judged to be, by what is right
  pub record IsFit (n : ℕ) : Type 0 where
    pub gathered : IsGathered s models ns ks v n
    pub known : AreJudged s (shape_at s ns ks ids n) (entry_at ks n)

  -- all elements of which something is kept fit, but for those that wait
  abbrev pub AllFitBut : List ℕ → Type 0
  AllFitBut waiting = (n : ℕ) → IsMade ks n → Lacks n waiting → IsFit n

-- the parent of an element waits
abbrev pub AboveIn : Nodes → ℕ → List ℕ → Type 0
AboveIn ns n waiting = (p : ℕ) → parent_at ns n ≡ Some p → Has p waiting
