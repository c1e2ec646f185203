-- An element that is judged by what is kept of it and of its child elements.
use Rattle.std.specs.Prelude.{◌≡◌, ℕ, List, Option, Some, map, slice_get}
use Rattle.xs_components.specs.declared.common.TypeId.{TypeId}
use Rattle.assess_records.specs.Counts.{counts_of}
use Rattle.assess_records.specs.Numbered.{Head, shape_of}
use Rattle.assess_records.specs.declared.shape.ElementShape.{ElementShape}
use Rattle.elem_governing.specs.Governing.{govern_root, govern_child}
use Rattle.elem_governing.specs.declared.pairs.Governing.{Governing}
use Rattle.elem_governing.specs.Again.{regoverned}
use Rattle.assessment.specs.Attribution.{SchemaSet}
use Rattle.assessment.specs.Assessment.{AreJudged}
use Rattle.compiled_schema.specs.Usable.{set_of}
use Rattle.compiled_schema.specs.declared.compiled.Compiled.{Compiled}
use Rattle.model_terms.specs.Symbols.{child_symbols}
use Rattle.model_terms.specs.Terms.{stuck_in, term_in}
use Rattle.doc_nodes.specs.Nodes.{Nodes, element_children}
use Rattle.doc_changes.specs.Readers.{name_at, own_chars}
use Rattle.doc_readers.specs.Heads.{texts_named}
use Rattle.kept_state.specs.from_kept_records.KeptElement.{KeptElement}
use Rattle.kept_state.specs.from_kept_records.Slots.{IsMade, kept_at, entry_at, pair_at, record_at}
use Rattle.kept_state.specs.from_kept_records.Fit.{models_of, root_codes, IsListed, head_at, bearer_at}
use Rattle.kept_state.specs.Kept.{children_of, Rewrites}
use Rattle.kept_state.specs.declared.children.KeptChildren.{KeptChildren}
use Rattle.kept_state.specs.declared.state.KeptState.{KeptState}

-- ---- what governs an element (Structures 3.3.4, 3.4.4, 5.2)

-- with this head: the root; a child of an element that is governed so, which is attributed to the term; one that was governed so before
module _ (s : SchemaSet) where
  abbrev pub root_pair : Head → Governing
  root_pair h = govern_root s.names s.parts h.name h.xsi h.scope

  abbrev pub given_pair : Governing → Option ℕ → Head → Governing
  given_pair parent term h = govern_child s.names s.parts parent.mode term h.name h.xsi h.scope

  abbrev pub again_pair : Governing → Head → Governing
  again_pair was h = regoverned s.names s.parts was h.xsi h.scope

-- ---- its child elements

module _ (c : Compiled) (ns : Nodes) where
  -- the symbols of the names of its child elements, by the content model of a type
  abbrev pub symbols_by : Option TypeId → ℕ → List ℕ
  symbols_by of n = child_symbols c.names (models_of c of) (map (name_at ns) (element_children ns n))

  -- what governs the element at a place among the child elements of one that is governed so
  abbrev pub pair_by : Governing → ℕ → ℕ → ℕ → Governing
  pair_by pair n place child = given_pair (set_of c) pair (term_in (models_of c pair.of) (symbols_by pair.of n) place) (head_at (set_of c) ns child)

  -- so is the child element at the place, of which something is kept
  pub record IsGivenBy (k : KeptState) (pair : Governing) (n place child : ℕ) : Type 0 where
    pub made : IsMade k.records.slots child
    pub pair_is : pair_at k.records.slots child ≡ pair_by pair n place child

  -- what is kept of the child elements of an element is this, where it is governed so
  pub record AreChildren (k : KeptState) (n : ℕ) (pair : Governing) (children : KeptChildren) : Type 0 where
    pub given : (place child : ℕ) → slice_get (element_children ns n) place ≡ Some child → IsGivenBy k pair n place child
    pub list_is : IsListed k.lists (models_of c pair.of) children.list (symbols_by pair.of n)
    pub stuck_is : children.stuck ≡ stuck_in (models_of c pair.of) (symbols_by pair.of n)
    pub counts_are : children.counts ≡ counts_of (map (record_at k.records.slots) (element_children ns n))

-- ---- what is found out about it (Structures 3.3.4, 3.3.5, 3.4.4)

-- what an element has to show, where this is kept of its child elements
abbrev pub shape_with : SchemaSet → Nodes → KeptState → ℕ → KeptChildren → ElementShape
shape_with s ns k n children =
    shape_of (head_at s ns n) (texts_named ns n) (own_chars ns n) children.stuck children.counts (kept_at k.records.slots n).identity (root_codes k.root_ids n)

-- what is kept of an element by itself is right, by this of its child elements
pub record IsJudgedBy (s : SchemaSet) (ns : Nodes) (k : KeptState) (n : ℕ) (children : KeptChildren) : Type 0 where
  pub number_is : (kept_at k.records.slots n).found.number ≡ n
  pub bearer_is : (kept_at k.records.slots n).found.bearer ≡ bearer_at ns n
  pub text_is : (kept_at k.records.slots n).text ≡ own_chars ns n
  pub known : AreJudged s (shape_with s ns k n children) (entry_at k.records.slots n)

-- an element is kept anew: governed so, with this of its child elements, and judged by it; nothing else is kept otherwise
pub record IsJudgedAnew (c : Compiled) (ns : Nodes) (old new : KeptState) (n : ℕ) (pair : Governing) (children : KeptChildren) : Type 0 where
  pub kept : KeptElement
  pub rewrites : Rewrites old new n (Some kept)
  pub pair_is : kept.found.governing ≡ pair
  pub children_are : children_of kept ≡ children
  pub identity_is : kept.identity ≡ (kept_at old.records.slots n).identity
  pub judged : IsJudgedBy (set_of c) ns new n children
