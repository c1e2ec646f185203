-- What is asked of a place among the children of an element: which names may stand there.
use Rattle.std.specs.Prelude.{◌≡◌, ◌≤◌, ℕ, zero, suc, List, [], ◌∷◌, length, nat_lt, take, drop, Option, None, Some, Result, Ok, Err, codes, if◌then◌else◌}
use Rattle.std.specs.Option.{option_and_then}
use Rattle.xs_names.specs.Names.{NameTable}
use Rattle.xs_components.specs.declared.common.TypeId.{TypeId}
use Rattle.tree_rows.specs.Forest.{Forest, none, text, element, Document}
use Rattle.tree_rows.specs.Kinds.{kind_of}
use Rattle.tree_rows.specs.declared.row.NodeKind.{NodeKind}
use Rattle.tree_rows.specs.declared.row.NodeKind.TheVariants as kinds
use Rattle.plain_tree.specs.Numbers.{name_in}
use Rattle.doc_nodes.specs.Nodes.{Nodes, node as node_at, children_by as children_of_node}
use Rattle.doc_changes.specs.Held.{kind_at}
use Rattle.tree_edits.specs.Edits.{Found, found, width}
use Rattle.content_automaton.specs.Terms.{ExpandedName, name_at}
use Rattle.assessment.specs.Attribution.{content_particle}
use Rattle.assessment.specs.Assessment.{Entry}
use Rattle.session_model.specs.Asking.{entry_at}
use Rattle.session_model.specs.State.{State}
use Rattle.kept_next.specs.Answers.{PlaceQuestion}
use Rattle.kept_next.specs.Place.{ListPlace, IsPlaceBy, children_in}
use Rattle.edit_session.specs.declared.around.AroundError.{AroundError}
use Rattle.edit_session.specs.declared.around.AroundError.TheVariants as errors

-- the node of the number is an element, and it has as many children
pub record IsPlaced (ns : Nodes) (node place : ℕ) : Type 0 where
  pub element : kind_at ns node ≡ Some kinds.Element
  pub within : place ≤ length (children_of_node (node_at ns node))

-- ---- refusals

abbrev pub number_of : AroundError → ℕ
number_of errors.UnknownNode = 1
number_of errors.NotElement = 2
number_of errors.BadIndex = 5
number_of errors.NoModel = 32
number_of errors.Memory = 13

-- as it is printed
abbrev pub name_of : AroundError → List ℕ
name_of errors.UnknownNode = codes "UnknownNode"
name_of errors.NotElement = codes "NotElement"
name_of errors.BadIndex = codes "BadIndex"
name_of errors.NoModel = codes "NoModel"
name_of errors.Memory = codes "Memory"

-- ---- the names of child elements

module _ (t : NameTable) where
  -- of the elements among siblings
  abbrev pub sibling_names : Forest → List ExpandedName
  sibling_names none = []
  sibling_names (text number chars next) = sibling_names next
  sibling_names (element number name bindings attributes children next) = name_at t (name_in t name) ∷ sibling_names next

  -- of those before the sibling of a place, where siblings are elements and texts
  abbrev pub names_before : ℕ → Forest → List ExpandedName
  names_before place none = []
  names_before zero (text number chars next) = []
  names_before (suc place) (text number chars next) = names_before place next
  names_before zero (element number name bindings attributes children next) = []
  names_before (suc place) (element number name bindings attributes children next) = name_at t (name_in t name) ∷ names_before place next

  -- and of those from it on
  abbrev pub names_behind : ℕ → Forest → List ExpandedName
  names_behind place none = []
  names_behind zero (text number chars next) = sibling_names (text number chars next)
  names_behind (suc place) (text number chars next) = names_behind place next
  names_behind zero (element number name bindings attributes children next) = sibling_names (element number name bindings attributes children next)
  names_behind (suc place) (element number name bindings attributes children next) = names_behind place next

-- ---- what is asked

abbrev pub children_below : Forest → Forest
children_below none = none
children_below (text number chars next) = none
children_below (element number name bindings attributes children next) = children

abbrev pub children_by : Option Found → Forest
children_by None = none
children_by (Some it) = children_below it.node

-- the children of the node of a number, elements and texts
abbrev pub children_at : Document → ℕ → Forest
children_at d node = children_by (found node 1 d.forest)

-- the governing type of the element of a number, if it has one
abbrev pub type_at : State → ℕ → Option TypeId
type_at s node = option_and_then (λ (e : Entry). e.governing.of) (entry_at node s.found)

module _ (s : State) (node place : ℕ) where
  -- by the content model of its type; simple and empty content has none, nor has the content of anyType (Structures 3.4.1, 3.4.7)
  abbrev pub asked_by : Option ℕ → Result PlaceQuestion AroundError
  asked_by None = Err errors.NoModel
  asked_by (Some p) = Ok (record {
    set = s.set;
    particle = p;
    before = names_before s.set.names place (children_at s.document node);
    behind = names_behind s.set.names place (children_at s.document node);
  })

  abbrev pub asked_of : Option NodeKind → Result PlaceQuestion AroundError
  asked_of None = Err errors.UnknownNode
  asked_of (Some kinds.Chars) = Err errors.NotElement
  asked_of (Some kinds.Element) = if nat_lt (width (children_at s.document node)) place then Err errors.BadIndex else asked_by (content_particle s.set.parts (type_at s node))

  -- which names may stand before the child at a place of the element of a number, by the content model of its governing type; or why there
  -- is no such place, as for an insertion, or no content model
  abbrev pub asked_at : Result PlaceQuestion AroundError
  asked_at = asked_of (kind_of node s.document.forest)

  -- it is this place of the list of the child elements
  pub record IsAroundAt (v : ListPlace) : Type 0 where
    pub question : PlaceQuestion
    pub asked_is : asked_at ≡ Ok question
    pub names : List ExpandedName
    pub place_is : IsPlaceBy v question.set question.particle names
    pub set_is : question.set ≡ s.set
    pub before_is : question.before ≡ take v.place names
    pub behind_is : question.behind ≡ drop v.place names
    pub few : children_in v.lists v.list ≤ width (children_at s.document node)
