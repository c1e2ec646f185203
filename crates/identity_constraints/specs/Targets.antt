-- Targets, field nodes and tuples of identity constraints: Structures 3.11.4, clauses 1 to 3.
use Rattle.std.specs.Prelude.{ℕ, ◌==◌, Bool, true, false, if◌then◌else◌, List, [], ◌∷◌, ◌++◌, Option, None, Some, map, filter, slice_get, unwrap_or}
use Rattle.std.specs.List.{flat_map, list_any}
use Rattle.std.specs.Option.{option_map, option_and_then}
use Rattle.xs_names.specs.Names.{NameTable}
use Rattle.simple_values.specs.Same.{key_value}
use Rattle.simple_values.specs.declared.key.Key.{Key}
use Rattle.simple_values.specs.declared.value.Value.{Value}
use Rattle.xs_components.specs.Tables.{Tables}
use Rattle.xs_components.specs.declared.common.TypeId.{TypeId}
use Rattle.xs_components.specs.declared.element.ElementDecl.{ElementDecl}
use Rattle.component_tables.specs.ContentTypes.{content_of}
use Rattle.component_tables.specs.declared.content_types.ContentType.{ContentType}
use Rattle.component_tables.specs.declared.content_types.ContentType.TheVariants.{SimpleType, Empty, SimpleContent, ElementOnly, Mixed}
use Rattle.xpath_subset.specs.Reaches.{ExpandedName, expanded_name}
use Rattle.xpath_subset.specs.Reached.{reached}
use Rattle.xpath_subset.specs.declared.path.Path.{Path}
use Rattle.xpath_subset.specs.declared.paths.IdentityPaths.{IdentityPaths}
use Rattle.identity_constraints.specs.Seen.{KeyAttribute, KeyElement, KeyForest, Reached, reached_from}

-- a node that a field reaches
pub data FieldNode : Type 0 where
  element_node : KeyElement → FieldNode
  attribute_node : KeyAttribute → FieldNode

module _ (names : NameTable) where
  abbrev pub expanded : List ℕ → List ExpandedName
  expanded way = map (expanded_name names) way

  -- 1: the target node set, what the selector reaches from an element
  abbrev pub is_target : List Path → Reached → Bool
  is_target selector r = reached selector (expanded r.way) None

  abbrev pub targets : List Path → KeyElement → KeyForest → List Reached
  targets selector own below = filter (is_target selector) (reached_from own below)

  -- 3: the nodes that a field reaches from a target: elements at or below it, and their attributes
  abbrev pub element_at : List Path → Reached → List FieldNode
  element_at field r = if reached field (expanded r.way) None then element_node r.own ∷ [] else []

  abbrev pub attribute_at : List Path → List ℕ → KeyAttribute → List FieldNode
  attribute_at field way a = if reached field (expanded way) (Some (expanded_name names a.name)) then attribute_node a ∷ [] else []

  abbrev pub nodes_at : List Path → Reached → List FieldNode
  nodes_at field r = element_at field r ++ flat_map (attribute_at field r.way) r.own.attributes

  unfoldable pub field_nodes : List Path → Reached → List FieldNode
  field_nodes field target = flat_map (nodes_at field) (reached_from target.own target.below)

-- the value of a node, if it has one
abbrev pub node_value : FieldNode → Option Value
node_value (element_node own) = own.value
node_value (attribute_node a) = a.value

-- the key of a field: the value of the only node; a node without a value is as none
abbrev pub field_key : List FieldNode → Option Key
field_key [] = None
field_key (node ∷ []) = option_map key_value (node_value node)
field_key (node ∷ other ∷ nodes) = None

abbrev pub with_key : Option Key → Option (List Key) → Option (List Key)
with_key None keys = None
with_key (Some key) None = None
with_key (Some key) (Some keys) = Some (key ∷ keys)

-- 3: the key-sequence, where each field has a key
abbrev pub key_sequence : List (List FieldNode) → Option (List Key)
key_sequence [] = Some []
key_sequence (nodes ∷ fields) = with_key (field_key nodes) (key_sequence fields)

-- a complex type without simple content
abbrev pub is_structured : ContentType → Bool
is_structured SimpleType = false
is_structured Empty = true
is_structured SimpleContent = false
is_structured ElementOnly = true
is_structured Mixed = true

module _ (t : Tables) where
  abbrev pub governs_structure : Option TypeId → Bool
  governs_structure None = false
  governs_structure (Some of) = is_structured (content_of t of)

  abbrev pub is_complex : FieldNode → Bool
  is_complex (element_node own) = governs_structure own.of
  is_complex (attribute_node a) = false

  -- 3: a field has several nodes, or one of a complex type without simple content
  abbrev pub is_misused : List FieldNode → Bool
  is_misused [] = false
  is_misused (node ∷ []) = is_complex node
  is_misused (node ∷ other ∷ nodes) = true

  abbrev pub declaration_of : KeyElement → Option ElementDecl
  declaration_of own = option_and_then (slice_get t.elements.parts) own.declaration

  abbrev pub declares_nillable : Option ElementDecl → Bool
  declares_nillable None = false
  declares_nillable (Some decl) = decl.nillable

  -- 4.2.3: an element whose declaration is nillable
  abbrev pub is_nillable : FieldNode → Bool
  is_nillable (element_node own) = declares_nillable (declaration_of own)
  is_nillable (attribute_node a) = false

  -- the identity constraints of an element, in the order of its declaration
  abbrev pub declared_constraints : Option ElementDecl → List ℕ
  declared_constraints None = []
  declared_constraints (Some decl) = decl.constraints

  abbrev pub constraints_of : KeyElement → List ℕ
  constraints_of own = declared_constraints (declaration_of own)

-- what a target comes to for a constraint: its key-sequence, where it is in the qualified node set; whether a field is misused; whether
-- a field has an element whose declaration is nillable
pub record Outcome : Type 0 where
  pub tuple : Option (List Key)
  pub misused : Bool
  pub nillable : Bool

abbrev pub no_paths : IdentityPaths
no_paths = record { selector = []; fields = [] }

abbrev pub paths_of : List IdentityPaths → ℕ → IdentityPaths
paths_of identities k = unwrap_or (slice_get identities k) no_paths

module _ (names : NameTable) (t : Tables) (identities : List IdentityPaths) where
  abbrev pub outcome_by : List (List FieldNode) → Outcome
  outcome_by fields = record {
    tuple = key_sequence fields;
    misused = list_any (is_misused t) fields;
    nillable = list_any (list_any (is_nillable t)) fields;
  }

  abbrev pub outcome_at : ℕ → Reached → Outcome
  outcome_at k target = outcome_by (map (λ field. field_nodes names field target) (paths_of identities k).fields)

  -- the constraint is one of the element
  abbrev pub has_constraint : ℕ → KeyElement → Bool
  has_constraint k own = list_any (λ other. other == k) (constraints_of t own)

  -- what the targets of a constraint of an element come to; an element has no targets for the constraints of others
  unfoldable pub outcomes : ℕ → KeyElement → KeyForest → List Outcome
  outcomes k own below = if has_constraint k own then map (outcome_at k) (targets names (paths_of identities k).selector own below) else []
