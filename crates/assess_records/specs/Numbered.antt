-- The names of a document by their numbers in the table of names of a schema set, and what its elements have to show.
use Rattle.std.specs.Prelude.{ℕ, List, [], ◌∷◌, ◌++◌, map, reverse, Option, None, Some, unwrap_or}
use Rattle.xs_names.specs.Names.{NameTable, absent_space, space_number}
pub use Rattle.plain_tree.specs.Numbers.{space_in, name_in}
use Rattle.xs_codes.specs.declared.fault.Found.{Found}
use Rattle.tree_rows.specs.Forest.{Forest, none, text, element}
use Rattle.tree_rows.specs.declared.name.Expanded.{Expanded}
use Rattle.tree_rows.specs.declared.row.Attribute.{Attribute}
use Rattle.tree_rows.specs.declared.row.Binding.{Binding}
use Rattle.assess_records.specs.declared.counts.ChildCounts.{ChildCounts}
use Rattle.assess_records.specs.declared.shape.ElementShape.{ElementShape}
use Rattle.assess_records.specs.declared.shape.NamedText.{NamedText}
use Rattle.assess_records.specs.Instance.{instance_text}
use Rattle.assess_records.specs.declared.instance_names.InstanceAttribute.TheVariants.{TypeName}

-- the prefixes in scope with the numbers of their namespaces, the latest first
abbrev pub Scope : Type 0
Scope = List (List ℕ × ℕ)

module _ (names : NameTable) where
  abbrev pub named_text : Attribute → NamedText
  named_text attribute = record { name = name_in names attribute.name; text = attribute.value }

  -- the attributes of an element, by the numbers of their names
  abbrev pub named_texts : List Attribute → List NamedText
  named_texts attributes = map named_text attributes

  abbrev pub bound : Binding → List ℕ × ℕ
  bound binding = (binding.prefix, unwrap_or (space_number names binding.namespace) absent_space)

  -- the scope in an element with these bindings (Namespaces in XML 1.0, 6.1)
  abbrev pub scope_in : List Binding → Scope → Scope
  scope_in bindings scope = reverse (map bound bindings) ++ scope

-- what governs an element goes by: the number of its name, the text of xsi:type, and its scope
pub record Head : Type 0 where
  pub name : ℕ
  pub xsi : Option (List ℕ)
  pub scope : Scope

module _ (names : NameTable) where
  abbrev pub head_of : Scope → Expanded → List Binding → List Attribute → Head
  head_of scope name bindings attributes = record {
    name = name_in names name;
    xsi = instance_text names (named_texts names attributes) TypeName;
    scope = scope_in names bindings scope;
  }

  -- those of the elements among siblings
  abbrev pub heads : Scope → Forest → List Head
  heads scope none = []
  heads scope (text number chars next) = heads scope next
  heads scope (element number name bindings attributes children next) = head_of scope name bindings attributes ∷ heads scope next

abbrev pub names_of : List Head → List ℕ
names_of hs = map (λ (h : Head). h.name) hs

-- the characters of the texts among siblings, one after another
abbrev pub characters : Forest → List ℕ
characters none = []
characters (text number chars next) = chars ++ characters next
characters (element number name bindings attributes children next) = characters next

-- what an element has to show: its head and its attributes, its characters, the place where its child elements get stuck, how many
-- of them are of each kind, and the codes of identity constraints and of ids
abbrev pub shape_of : Head → List NamedText → List ℕ → Option ℕ → ChildCounts → List Found → List Found → ElementShape
shape_of h attrs chars stuck counts identity ids = record {
  name = h.name;
  attrs = attrs;
  text = chars;
  scope = h.scope;
  stuck = stuck;
  identity = identity;
  ids = ids;
  counts = counts;
}
