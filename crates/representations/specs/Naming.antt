-- How the names in schema documents are meant, and tables with them. A name that is in a table keeps its number there.
use Rattle.std.specs.Prelude.{◌≡◌, ℕ, Bool, true, false, List, [], ◌∷◌, Option, None, Some, if◌then◌else◌, is_some, not}
use Rattle.std.specs.Option.{unwrap_or}
use Rattle.tree_rows.specs.declared.name.Expanded.{Expanded}
use Rattle.xs_names.specs.Names.{NameTable, absent_space, space_number, name_number, with_space, with_name, Grown}
use Rattle.schema_shape.specs.declared.forms.Form.{Form}
use Rattle.schema_shape.specs.declared.forms.Form.TheVariants as forms
use Rattle.schema_shape.specs.declared.forms.SchemaForm.{SchemaForm}
use Rattle.schema_shape.specs.declared.forms.Shape.{Shape}
use Rattle.representations.specs.declared.naming.Naming.{Naming}

-- the absent namespace has the empty name (Namespaces in XML 1.0, 6.2)
abbrev pub space_text : Option (List ℕ) → List ℕ
space_text None = []
space_text (Some space) = space

abbrev pub with_space_of : NameTable → Option (List ℕ) → NameTable
with_space_of t space = with_space t (space_text space)

abbrev pub space_in : NameTable → Option (List ℕ) → ℕ
space_in t space = unwrap_or (space_number t (space_text space)) absent_space

-- the table with an expanded name
abbrev pub with_expanded : NameTable → Option (List ℕ) → List ℕ → NameTable
with_expanded t space local = with_name (with_space_of t space) (space_in (with_space_of t space) space) local

-- Structures 3.15.2: the defaults of a document. Structures 4.2.1: one that has no target of its own takes that of the document
-- that includes it, and so do the names in it that have no namespace.
abbrev pub naming_by : Option (List ℕ) → SchemaForm → Naming
naming_by target form = record {
  target = target;
  adopts = not (is_some form.target);
  elements_qualified = unwrap_or form.elements_qualified false;
  attributes_qualified = unwrap_or form.attributes_qualified false;
}

abbrev pub plain_naming : Option (List ℕ) → Naming
plain_naming target = record { target = target; adopts = false; elements_qualified = false; attributes_qualified = false }

abbrev pub naming_in : Option (List ℕ) → Form → Naming
naming_in target (forms.Schema form) = naming_by target form
naming_in target _ = plain_naming target

abbrev pub naming_of : Option (List ℕ) → List Shape → Naming
naming_of target [] = plain_naming target
naming_of target (shape ∷ shapes) = naming_in target shape.form

abbrev pub declared_space : Naming → Bool → Option (List ℕ)
declared_space naming true = naming.target
declared_space naming false = None

-- the table with the name of a declaration that is in the target namespace or in none
abbrev pub with_declared : Naming → Bool → Option (List ℕ) → NameTable → NameTable
with_declared naming in_target None t = t
with_declared naming in_target (Some local) t = with_expanded t (declared_space naming in_target) local

abbrev pub with_global : Naming → List ℕ → NameTable → NameTable
with_global naming local t = with_expanded t naming.target local

-- the namespace of a name that is referred to
abbrev pub referred_space : Naming → Option (List ℕ) → Option (List ℕ)
referred_space naming (Some space) = Some space
referred_space naming None = if naming.adopts then naming.target else None

abbrev pub with_reference : Naming → Expanded → NameTable → NameTable
with_reference naming name t = with_expanded t (referred_space naming name.namespace) name.local

abbrev pub with_reference_if : Naming → Option Expanded → NameTable → NameTable
with_reference_if naming None t = t
with_reference_if naming (Some name) t = with_reference naming name t

-- the number of a name in a table
abbrev pub name_in : NameTable → Option (List ℕ) → List ℕ → ℕ
name_in t space local = unwrap_or (name_number t (space_in t space) local) 0

-- the numbers of names of declarations, and of names that are referred to
abbrev pub declared_number : NameTable → Naming → Bool → Option (List ℕ) → Option ℕ
declared_number t naming in_target None = None
declared_number t naming in_target (Some local) = Some (name_in t (declared_space naming in_target) local)

abbrev pub reference_number : NameTable → Naming → Expanded → ℕ
reference_number t naming name = name_in t (referred_space naming name.namespace) name.local

abbrev pub reference_number_if : NameTable → Naming → Option Expanded → Option ℕ
reference_number_if t naming None = None
reference_number_if t naming (Some name) = Some (reference_number t naming name)

-- A number that a table gives is the same in each that has grown from it, so the numbers that are found while names come are those
-- of the table in the end.
abbrev pub IsSpaceNumber : NameTable → Option (List ℕ) → ℕ → Type 0
IsSpaceNumber t space n = (later : NameTable) → Grown t later → n ≡ space_in later space

abbrev pub IsNumber : NameTable → Option (List ℕ) → List ℕ → ℕ → Type 0
IsNumber t space local n = (later : NameTable) → Grown t later → n ≡ name_in later space local

abbrev pub IsDeclared : NameTable → Naming → Bool → Option (List ℕ) → Option ℕ → Type 0
IsDeclared t naming in_target local n = (later : NameTable) → Grown t later → n ≡ declared_number later naming in_target local

abbrev pub IsReferred : NameTable → Naming → Expanded → ℕ → Type 0
IsReferred t naming name n = (later : NameTable) → Grown t later → n ≡ reference_number later naming name

abbrev pub IsReferredIf : NameTable → Naming → Option Expanded → Option ℕ → Type 0
IsReferredIf t naming name n = (later : NameTable) → Grown t later → n ≡ reference_number_if later naming name
