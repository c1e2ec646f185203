-- The prefixes in scope: Namespaces in XML 1.0, 6. A scope is its bindings, the latest first.
use Rattle.std.specs.Prelude.{ℕ, List, [], ◌∷◌, ◌==◌, Option, Some, None, length, slice_index_or, codes, if◌then◌else◌}
use Rattle.std.specs.Str.{bytes_eq}
use Rattle.xs_names.specs.Names.{NameTable, xml_name}
use Rattle.tree_rows.specs.declared.row.Binding.{Binding}

-- outside of all elements the prefix xml alone is bound (Namespaces in XML 1.0, 3)
abbrev pub first_scope : List Binding
first_scope = record { prefix = codes "xml"; namespace = xml_name } ∷ []

-- a binding to a numbered namespace, by the namespace's name
abbrev pub binding_in : NameTable → List ℕ × ℕ → Binding
binding_in names bound = record { prefix = bound.0; namespace = slice_index_or names.spaces bound.1 [] }

-- the name of the namespace that the latest binding of the prefix gives; the default namespace has the empty prefix
abbrev pub of_prefix : List Binding → List ℕ → Option (List ℕ)
of_prefix [] prefix = None
of_prefix (b ∷ scope) prefix = if bytes_eq b.prefix prefix then Some b.namespace else of_prefix scope prefix

-- the bindings that come before a scope, if there are any
abbrev pub own_of : Option (List Binding) → List Binding
own_of None = []
own_of (Some own) = own

-- a namespace by its name; the empty name is that of the absent one (Namespaces in XML 1.0, 6.2)
abbrev pub namespace_named : List ℕ → Option (List ℕ)
namespace_named name = if length name == 0 then None else Some name

abbrev pub namespace_by : Option (List ℕ) → Option (List ℕ)
namespace_by None = None
namespace_by (Some name) = namespace_named name

-- the namespace of an element's name: of its prefix, or the default namespace
abbrev pub element_space : List Binding → Option (List ℕ) → Option (List ℕ)
element_space scope None = namespace_by (of_prefix scope [])
element_space scope (Some prefix) = namespace_by (of_prefix scope prefix)

-- the namespace of an attribute's name: the default namespace is not given to it (Namespaces in XML 1.0, 6.2)
abbrev pub attribute_space : List Binding → Option (List ℕ) → Option (List ℕ)
attribute_space scope None = None
attribute_space scope (Some prefix) = namespace_by (of_prefix scope prefix)
