-- The prefixes in scope in the elements of a document (Namespaces in XML 1.0, 6). An element with bindings opens a scope: its own
-- bindings, and behind them those in scope in the nearest element above that has bindings. Elements come here the latest first.
use Rattle.std.specs.Prelude.{ℕ, suc, ◌+◌, ◌==◌, ◌&&◌, Bool, true, false, List, [], ◌∷◌, ◌++◌, Some, if◌then◌else◌}
use Rattle.tree_rows.specs.declared.row.Binding.{Binding}
use Rattle.xs_names.specs.Names.{NameTable}
use Rattle.xs_names.specs.Scope.{first_scope}
use Rattle.schema_shape.specs.declared.forms.Shape.{Shape}
use Rattle.representations.specs.Naming.{space_in}

abbrev pub has_some : List Binding → Bool
has_some [] = false
has_some (binding ∷ bindings) = true

abbrev pub opens : Shape → Bool
opens shape = has_some shape.bindings

-- bindings before those of a scope; in one element no prefix is bound twice
abbrev pub bound : NameTable → List Binding → List (List ℕ × ℕ) → List (List ℕ × ℕ)
bound t [] scope = scope
bound t (binding ∷ bindings) scope = bound t bindings ((binding.prefix, space_in t (Some binding.namespace)) ∷ scope)

-- the element has this number, and opens a scope
abbrev pub is_opener : ℕ → Shape → Bool
is_opener item shape = opens shape && shape.item == item

-- the scope that the element of this number opens; that outside of all elements where none of them does
abbrev pub scope_of : NameTable → List Shape → ℕ → List (List ℕ × ℕ)
scope_of t [] item = first_scope
scope_of t (shape ∷ before) item = if is_opener item shape then bound t shape.bindings (scope_of t before shape.above) else scope_of t before item

-- how many scopes these elements open
abbrev pub openings : List Shape → ℕ
openings [] = 0
openings (shape ∷ before) = if opens shape then suc (openings before) else openings before

-- The place of the scope that the element of this number opens: first is that outside of all elements, then come those of other
-- documents, and from a place on those of this document, in order.
abbrev pub scope_place : ℕ → List Shape → ℕ → ℕ
scope_place first [] item = 0
scope_place first (shape ∷ before) item = if is_opener item shape then first + openings before else scope_place first before item

-- the scopes that these elements open, in order
abbrev pub scopes_in : NameTable → List Shape → List (List (List ℕ × ℕ))
scopes_in t [] = []
scopes_in t (shape ∷ before) = scopes_in t before ++ (if opens shape then bound t shape.bindings (scope_of t before shape.above) ∷ [] else [])
