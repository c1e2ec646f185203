-- The elements that are open, and the scopes in which names stand (Namespaces in XML 1.0, 6).
use Rattle.std.specs.Prelude.{ℕ, List, [], ◌∷◌, ◌++◌, Bool, false}
use Rattle.std.specs.Str.{bytes_eq}
use Rattle.tree_rows.specs.declared.row.Binding.{Binding}

-- an element by its name as it is written, and the scope of what it holds
pub record OpenElement : Type 0 where
  pub name : List ℕ
  pub scope : List Binding

-- the open elements, the innermost first, and the scope outside of all of them
pub record Opened : Type 0 where
  pub outer : List Binding
  pub elements : List OpenElement

abbrev pub scope_below : List Binding → List OpenElement → List Binding
scope_below outer [] = outer
scope_below outer (element ∷ elements) = element.scope

-- the scope of what comes next
abbrev pub scope_in : Opened → List Binding
scope_in nest = scope_below nest.outer nest.elements

-- with another element, which has these bindings
abbrev pub opened : Opened → List ℕ → List Binding → Opened
opened nest name bindings = record nest { elements = record { name = name; scope = bindings ++ scope_in nest } ∷ nest.elements }

-- an end of this name closes the innermost element
abbrev pub closes : List ℕ → List OpenElement → Bool
closes end [] = false
closes end (element ∷ elements) = bytes_eq element.name end

abbrev pub without_first : List OpenElement → List OpenElement
without_first [] = []
without_first (element ∷ elements) = elements

-- without the innermost element
abbrev pub closed : Opened → Opened
closed nest = record nest { elements = without_first nest.elements }
