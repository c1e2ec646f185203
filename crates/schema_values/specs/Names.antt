-- Names that attributes refer to by QNames (Structures 3.15.3).
use Rattle.std.specs.Prelude.{ℕ, Bool, List, [], ◌∷◌, Option, Some, None, is_some, if◌then◌else◌}
use Rattle.std.specs.List.{list_all}
use Rattle.xs_names.specs.QName.{qname}
use Rattle.tag_names.specs.Scopes.{of_prefix, element_space}
use Rattle.tree_rows.specs.declared.name.Expanded.{Expanded}
use Rattle.tree_rows.specs.declared.row.Binding.{Binding}

-- the name that a QName gives where its prefix is bound; without a prefix it is in the default namespace
abbrev pub bound_name : List Binding → Option (List ℕ) × List ℕ → Option Expanded
bound_name scope (None, local) = Some (record { namespace = element_space scope None; local = local })
bound_name scope (Some prefix, local) =
    if is_some (of_prefix scope prefix) then Some (record { namespace = element_space scope (Some prefix); local = local }) else None

abbrev pub qname_by : List Binding → Option (Option (List ℕ) × List ℕ) → Option Expanded
qname_by scope None = None
qname_by scope (Some parts) = bound_name scope parts

abbrev pub qname_of : List Binding → List ℕ → Option Expanded
qname_of scope text = qname_by scope (qname text)

-- the words are QNames whose prefixes are bound
abbrev pub are_qnames : List Binding → List (List ℕ) → Bool
are_qnames scope words = list_all (λ word. is_some (qname_of scope word)) words

-- the names that QNames give, those that give none left out
abbrev pub with_name : Option Expanded → List Expanded → List Expanded
with_name None names = names
with_name (Some name) names = name ∷ names

abbrev pub names_in : List Binding → List (List ℕ) → List Expanded
names_in scope [] = []
names_in scope (word ∷ words) = with_name (qname_of scope word) (names_in scope words)
