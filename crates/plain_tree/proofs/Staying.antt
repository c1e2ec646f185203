-- A table that has the names of a tree is the table with these names in it.
use Rattle.std.proofs.Common.{◌≡◌, ℕ, List, [], ◌∷◌, sym, ap, ◌∙◌, Option, Some, None, refl}
use Rattle.std.specs.Prelude.{IsSome, bytes_eq}
use Rattle.std.proofs.lemmas.Slice.Eq.{bytes_eq-Decides}
use Rattle.xs_names.specs.Names.{NameTable, same_name, space_number, name_number, with_space, with_name}
use Rattle.xs_names.proofs.NumberingLaws.{same_name-Decides, with_item-old}
use Rattle.tree_rows.specs.Forest.{Forest, none, text, element}
use Rattle.tree_rows.specs.declared.name.Expanded.{Expanded}
use Rattle.tree_rows.specs.declared.row.Attribute.{Attribute}
use Rattle.tree_rows.specs.declared.row.Binding.{Binding}
use Rattle.plain_tree.specs.Numbers.{space_in}
use Rattle.plain_tree.specs.Table.{with_namespace, with_local, with_expanded, with_bindings, with_attributes, with_tag, document_table}
use Rattle.plain_tree.specs.Found.{HasSpace, HasName, HasBindings, HasAttributes, HasTag, HasNames}
use Rattle.plain_tree.proofs.Numbers.{number_there}

pub space_stays : (t : NameTable) (space : List ℕ) → IsSome (space_number t space) → with_space t space ≡ t
space_stays t space h =
    let p = number_there (space_number t space) h in
    ap (λ xs. record t { spaces = xs }) (with_item-old bytes_eq bytes_eq-Decides t.spaces space p.0 p.1)

pub name_stays : (t : NameTable) (space : ℕ) (local : List ℕ) → IsSome (name_number t space local) → with_name t space local ≡ t
name_stays t space local h =
    let p = number_there (name_number t space local) h in
    ap (λ xs. record t { names = xs }) (with_item-old same_name same_name-Decides t.names (space, local) p.0 p.1)

namespace_stays : (t : NameTable) (space : Option (List ℕ)) → HasSpace t space → with_namespace t space ≡ t
namespace_stays t None h = refl
namespace_stays t (Some space) h = space_stays t space h

pub expanded_stays : (t : NameTable) (name : Expanded) → HasName t name → with_expanded t name ≡ t
expanded_stays t name h =
    ap (λ u. with_local u name) (namespace_stays t name.namespace h.space) ∙ name_stays t (space_in t name.namespace) name.local h.number

pub bindings_stay : (t : NameTable) (bindings : List Binding) → HasBindings t bindings → with_bindings t bindings ≡ t
bindings_stay t [] h = refl
bindings_stay t (b ∷ bindings) h = ap (λ u. with_bindings u bindings) (space_stays t b.namespace h.0) ∙ bindings_stay t bindings h.1

pub attributes_stay : (t : NameTable) (attributes : List Attribute) → HasAttributes t attributes → with_attributes t attributes ≡ t
attributes_stay t [] h = refl
attributes_stay t (a ∷ attributes) h = ap (λ u. with_attributes u attributes) (expanded_stays t a.name h.0) ∙ attributes_stay t attributes h.1

pub tag_stays : (t : NameTable) (name : Expanded) (bindings : List Binding) (attributes : List Attribute) → HasTag t name bindings attributes → with_tag t name bindings attributes ≡ t
tag_stays t name bindings attributes h =
    ap (λ u. with_attributes (with_expanded u name) attributes) (bindings_stay t bindings h.spaces)
    ∙ ap (λ u. with_attributes u attributes) (expanded_stays t name h.own)
    ∙ attributes_stay t attributes h.names

pub names_stay : (t : NameTable) (f : Forest) → HasNames t f → document_table t f ≡ t
names_stay t none h = refl
names_stay t (text number chars next) h = names_stay t next h
names_stay t (element number name bindings attributes children next) h =
    ap (λ u. document_table (document_table u children) next) (tag_stays t name bindings attributes h.0)
    ∙ ap (λ u. document_table u next) (names_stay t children h.1)
    ∙ names_stay t next h.2
