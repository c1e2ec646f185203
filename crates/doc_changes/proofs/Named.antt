-- The names of what stands for a document are in the table, under their numbers.
use Rattle.std.proofs.Common.{◌≡◌, ℕ, ◌<◌, List, [], ◌∷◌, map, length, sym, ap, ◌∙◌, subst, Bool, true, false, ◌==◌, if◌then◌else◌, Option, Some, None, refl, All}
use Rattle.std.specs.Prelude.{IsSome, slice_get, slice_index_or, unwrap_or, bytes_eq}
use Rattle.std.proofs.lemmas.Bool.{eqb-true}
use Rattle.std.proofs.lemmas.Option.{slice_get-get_or}
use Rattle.std.proofs.lemmas.List.Elements.{All-head, All-tail}
use Rattle.std.proofs.lemmas.Slice.Eq.{bytes_eq-Decides}
use Rattle.xs_names.specs.Names.{NameTable, Grown, IsSound, absent_space, same_name, space_of, local_of, space_number, name_number}
use Rattle.xs_names.proofs.NumberingLaws.{same_name-Decides, number_of-slice_get}
use Rattle.tree_rows.specs.Forest.{Forest, none, text, element, Document}
use Rattle.tree_rows.specs.declared.name.Expanded.{Expanded}
use Rattle.tree_rows.specs.declared.row.Attribute.{Attribute}
use Rattle.tree_rows.specs.declared.row.Binding.{Binding}
use Rattle.plain_tree.specs.Numbers.{space_in, name_in}
use Rattle.plain_tree.specs.Found.{HasSpace, HasName, HasBindings, HasAttributes, HasTag, HasNames}
use Rattle.plain_tree.proofs.Numbers.{there_by, else_number}
use Rattle.doc_nodes.specs.Nodes.{Nodes}
use Rattle.doc_nodes.specs.declared.content.NameAttribute.{NameAttribute}
use Rattle.doc_nodes.specs.declared.content.NameBinding.{NameBinding}
use Rattle.doc_changes.specs.Stands.{namespace_of, expanded_of, attribute_of, binding_of, IsElement, StandFor, StandsFor}
use Rattle.doc_changes.proofs.Standing.{stand_grown}

module _ (t : NameTable) (sound : IsSound t) where
  -- a namespace of the table by its name
  pub numbered_space : (n : ℕ) → n < length t.spaces → space_number t (slice_index_or t.spaces n []) ≡ Some n
  numbered_space n l = number_of-slice_get bytes_eq bytes_eq-Decides t.spaces sound.spaces_once (slice_index_or t.spaces n []) n (slice_get-get_or t.spaces n [] l)

  pub space_back : (n : ℕ) → n < length t.spaces → (space_in t (namespace_of t n) ≡ n) × HasSpace t (namespace_of t n)
  space_back n l =
      elim (n == absent_space) as (λ b. (n == absent_space) ≡ b
      → (space_in t (if b then None else Some (slice_index_or t.spaces n [])) ≡ n) × HasSpace t (if b then None else Some (slice_index_or t.spaces n []))) [
        | true ↦ λ q. (sym (eqb-true n absent_space q), tt)
        | false ↦ λ q. (else_number (space_number t (slice_index_or t.spaces n [])) absent_space n (numbered_space n l), there_by _ n (numbered_space n l))
      ] refl

  module _ (n : ℕ) (l : n < length t.names) where
    at_number : slice_get t.names n ≡ Some (space_of t n, local_of t n)
    at_number = slice_get-get_or t.names n (0, []) l

    pub space_within : space_of t n < length t.spaces
    space_within = sound.within n (space_of t n) (local_of t n) at_number

    pub numbered_name : name_number t (space_of t n) (local_of t n) ≡ Some n
    numbered_name = number_of-slice_get same_name same_name-Decides t.names sound.names_once (space_of t n, local_of t n) n at_number

    back : name_number t (space_in t (namespace_of t (space_of t n))) (local_of t n) ≡ Some n
    back = ap (λ s. name_number t s (local_of t n)) (space_back (space_of t n) space_within).0 ∙ numbered_name

    pub name_back : name_in t (expanded_of t n) ≡ n
    name_back = else_number (name_number t (space_in t (namespace_of t (space_of t n))) (local_of t n)) 0 n back

    pub has_number : HasName t (expanded_of t n)
    has_number = record { space = (space_back (space_of t n) space_within).1; number = there_by _ n back }

  has_attributes : (xs : List NameAttribute) → All (λ a. a.name < length t.names) xs → HasAttributes t (map (attribute_of t) xs)
  has_attributes [] a = tt
  has_attributes (x ∷ xs) a =
      let P : NameAttribute → Type 0 = λ b. b.name < length t.names in
      (has_number x.name (All-head P x xs a), has_attributes xs (All-tail P x xs a))

  has_bindings : (xs : List NameBinding) → All (λ b. b.namespace < length t.spaces) xs → HasBindings t (map (binding_of t) xs)
  has_bindings [] a = tt
  has_bindings (x ∷ xs) a =
      let P : NameBinding → Type 0 = λ b. b.namespace < length t.spaces in
      (there_by _ x.namespace (numbered_space x.namespace (All-head P x xs a)), has_bindings xs (All-tail P x xs a))

  pub has_tag : (ns : Nodes) (number : ℕ) (name : Expanded) (bindings : List Binding) (attributes : List Attribute) (children : Forest) → IsElement t ns number name bindings attributes children
      → HasTag t name bindings attributes
  has_tag ns number name bindings attributes children s = record {
    own = subst (HasName t) s.name_is (has_number s.parts.name s.known.name);
    spaces = subst (HasBindings t) s.bindings_are (has_bindings s.parts.bindings s.known.bindings);
    names = subst (HasAttributes t) s.attributes_are (has_attributes s.parts.attributes s.known.attributes);
  }

  pub has_names : (ns : Nodes) (f : Forest) → StandFor t ns f → HasNames t f
  has_names ns none s = tt
  has_names ns (text number chars next) s = has_names ns next s.1
  has_names ns (element number name bindings attributes children next) s =
      (has_tag ns number name bindings attributes children s.0, has_names ns children s.1, has_names ns next s.2)

-- where the table grows
pub stands_grown : (t u : NameTable) (ns : Nodes) (d : Document) → Grown t u → IsSound u → StandsFor t ns d → StandsFor u ns d
stands_grown t u ns d g sound s = record {
  table = sound;
  links = s.links;
  tree = s.tree;
  nodes = stand_grown t u g s.table ns d.forest s.nodes;
  root = s.root;
  only = s.only;
  next = s.next;
}
