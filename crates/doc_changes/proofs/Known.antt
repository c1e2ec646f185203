-- A table that has the names of what is planted stays as it is.
use Rattle.std.proofs.Common.{◌≡◌, ℕ, zero, suc, ◌+◌, ◌<◌, List, [], ◌∷◌, ◌++◌, length, take, get_or, sym, ap, ◌∙◌, subst, Option, Some, None, refl, arith}
use Rattle.std.specs.Prelude.{IsSome, bytes_eq, ◌↔◌}
use Rattle.std.proofs.lemmas.Slice.Eq.{bytes_eq-Decides}
use Rattle.xs_names.specs.Names.{NameTable, IsSound, first_spaces, absent_space, space_number, with_space, with_name}
use Rattle.xs_names.proofs.NumberingLaws.{number_of-slice_get, slice_get-Begins}
use Rattle.tree_rows.specs.Forest.{Forest, none, text, element}
use Rattle.tree_rows.specs.Rows.{node as node_of}
use Rattle.tree_rows.specs.declared.name.Expanded.{Expanded}
use Rattle.tree_rows.specs.declared.row.Attribute.{Attribute}
use Rattle.tree_rows.specs.declared.row.Binding.{Binding}
use Rattle.tree_rows.specs.declared.row.Content.{Content}
use Rattle.tree_rows.specs.declared.row.Content.TheVariants as rows
use Rattle.tree_rows.specs.declared.row.Row.{Row}
use Rattle.plain_tree.specs.Numbers.{space_in}
use Rattle.plain_tree.specs.Found.{HasSpace, HasName, HasBindings, HasAttributes, HasTag, HasNames}
use Rattle.plain_tree.proofs.Numbers.{there_by, else_number}
use Rattle.plain_tree.proofs.Staying.{space_stays, name_stays}
use Rattle.doc_changes.specs.Named.{space_text}
use Rattle.doc_changes.specs.inside.Growing.{one_of}

text_stays : (t : NameTable) → IsSound t → (o : Option (List ℕ)) → HasSpace t o → with_space t (space_text o) ≡ t
text_stays t sound None h =
    space_stays t [] (there_by (space_number t []) 0 (number_of-slice_get bytes_eq bytes_eq-Decides t.spaces sound.spaces_once [] 0 (slice_get-Begins first_spaces t.spaces sound.begins 0 [] refl)))
text_stays t sound (Some space) h = space_stays t space h

number_in : (t : NameTable) (o : Option (List ℕ)) (ns : ℕ) → space_number t (space_text o) ≡ Some ns → ((ns ≡ absent_space) ↔ (space_text o ≡ [])) → ns ≡ space_in t o
number_in t None ns e absent = absent.1 refl
number_in t (Some space) ns e absent = sym (else_number (space_number t space) absent_space ns e)

pub space_known : (t u : NameTable) (name : Expanded) → IsSound t → HasName t name → u ≡ with_space t (space_text name.namespace) → u ≡ t
space_known t u name sound h e = e ∙ text_stays t sound name.namespace h.space

pub name_known : (t u w : NameTable) (ns : ℕ) (name : Expanded) → HasName t name → u ≡ t → space_number u (space_text name.namespace) ≡ Some ns
    → ((ns ≡ absent_space) ↔ (space_text name.namespace ≡ [])) → w ≡ with_name u ns name.local → w ≡ t
name_known t u w ns name h e number absent made =
    made
    ∙ ap (λ x. with_name x ns name.local) e
    ∙ ap (λ k. with_name t k name.local) (number_in t name.namespace ns (ap (λ x. space_number x (space_text name.namespace)) (sym e) ∙ number) absent)
    ∙ name_stays t (space_in t name.namespace) name.local h.number

-- the first of some attributes or bindings, and one of a place
pub attributes_taken : (t : NameTable) (xs : List Attribute) (i : ℕ) → HasAttributes t xs → HasAttributes t (take i xs)
attributes_taken t xs zero h = tt
attributes_taken t [] (suc i) h = tt
attributes_taken t (x ∷ xs) (suc i) h = (h.0, attributes_taken t xs i h.1)

pub attribute_there : (t : NameTable) (xs : List Attribute) (i : ℕ) (x : Attribute) → HasAttributes t xs → i < length xs → x ≡ get_or xs i x → HasName t x.name
attribute_there t [] i x h lt is = absurd (omega (arith, lt))
attribute_there t (y ∷ ys) zero x h lt is = subst (λ (z : Attribute). HasName t z.name) (sym is) h.0
attribute_there t (y ∷ ys) (suc i) x h lt is = attribute_there t ys i x h.1 (omega (arith, lt)) is

pub bindings_taken : (t : NameTable) (xs : List Binding) (i : ℕ) → HasBindings t xs → HasBindings t (take i xs)
bindings_taken t xs zero h = tt
bindings_taken t [] (suc i) h = tt
bindings_taken t (x ∷ xs) (suc i) h = (h.0, bindings_taken t xs i h.1)

pub binding_there : (t : NameTable) (xs : List Binding) (i : ℕ) (x : Binding) → HasBindings t xs → i < length xs → x ≡ get_or xs i x → IsSome (space_number t x.namespace)
binding_there t [] i x h lt is = absurd (omega (arith, lt))
binding_there t (y ∷ ys) zero x h lt is = subst (λ (z : Binding). IsSome (space_number t z.namespace)) (sym is) h.0
binding_there t (y ∷ ys) (suc i) x h lt is = binding_there t ys i x h.1 (omega (arith, lt)) is

-- the names of an element and those below it
pub names_of_tag : (t : NameTable) (row : Row) (children : Forest) (name : Expanded) → row.content ≡ rows.Element name → HasNames t (one_of row children)
    → HasTag t name row.bindings row.attributes × HasNames t children
names_of_tag t row children name e h =
    let k : HasTag t name row.bindings row.attributes × HasNames t children × Unit {0} = subst (λ c. HasNames t (node_of row.number c row.bindings row.attributes children none)) e h in
    (k.0, k.1)

-- those of the first of some siblings, and of the next
pub names_taken : (t : NameTable) (row : Row) (children next left : Forest) → left ≡ node_of row.number row.content row.bindings row.attributes children next → HasNames t left
    → HasNames t (one_of row children) × HasNames t next
names_taken t row children next left e h = by row.content (subst (HasNames t) e h)
  where
    by : (c : Content) → HasNames t (node_of row.number c row.bindings row.attributes children next) → HasNames t (node_of row.number c row.bindings row.attributes children none) × HasNames t next
    by (rows.Element name) z = ((z.0, z.1, tt), z.2)
    by (rows.Chars chars) z = (tt, z)

pub names_alone : (t : NameTable) (row : Row) (children : Forest) → HasNames t (one_of row children) → HasNames t (one_of row none)
names_alone t row children h = by row.content h
  where
    by : (c : Content) → HasNames t (node_of row.number c row.bindings row.attributes children none) → HasNames t (node_of row.number c row.bindings row.attributes none none)
    by (rows.Element name) z = (z.0, tt, tt)
    by (rows.Chars chars) z = tt

-- a table that was as it was, is so with the names of the next of the siblings
pub known_next : (s t u : NameTable) (row : Row) (children next left : Forest) → left ≡ node_of row.number row.content row.bindings row.attributes children next
    → (HasNames t (one_of row children) → u ≡ t) → (t ≡ s) × HasNames s left → (u ≡ s) × HasNames s next
known_next s t u row children next left e k a =
    let p = names_taken s row children next left e a.1 in
    (k (subst (λ x. HasNames x (one_of row children)) (sym a.0) p.0) ∙ a.0, p.1)
