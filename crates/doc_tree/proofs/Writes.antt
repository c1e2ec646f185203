-- An element has an attribute written.
use Rattle.std.proofs.Common.{◌≡◌, ℕ, ◌<◌, ◌≤◌, List, ◌∷◌, length, map, take, drop, sym, ap, ◌∙◌, subst, Bool, true, false, Option, Some, None, refl, arith, All}
use Rattle.std.proofs.lemmas.List.{length-map}
use Rattle.std.proofs.lemmas.List.Elements.{All-append, All-take, All-drop, All-cons}
use Rattle.xs_names.specs.Names.{NameTable}
use Rattle.tree_rows.specs.Forest.{Document}
use Rattle.tree_rows.specs.declared.row.Attribute.{Attribute}
use Rattle.tree_rows.specs.declared.row.Binding.{Binding}
use Rattle.tree_edits.specs.Changes.{with_attributes}
use Rattle.tree_edits.specs.Edits.{found}
use Rattle.tree_edits.specs.Tests.{attributes_of, bindings_of}
use Rattle.doc_nodes.specs.Nodes.{Nodes, IsSound, Holds}
use Rattle.doc_nodes.specs.declared.content.Content.TheVariants as contents
use Rattle.doc_nodes.specs.declared.content.NameAttribute.{NameAttribute}
use Rattle.doc_nodes.specs.declared.content.Element.{Element}
use Rattle.doc_changes.specs.Stands.{StandsFor, HasNames, expanded_of, attribute_of, binding_of}
use Rattle.doc_changes.specs.Held.{has_number, attributes_at}
use Rattle.doc_changes.proofs.Attributed.{known_of, attributes_held}
use Rattle.doc_changes.proofs.Attributing.{set_all, unset_all}
use Rattle.doc_changes.proofs.Holding.{IsElementOf, element_of, HoldsElement, element_stands, no_namespace}
use Rattle.tree_edits.specs.Inverses.{changed, written, CanWrite, write}
use Rattle.tree_edits.specs.Sites.{value_of}
use Rattle.tree_edits.proofs.Written.{named_written}
use Rattle.doc_tree.specs.Changes.{number_value, written_number}
use Rattle.doc_tree.proofs.Numbers.{value_map, written_map, place_within, written_there, written_new}

-- what is known of each attribute stays known
written_all : (P : ℕ → Type 0) (name place : ℕ) (value : Option (List ℕ)) → P name → (xs : List NameAttribute) → All (λ (a : NameAttribute). P a.name) xs
    → All (λ (a : NameAttribute). P a.name) (written_number name place value xs)
written_all P name place None p xs k = unset_all P name xs k
written_all P name place (Some value) p xs k = by (has_number name xs) refl
  where
    by : (b : Bool) → has_number name xs ≡ b → All (λ (a : NameAttribute). P a.name) (written_number name place (Some value) xs)
    by true h = subst (All (λ (a : NameAttribute). P a.name)) (sym (written_there name place value xs h)) (set_all P name value p xs k)
    by false h =
        subst (All (λ (a : NameAttribute). P a.name)) (sym (written_new name place value xs h))
        (All-append (λ (a : NameAttribute). P a.name) (take place xs) (record { name = name; value = value } ∷ drop place xs) (All-take (λ (a : NameAttribute). P a.name) place xs k)
        (All-cons (λ (a : NameAttribute). P a.name) (record { name = name; value = value }) (drop place xs) p (All-drop (λ (a : NameAttribute). P a.name) place xs k)))

module _ (t : NameTable) (old : Nodes) (d : Document) (z : StandsFor t old d) (key : ℕ) (c : HoldsElement old key) where
  f : IsElementOf t old d key c.e
  f = element_of t old d z key c.it c.e c.is c.holds

  attributes_are : attributes_of (found key 1 d.forest) ≡ map (attribute_of t) c.e.attributes
  attributes_are = ap attributes_of (f).is_found ∙ sym (f).shown.attributes_are ∙ ap (λ (p : Element). map (attribute_of t) p.attributes) (f).parts

  bindings_are : bindings_of (found key 1 d.forest) ≡ map (binding_of t) c.e.bindings
  bindings_are = ap bindings_of (f).is_found ∙ sym (f).shown.bindings_are ∙ ap (λ (p : Element). map (binding_of t) p.bindings) (f).parts

  known : HasNames t c.e
  known = known_of t old d z key c

  -- the value of an attribute by the number of its name and by its name
  pub value_held : (name : ℕ) → name < length t.names → number_value name (attributes_at old key) ≡ value_of (expanded_of t name) (attributes_of (found key 1 d.forest))
  value_held name l = ap (number_value name) (attributes_held old key c) ∙ sym (value_map t z.table name l c.e.attributes (known).attributes) ∙ ap (value_of (expanded_of t name)) (sym (attributes_are))

  -- the place of an attribute that can be written is within its element
  pub place_held : (name place : ℕ) (value : Option (List ℕ)) → CanWrite (expanded_of t name) place value (attributes_of (found key 1 d.forest)) (bindings_of (found key 1 d.forest)) → place ≤ length (attributes_at old key)
  place_held name place value can =
      let l = place_within (expanded_of t name) place value (attributes_of (found key 1 d.forest)) (bindings_of (found key 1 d.forest)) can in
      let a = ap length (attributes_are) in let m = length-map c.e.attributes (attribute_of t) in let h = ap length (attributes_held old key c) in
      omega (arith, l, a, m, h)

  pub written_stands : (new : Nodes) (name place : ℕ) (value : Option (List ℕ)) → IsSound new → name < length t.names
      → CanWrite (expanded_of t name) place value (attributes_of (found key 1 d.forest)) (bindings_of (found key 1 d.forest))
      → Holds old new key (contents.Element (record c.e { attributes = written_number name place value c.e.attributes }))
      → StandsFor t new (changed d (write key (expanded_of t name) place value))
  written_stands new name place value sound l can h =
      element_stands t old new d z key c (record c.e { attributes = written_number name place value c.e.attributes }) h sound (with_attributes (written (expanded_of t name) place value)) (λ n. n) (written (expanded_of t name) place value)
      (λ own bindings attributes children. refl)
      (record { name = (known).name; bindings = (known).bindings; attributes = written_all (λ n. n < length t.names) name place value l c.e.attributes (known).attributes })
      refl refl
      (written_map t z.table name l place value c.e.attributes (known).attributes)
      (λ q. named_written (expanded_of t c.e.name) (expanded_of t name) place value (map (attribute_of t) c.e.attributes) (map (binding_of t) c.e.bindings) (no_namespace t name z.table l) q
      (subst (λ (xs : List Attribute). CanWrite (expanded_of t name) place value xs (map (binding_of t) c.e.bindings)) (attributes_are)
      (subst (λ (ys : List Binding). CanWrite (expanded_of t name) place value (attributes_of (found key 1 d.forest)) ys) (bindings_are) can)))
