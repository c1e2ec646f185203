-- An element has other attributes.
use Rattle.std.proofs.Common.{◌≡◌, ◌⊎◌, ℕ, ◌+◌, ◌<◌, ◌≤◌, suc, List, [], ◌∷◌, length, map, get_or, ◌==◌, Option, sym, ap, ◌∙◌, subst, Bool, true, false, Some, None, refl, inl, inr, arith}
use Rattle.std.proofs.lemmas.Bool.{false≢true, or_cases, eqb-true}
use Rattle.std.proofs.lemmas.List.{length-map, ext_get_or}
use Rattle.xs_names.specs.Names.{NameTable}
use Rattle.tree_rows.specs.Forest.{Document}
use Rattle.tree_edits.specs.Changes.{set_in, unset_in, with_attributes}
use Rattle.tree_edits.specs.Edits.{attribute_set, attribute_unset}
use Rattle.tree_edits.proofs.Attributing.{names_set, names_unset, namespaces_set, namespaces_unset}
use Rattle.doc_nodes.specs.Nodes.{Node, Nodes, node, IsNode, IsSound, Holds}
use Rattle.doc_nodes.proofs.Among.{same_or_other}
use Rattle.doc_nodes.specs.declared.content.Content.{Content}
use Rattle.doc_nodes.specs.declared.content.Content.TheVariants as contents
use Rattle.doc_nodes.specs.declared.content.NameAttribute.{NameAttribute}
use Rattle.doc_changes.specs.Stands.{StandsFor, HasNames, expanded_of, attribute_of, binding_of}
use Rattle.doc_changes.specs.Held.{attributes_in, attributes_by, attributes_at, bindings_in, bindings_by, bindings_at, has_number, set_number, unset_number, HasRoom}
use Rattle.doc_changes.proofs.Holding.{element_of, HoldsElement, element_stands, no_namespace}
use Rattle.doc_changes.proofs.Attributing.{set_map, unset_map, set_all, unset_all, length_set, length_unset}

-- what an element of a document holds has its names in the table
pub known_of : (t : NameTable) (ns : Nodes) (d : Document) → StandsFor t ns d → (key : ℕ) (c : HoldsElement ns key) → HasNames t c.e
known_of t ns d z key c = let f = element_of t ns d z key c.it c.e c.is c.holds in subst (HasNames t) f.parts f.shown.known

pub attributes_held : (ns : Nodes) (key : ℕ) (c : HoldsElement ns key) → attributes_at ns key ≡ c.e.attributes
attributes_held ns key c = ap attributes_by c.is ∙ ap attributes_in c.holds

pub bindings_held : (ns : Nodes) (key : ℕ) (c : HoldsElement ns key) → bindings_at ns key ≡ c.e.bindings
bindings_held ns key c = ap bindings_by c.is ∙ ap bindings_in c.holds

-- an element whose attributes are known
pub has_within : (P : ℕ → Type 0) (name : ℕ) (xs : List NameAttribute) → has_number name xs ≡ true → ((i : ℕ) (d : NameAttribute) → i < length xs → P (get_or xs i d).name) → P name
has_within P name [] h k = absurd (false≢true h)
has_within P name (a ∷ more) h k = elim (or_cases (a.name == name) (has_number name more) h) [
  | inl e ↦ subst P (eqb-true a.name name e) (k 0 a (omega arith))
  | inr r ↦ has_within P name more r (λ i d l. k (suc i) d (omega (arith, l)))
]

pub holds_attribute : (ns : Nodes) (n name : ℕ) → has_number name (attributes_at ns n) ≡ true → HoldsElement ns n
holds_attribute ns n name h = by (node ns n) refl
  where
    with_content : (x : Node) → IsNode ns n x → (c : Content) → x.content ≡ c → HoldsElement ns n
    with_content x i (contents.Element e) q = record { it = x; is = i; e = e; holds = q }
    with_content x i (contents.Chars chars) q = absurd (false≢true (sym (ap (λ o. has_number name (attributes_by o)) i ∙ ap (λ y. has_number name (attributes_in y)) q) ∙ h))

    by : (o : Option Node) → node ns n ≡ o → HoldsElement ns n
    by None q = absurd (false≢true (sym (ap (λ o. has_number name (attributes_by o)) q) ∙ h))
    by (Some x) q = with_content x q x.content refl

-- where a node holds what it held, all is as it was
pub same_nodes : (old new : Nodes) (key : ℕ) (x : Node) → IsNode old key x → Holds old new key x.content → new ≡ old
same_nodes old new key x there h = ext_get_or None new old h.size (λ i l. elim (same_or_other i key) [
  | inl e ↦ ap (node new) e ∙ h.here x there ∙ sym (ap (node old) e ∙ there)
  | inr d ↦ h.others i d
])

-- there are no more than there may be
few_set : (name : ℕ) (value : List ℕ) (xs : List NameAttribute) (more : ℕ) → length xs + more ≤ 256 → (has_number name xs ≡ true) ⊎ (length xs + more < 256) → length (set_number name value xs) + more ≤ 256
few_set name value xs more l r = by (has_number name xs) refl r
  where
    by : (b : Bool) → has_number name xs ≡ b → (has_number name xs ≡ true) ⊎ (length xs + more < 256) → length (set_number name value xs) + more ≤ 256
    by true h r = let e = length_set name value xs true h in omega (arith, e, l)
    by false h r = elim r [
      | inl k ↦ absurd (false≢true (sym h ∙ k))
      | inr k ↦ let e = length_set name value xs false h in omega (arith, e, k)
    ]

module _ (t : NameTable) (old new : Nodes) (d : Document) (z : StandsFor t old d) (key name : ℕ) (c : HoldsElement old key) (sound : IsSound new) (l : name < length t.names) where
  known : HasNames t c.e
  known = known_of t old d z key c

  pub set_stands : (value : List ℕ) → HasRoom old key name → Holds old new key (contents.Element (record c.e { attributes = set_number name value c.e.attributes })) → StandsFor t new (attribute_set key (expanded_of t name) value d)
  set_stands value room h =
      element_stands t old new d z key c (record c.e { attributes = set_number name value c.e.attributes }) h sound (with_attributes (set_in (expanded_of t name) value)) (λ n. n) (set_in (expanded_of t name) value)
      (λ own bindings attributes children. refl)
      (record { name = known.name; bindings = known.bindings; attributes = set_all (λ n. n < length t.names) name value l c.e.attributes known.attributes })
      refl refl
      (set_map t z.table name l value c.e.attributes known.attributes)
      (λ q. record {
        namespace = q.namespace;
        namespaces = namespaces_set (expanded_of t name) value (map (attribute_of t) c.e.attributes) (no_namespace t name z.table l) q.namespaces;
        prefixes = q.prefixes;
        names = names_set (expanded_of t name) value (map (attribute_of t) c.e.attributes) q.names;
        few = few q.few;
      })
    where
      held : (has_number name c.e.attributes ≡ true) ⊎ (length c.e.attributes + length c.e.bindings < 256)
      held =
          subst (λ xs. (has_number name xs ≡ true) ⊎ (length xs + length c.e.bindings < 256)) (attributes_held old key c)
          (subst (λ ys. (has_number name (attributes_at old key) ≡ true) ⊎ (length (attributes_at old key) + length ys < 256)) (bindings_held old key c) room)

      few : length (map (attribute_of t) c.e.attributes) + length (map (binding_of t) c.e.bindings) ≤ 256 → length (set_in (expanded_of t name) value (map (attribute_of t) c.e.attributes)) + length (map (binding_of t) c.e.bindings) ≤ 256
      few q =
          let a = length-map c.e.attributes (attribute_of t) in let b = length-map c.e.bindings (binding_of t) in
          let s = sym (ap length (set_map t z.table name l value c.e.attributes known.attributes)) ∙ length-map (set_number name value c.e.attributes) (attribute_of t) in
          let w = few_set name value c.e.attributes (length c.e.bindings) (omega (arith, a, b, q)) held in
          omega (arith, s, b, w)

  pub unset_stands : Holds old new key (contents.Element (record c.e { attributes = unset_number name c.e.attributes })) → StandsFor t new (attribute_unset key (expanded_of t name) d)
  unset_stands h =
      element_stands t old new d z key c (record c.e { attributes = unset_number name c.e.attributes }) h sound (with_attributes (unset_in (expanded_of t name))) (λ n. n) (unset_in (expanded_of t name))
      (λ own bindings attributes children. refl)
      (record { name = known.name; bindings = known.bindings; attributes = unset_all (λ n. n < length t.names) name c.e.attributes known.attributes })
      refl refl
      (unset_map t z.table name l c.e.attributes known.attributes)
      (λ q. record {
        namespace = q.namespace;
        namespaces = namespaces_unset (expanded_of t name) (map (attribute_of t) c.e.attributes) q.namespaces;
        prefixes = q.prefixes;
        names = names_unset (expanded_of t name) (map (attribute_of t) c.e.attributes) q.names;
        few = few q.few;
      })
    where
      few : length (map (attribute_of t) c.e.attributes) + length (map (binding_of t) c.e.bindings) ≤ 256 → length (unset_in (expanded_of t name) (map (attribute_of t) c.e.attributes)) + length (map (binding_of t) c.e.bindings) ≤ 256
      few q =
          let a = length-map c.e.attributes (attribute_of t) in
          let s = sym (ap length (unset_map t z.table name l c.e.attributes known.attributes)) ∙ length-map (unset_number name c.e.attributes) (attribute_of t) in
          let w = length_unset name c.e.attributes in
          omega (arith, s, a, w, q)
