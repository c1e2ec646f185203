-- What nodes hold, as the laws on changes of a document ask for it.
use Rattle.std.proofs.Common.{◌≡◌, ℕ, zero, suc, ◌+◌, ◌<◌, List, [], ◌∷◌, length, map, get_or, sym, ap, ◌∙◌, subst, true, false, ◌==◌, Some, None, refl, inl, inr, arith, All}
use Rattle.std.specs.Prelude.{if◌then◌else◌}
use Rattle.std.specs.List.{position}
use Rattle.std.specs.Option.{option_and_then}
use Rattle.std.proofs.lemmas.Bool.{or_parts, or_cases, eqb-true, false≢true}
use Rattle.std.proofs.lemmas.List.Elements.{All-head, All-tail}
use Rattle.std.proofs.lemmas.List.Quantifiers.{position-Some}
use Rattle.xs_names.specs.Names.{NameTable, IsSound as AreNames}
use Rattle.tree_rows.specs.Forest.{Document}
use Rattle.tree_rows.specs.declared.row.NodeKind.TheVariants as kinds
use Rattle.tree_edits.specs.Edits.{found}
use Rattle.tree_edits.specs.Tests.{is_element, is_text, attributes_of}
use Rattle.tree_edits.specs.Sites.{node_of, name_of, chars_of, place_of, value_of}
use Rattle.doc_nodes.specs.Nodes.{Node, Nodes, node}
use Rattle.doc_nodes.specs.declared.content.Element.{Element}
use Rattle.doc_nodes.specs.declared.content.NameAttribute.{NameAttribute}
use Rattle.doc_changes.specs.Held.{kind_at, name_in, chars_in, attributes_at, has_number}
use Rattle.doc_changes.specs.Stands.{StandsFor, expanded_of, attribute_of}
use Rattle.doc_changes.proofs.Attributed.{known_of, attributes_held, holds_attribute}
use Rattle.doc_changes.proofs.Attributing.{same_names, none_of}
use Rattle.doc_changes.proofs.Holding.{HoldsElement, IsElementOf, IsTextOf, HoldsChars, holds_element, holds_chars, element_of, text_of}
use Rattle.doc_tree.proofs.Numbers.{value_is, value_absent}
use Rattle.doc_tree.proofs.Own.{own_name, own_chars}
use Rattle.doc_tree.proofs.Writes.{value_held}

-- ---- places of attributes by the numbers of their names

module _ (t : NameTable) (sound : AreNames t) (name : ℕ) (l : name < length t.names) where
  place-there : (xs : List NameAttribute) → All (λ a. a.name < length t.names) xs → (i : ℕ) (x : NameAttribute) → i < length xs → ((get_or xs i x).name == name) ≡ true
      → ((k : ℕ) → k < i → ((get_or xs k x).name == name) ≡ false) → place_of (expanded_of t name) (map (attribute_of t) xs) ≡ i
  place-there [] known i x lt here before = absurd (omega (arith, lt))
  place-there (a ∷ more) known zero x lt here before =
      let same = same_names t sound a.name name (All-head (λ a. a.name < length t.names) a more known) l in
      ap (λ b. if b then 0 else place_of (expanded_of t name) (map (attribute_of t) more) + 1) (same ∙ here)
  place-there (a ∷ more) known (suc i) x lt here before =
      let same = same_names t sound a.name name (All-head (λ a. a.name < length t.names) a more known) l in
      let rest = place-there more (All-tail (λ a. a.name < length t.names) a more known) i x (omega (arith, lt)) here (λ k h. before (suc k) (omega (arith, h))) in
      let next : place_of (expanded_of t name) (map (attribute_of t) more) + 1 ≡ suc i = omega (arith, rest) in
      ap (λ b. if b then 0 else place_of (expanded_of t name) (map (attribute_of t) more) + 1) (same ∙ before 0 (omega arith)) ∙ next

  place-absent : (xs : List NameAttribute) → All (λ a. a.name < length t.names) xs → has_number name xs ≡ false → place_of (expanded_of t name) (map (attribute_of t) xs) ≡ length xs
  place-absent [] known none = refl
  place-absent (a ∷ more) known none =
      let same = same_names t sound a.name name (All-head (λ a. a.name < length t.names) a more known) l in
      let parts = or_parts (a.name == name) (has_number name more) none in
      let rest = place-absent more (All-tail (λ a. a.name < length t.names) a more known) parts.1 in
      let next : place_of (expanded_of t name) (map (attribute_of t) more) + 1 ≡ length (a ∷ more) = omega (arith, rest) in
      ap (λ b. if b then 0 else place_of (expanded_of t name) (map (attribute_of t) more) + 1) (same ∙ parts.0) ∙ next

-- ---- what a node holds

module _ (t : NameTable) (ns : Nodes) (d : Document) (z : StandsFor t ns d) (key : ℕ) where
  -- the characters of a text
  pub text-chars : kind_at ns key ≡ Some kinds.Chars → (chars : List ℕ) → option_and_then (λ (it : Node). chars_in it.content) (node ns key) ≡ Some chars → chars ≡ chars_of (node_of key d.forest)
  text-chars k chars is =
      let h : HoldsChars ns key = holds_chars ns key k in
      let own : IsTextOf t ns d key = text_of t ns d z key h.it h.chars h.is h.holds in
      own_chars t ns d z key chars (ap is_text own.is_found) is

  -- the name of an element
  pub element-name : kind_at ns key ≡ Some kinds.Element → (n : ℕ) → option_and_then (λ (it : Node). name_in it.content) (node ns key) ≡ Some n → (n < length t.names) × (expanded_of t n ≡ name_of (node_of key d.forest))
  element-name k n is =
      let h : HoldsElement ns key = holds_element ns key k in
      let own : IsElementOf t ns d key h.e = element_of t ns d z key h.it h.e h.is h.holds in
      own_name t ns d z key n (ap is_element own.is_found) is

  module _ (h : HoldsElement ns key) (name : ℕ) (l : name < length t.names) where
    own : IsElementOf t ns d key h.e
    own = element_of t ns d z key h.it h.e h.is h.holds

    attributes-are : attributes_of (found key 1 d.forest) ≡ map (attribute_of t) (attributes_at ns key)
    attributes-are =
        ap attributes_of (own).is_found ∙ sym (own).shown.attributes_are ∙ ap (λ (p : Element). map (attribute_of t) p.attributes) (own).parts
        ∙ ap (map (attribute_of t)) (sym (attributes_held ns key h))

    known : All (λ (a : NameAttribute). a.name < length t.names) (attributes_at ns key)
    known = subst (All (λ (a : NameAttribute). a.name < length t.names)) (sym (attributes_held ns key h)) (known_of t ns d z key h).attributes

    -- the attribute of the name is there
    pub there-place : (i : ℕ) (x : NameAttribute) → position (λ (a : NameAttribute). a.name == name) (attributes_at ns key) ≡ Some i → i ≡ place_of (expanded_of t name) (attributes_of (found key 1 d.forest))
    there-place i x is =
        let p = position-Some (λ (a : NameAttribute). a.name == name) (attributes_at ns key) i x is in
        sym (ap (place_of (expanded_of t name)) (attributes-are) ∙ place-there t z.table name l (attributes_at ns key) (known) i x p.0 p.1 p.2)

    pub there-value : (i : ℕ) (x : NameAttribute) → position (λ (a : NameAttribute). a.name == name) (attributes_at ns key) ≡ Some i → Some (get_or (attributes_at ns key) i x).value ≡ value_of (expanded_of t name) (attributes_of (found key 1 d.forest))
    there-value i x is =
        let p = position-Some (λ (a : NameAttribute). a.name == name) (attributes_at ns key) i x is in
        sym (value_is name (attributes_at ns key) i x p.0 p.1 p.2).0 ∙ value_held t ns d z key h name l

    -- there is none
    pub absent-place : position (λ (a : NameAttribute). a.name == name) (attributes_at ns key) ≡ None → length (attributes_at ns key) ≡ place_of (expanded_of t name) (attributes_of (found key 1 d.forest))
    absent-place is = sym (ap (place_of (expanded_of t name)) (attributes-are) ∙ place-absent t z.table name l (attributes_at ns key) (known) (none_of name (attributes_at ns key) is))

    pub absent-value : position (λ (a : NameAttribute). a.name == name) (attributes_at ns key) ≡ None → None ≡ value_of (expanded_of t name) (attributes_of (found key 1 d.forest))
    absent-value is = sym (value_absent name (attributes_at ns key) (none_of name (attributes_at ns key) is)) ∙ value_held t ns d z key h name l

-- the number of a name that an attribute has is in the table
known-among : (t : NameTable) (name : ℕ) (xs : List NameAttribute) → All (λ (a : NameAttribute). a.name < length t.names) xs → has_number name xs ≡ true → name < length t.names
known-among t name [] all has = absurd (false≢true has)
known-among t name (a ∷ more) all has = elim (or_cases (a.name == name) (has_number name more) has) [
  | inl own ↦ subst (λ (n : ℕ). n < length t.names) (eqb-true a.name name own) (All-head (λ (b : NameAttribute). b.name < length t.names) a more all)
  | inr later ↦ known-among t name more (All-tail (λ (b : NameAttribute). b.name < length t.names) a more all) later
]

pub known-number : (t : NameTable) (ns : Nodes) (d : Document) → StandsFor t ns d → (key name : ℕ) → has_number name (attributes_at ns key) ≡ true → name < length t.names
known-number t ns d z key name has =
    let h : HoldsElement ns key = holds_attribute ns key name has in
    known-among t name (attributes_at ns key) (subst (All (λ (a : NameAttribute). a.name < length t.names)) (sym (attributes_held ns key h)) (known_of t ns d z key h).attributes) has
