-- What an element shows by the numbers of names is what it shows by its names.
use Rattle.std.proofs.Common.{◌≡◌, ℕ, ◌<◌, List, [], ◌∷◌, ◌++◌, length, map, All, sym, ap, ◌∙◌, subst, Option, Some, None, refl}
use Rattle.std.specs.Prelude.{reverse, slice_index_or, unwrap_or}
use Rattle.std.specs.Option.{option_map}
use Rattle.std.proofs.lemmas.List.{reverse-append}
use Rattle.std.proofs.lemmas.List.Elements.{All-nil, All-head, All-tail, All-push, All-map, All-append}
use Rattle.xs_names.specs.Names.{NameTable, IsSound, absent_space, space_number}
use Rattle.tree_rows.specs.Forest.{Document}
use Rattle.tree_rows.specs.declared.name.Expanded.{Expanded}
use Rattle.tree_rows.specs.declared.row.Attribute.{Attribute}
use Rattle.tree_rows.specs.declared.row.Binding.{Binding}
use Rattle.tree_rows.specs.declared.row.NodeKind.TheVariants as kinds
use Rattle.plain_tree.proofs.Numbers.{else_number}
use Rattle.assess_records.specs.Instance.{instance_text}
use Rattle.assess_records.specs.declared.instance_names.InstanceAttribute.TheVariants.{TypeName}
use Rattle.assess_records.specs.declared.shape.NamedText.{NamedText}
use Rattle.assess_records.specs.Numbered.{Scope, Head, name_in, named_texts, bound, scope_in, head_of}
use Rattle.elem_governing.specs.declared.head.ElementHead.{ElementHead}
use Rattle.elem_governing.specs.Heads.{head_by, IsHead}
use Rattle.elem_governing.specs.View.{AreKnown}
use Rattle.doc_nodes.specs.Nodes.{Node, Nodes, node, IsNode}
use Rattle.doc_nodes.specs.declared.content.Content.{Content}
use Rattle.doc_nodes.specs.declared.content.Content.TheVariants as contents
use Rattle.doc_nodes.specs.declared.content.Element.{Element}
use Rattle.doc_nodes.specs.declared.content.NameAttribute.{NameAttribute}
use Rattle.doc_nodes.specs.declared.content.NameBinding.{NameBinding}
use Rattle.doc_changes.specs.Stands.{StandsFor, expanded_of, attribute_of, binding_of, HasNames}
use Rattle.doc_changes.specs.Held.{name_in as name_of, kind_at, attributes_at, attributes_by, attributes_in, bindings_at, bindings_by, bindings_in}
use Rattle.doc_changes.proofs.Holding.{IsElementOf, element_of, holds_element}
use Rattle.doc_changes.specs.Readers.{name_by, name_at, own_scope}
use Rattle.doc_changes.proofs.Named.{name_back, numbered_space}
use Rattle.doc_readers.specs.Heads.{readers_of, text_named, texts_named, pair_of, IsHeadAt}

-- the names of a node are numbers of the table
pub record AreNumbers (t : NameTable) (attributes : List NameAttribute) (bindings : List NameBinding) : Type 0 where
  pub names : All (λ a. a.name < length t.names) attributes
  pub spaces : All (λ b. b.namespace < length t.spaces) bindings

none_numbered : (t : NameTable) → AreNumbers t [] []
none_numbered t = record { names = All-nil (λ a. a.name < length t.names); spaces = All-nil (λ b. b.namespace < length t.spaces) }

module _ (t : NameTable) (ns : Nodes) (d : Document) (z : StandsFor t ns d) (n : ℕ) where
  held_names : (x : Node) (e : Element) → IsNode ns n x → x.content ≡ contents.Element e → HasNames t e
  held_names x e there holds = let o = element_of t ns d z n x e there holds in subst (HasNames t) o.parts o.shown.known

  pub are_numbers : AreNumbers t (attributes_at ns n) (bindings_at ns n)
  are_numbers = by_node (node ns n) refl
    where
      by_content : (x : Node) → IsNode ns n x → (c : Content) → x.content ≡ c → AreNumbers t (attributes_in c) (bindings_in c)
      by_content x there (contents.Element e) holds = let k = held_names x e there holds in record { names = k.attributes; spaces = k.bindings }
      by_content x there (contents.Chars chars) holds = none_numbered t

      by_node : (o : Option Node) → node ns n ≡ o → AreNumbers t (attributes_by o) (bindings_by o)
      by_node None e = none_numbered t
      by_node (Some x) e = by_content x e x.content refl

  pub name_number : kind_at ns n ≡ Some kinds.Element → name_at ns n < length t.names
  name_number k =
      let h = holds_element ns n k in
      let names = held_names h.it h.e h.is h.holds in
      subst (λ m. m < length t.names) (sym (name_held h.it h.e h.is h.holds)) names.name
    where
      name_held : (x : Node) (e : Element) → IsNode ns n x → x.content ≡ contents.Element e → name_at ns n ≡ e.name
      name_held x e there holds = ap name_by there ∙ ap (λ c. unwrap_or (name_of c) 0) holds

  pub name_shown : kind_at ns n ≡ Some kinds.Element → name_in t (expanded_of t (name_at ns n)) ≡ name_at ns n
  name_shown k = name_back t z.table (name_at ns n) (name_number k)

-- attributes and bindings by their names, and by numbers
module _ (t : NameTable) (sound : IsSound t) where
  texts_back : (xs : List NameAttribute) → All (λ a. a.name < length t.names) xs → named_texts t (map (attribute_of t) xs) ≡ map text_named xs
  texts_back [] h = refl
  texts_back (x ∷ xs) h =
      let P : NameAttribute → Type 0 = λ a. a.name < length t.names in
      let one = name_back t sound x.name (All-head P x xs h) in let rest = texts_back xs (All-tail P x xs h) in
      λ i. record { name = one i; text = x.value } ∷ rest i

  spaces_back : (xs : List NameBinding) → All (λ b. b.namespace < length t.spaces) xs → map (bound t) (map (binding_of t) xs) ≡ map pair_of xs
  spaces_back [] h = refl
  spaces_back (x ∷ xs) h =
      let P : NameBinding → Type 0 = λ b. b.namespace < length t.spaces in
      let one = else_number (space_number t (slice_index_or t.spaces x.namespace [])) absent_space x.namespace (numbered_space t sound x.namespace (All-head P x xs h)) in
      let rest = spaces_back xs (All-tail P x xs h) in
      λ i. (x.prefix, one i) ∷ rest i

-- what holds of each, in whatever order
all_reverse : {X : Type 0} (P : X → Type 0) (xs : List X) → All P xs → All P (reverse xs)
all_reverse P [] h = All-nil P
all_reverse P (x ∷ xs) h = subst (All P) (sym (reverse-append (x ∷ []) xs)) (All-push P (reverse xs) x (all_reverse P xs (All-tail P x xs h)) (All-head P x xs h))

module _ (t : NameTable) (ns : Nodes) (d : Document) (z : StandsFor t ns d) (n : ℕ) where
  pub texts_shown : named_texts t ((readers_of t ns).attributes n) ≡ texts_named ns n
  texts_shown = texts_back t z.table (attributes_at ns n) (are_numbers t ns d z n).names

  pub scope_shown : (outer : Scope) → scope_in t ((readers_of t ns).bindings n) outer ≡ own_scope ns n ++ outer
  scope_shown outer = ap (λ l. reverse l ++ outer) (spaces_back t z.table (bindings_at ns n) (are_numbers t ns d z n).spaces)

  pub head_shown : (outer : Scope) (h : ElementHead) → kind_at ns n ≡ Some kinds.Element → IsHeadAt ns n outer h
      → IsHead t outer ((readers_of t ns).name n) ((readers_of t ns).bindings n) ((readers_of t ns).attributes n) h
  head_shown outer h k is =
      let name = is.name ∙ sym (name_shown t ns d z n k) in
      let texts = is.attributes ∙ sym texts_shown in
      let scope = is.scope ∙ sym (scope_shown outer) in
      record {
        head_is = λ i. record { name = name i; xsi = instance_text t (texts i) TypeName; scope = scope i };
        attrs_are = texts;
        named = subst (All (λ (a : NamedText). a.name < length t.names)) (sym is.attributes) (All-map (λ (a : NamedText). a.name < length t.names) text_named (attributes_at ns n) (are_numbers t ns d z n).names);
        known = λ a. subst (AreKnown t) (sym is.scope) (All-append (λ (p : List ℕ × ℕ). p.1 < length t.spaces) (own_scope ns n) outer own a);
      }
    where
      own : AreKnown t (own_scope ns n)
      own = all_reverse (λ (p : List ℕ × ℕ). p.1 < length t.spaces) (map pair_of (bindings_at ns n)) (All-map (λ (p : List ℕ × ℕ). p.1 < length t.spaces) pair_of (bindings_at ns n) (are_numbers t ns d z n).spaces)
