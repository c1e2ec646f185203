-- What nodes stand for once one holds something else.
use Rattle.std.proofs.Common.{◌≡◌, ℕ, ◌<◌, List, [], ◌∷◌, length, map, sym, ap, ◌∙◌, subst, Bool, true, false, ◌==◌, if◌then◌else◌, Option, Some, None, refl, inl, inr, arith}
use Rattle.std.specs.Option.{option_map}
use Rattle.std.proofs.lemmas.Bool.{eq-eqb, true≢false}
use Rattle.std.proofs.lemmas.Option.{same_Some, none-some, slice_get-get_or}
use Rattle.std.specs.Prelude.{slice_get, slice_index_or}
use Rattle.xs_names.specs.Names.{NameTable, absent_space, first_spaces, space_of, local_of, IsSound as AreNames}
use Rattle.xs_names.proofs.NumberingLaws.{slice_get-Begins}
use Rattle.tree_rows.specs.Forest.{Forest, none, text, element, Document, count, deepest_of}
use Rattle.tree_rows.specs.Whole.{times, AreNodes, HasRoot, IsNamed, IsNamespace}
use Rattle.tree_rows.specs.declared.name.Expanded.{Expanded}
use Rattle.tree_rows.specs.declared.row.Attribute.{Attribute}
use Rattle.tree_rows.specs.declared.row.Binding.{Binding}
use Rattle.tree_rows.specs.declared.row.NodeKind.TheVariants as kinds
use Rattle.tree_edits.specs.Changes.{with_name}
use Rattle.tree_edits.specs.Edits.{Found, found, replaced, renamed, with_chars}
use Rattle.tree_edits.proofs.Lying.{lies, deepest_here}
use Rattle.tree_edits.proofs.Keeping.{IsAlone, found_alone, changed_tree}
use Rattle.doc_nodes.specs.Nodes.{Node, Nodes, node, IsNode, IsSound, Holds}
use Rattle.doc_nodes.specs.declared.content.Content.{Content}
use Rattle.doc_nodes.specs.declared.content.Content.TheVariants as contents
use Rattle.doc_nodes.specs.declared.content.Element.{Element}
use Rattle.doc_nodes.proofs.Among.{same_or_other}
use Rattle.doc_changes.specs.Stands.{firsts, IsText, IsElement, StandFor, StandsFor, HasNames, expanded_of, attribute_of, binding_of}
use Rattle.doc_changes.specs.Held.{kind_in, kind_at}
use Rattle.doc_changes.proofs.Standing.{stand_same}
use Rattle.doc_changes.proofs.Lain.{at, lain, stand_lies, firsts_lies, times_at}
use Rattle.doc_changes.proofs.Changing.{stands_changed, still_there, not_key}

-- the element of a number in a document, by what its node holds
pub record IsElementOf (t : NameTable) (ns : Nodes) (d : Document) (key : ℕ) (e : Element) : Type 0 where
  pub depth : ℕ
  pub name : Expanded
  pub bindings : List Binding
  pub attributes : List Attribute
  pub children : Forest
  pub is_found : found key 1 d.forest ≡ Some (record { depth = depth; node = element key name bindings attributes children none })
  pub shown : IsElement t ns key name bindings attributes children
  pub parts : shown.parts ≡ e
  pub below : StandFor t ns children

same_element : (a b : Element) → contents.Element a ≡ contents.Element b → a ≡ b
same_element a b e = cc e

element_by : (t : NameTable) (ns : Nodes) (d : Document) (key : ℕ) (x : Node) (e : Element) → IsNode ns key x → x.content ≡ contents.Element e → (depth : ℕ) (one : Forest)
    → found key 1 d.forest ≡ Some (record { depth = depth; node = one }) → IsAlone one → firsts one ≡ key ∷ [] → StandFor t ns one → IsElementOf t ns d key e
element_by t ns d key x e there holds depth none f alone first s = absurd alone
element_by t ns d key x e there holds depth (text n chars next) f alone first s =
    let k : n ≡ key = cc first in
    let same = same_Some s.0.text x (sym s.0.is ∙ ap (node ns) k ∙ there) in
    let c : contents.Chars chars ≡ contents.Element e = sym s.0.content ∙ ap (λ (y : Node). y.content) same ∙ holds in
    absurd (cc c)
element_by t ns d key x e there holds depth (element n name bindings attributes children next) f alone first s =
    let k : n ≡ key = cc first in
    let same = same_Some s.0.it x (sym s.0.is ∙ ap (node ns) k ∙ there) in
    record {
      depth = depth;
      name = name;
      bindings = bindings;
      attributes = attributes;
      children = children;
      is_found = f ∙ ap (λ g. Some (record { depth = depth; node = element n name bindings attributes children g })) alone ∙ ap (λ m. Some (record { depth = depth; node = element m name bindings attributes children none })) k;
      shown = record { it = s.0.it; is = sym (ap (node ns) k) ∙ s.0.is; parts = s.0.parts; content = s.0.content; known = s.0.known; name_is = s.0.name_is; bindings_are = s.0.bindings_are; attributes_are = s.0.attributes_are; children_are = s.0.children_are };
      parts = same_element s.0.parts e (sym s.0.content ∙ ap (λ (y : Node). y.content) same ∙ holds);
      below = s.1;
    }

pub element_of : (t : NameTable) (ns : Nodes) (d : Document) → StandsFor t ns d → (key : ℕ) (x : Node) (e : Element) → IsNode ns key x → x.content ≡ contents.Element e → IsElementOf t ns d key e
element_of t ns d z key x e there holds =
    let a = at t ns d z key x there in
    element_by t ns d key x e there holds a.0.depth a.0.node a.1 (found_alone key d.forest a.0 a.1)
    (firsts_lies t ns key 1 d.forest a.0 (lain t ns d z key x there)) (stand_lies t ns key 1 d.forest a.0 (lain t ns d z key x there) z.nodes)

-- the text of a number in a document
pub record IsTextOf (t : NameTable) (ns : Nodes) (d : Document) (key : ℕ) : Type 0 where
  pub depth : ℕ
  pub chars : List ℕ
  pub is_found : found key 1 d.forest ≡ Some (record { depth = depth; node = text key chars none })
  pub shown : IsText ns key chars

text_by : (t : NameTable) (ns : Nodes) (d : Document) (key : ℕ) (x : Node) (chars : List ℕ) → IsNode ns key x → x.content ≡ contents.Chars chars → (depth : ℕ) (one : Forest)
    → found key 1 d.forest ≡ Some (record { depth = depth; node = one }) → IsAlone one → firsts one ≡ key ∷ [] → StandFor t ns one → IsTextOf t ns d key
text_by t ns d key x chars there holds depth none f alone first s = absurd alone
text_by t ns d key x chars there holds depth (text n old next) f alone first s =
    let k : n ≡ key = cc first in
    record {
      depth = depth;
      chars = old;
      is_found = f ∙ ap (λ g. Some (record { depth = depth; node = text n old g })) alone ∙ ap (λ m. Some (record { depth = depth; node = text m old none })) k;
      shown = record { text = s.0.text; is = sym (ap (node ns) k) ∙ s.0.is; content = s.0.content; no_children = s.0.no_children };
    }
text_by t ns d key x chars there holds depth (element n name bindings attributes children next) f alone first s =
    let k : n ≡ key = cc first in
    let same = same_Some s.0.it x (sym s.0.is ∙ ap (node ns) k ∙ there) in
    let c : contents.Element s.0.parts ≡ contents.Chars chars = sym s.0.content ∙ ap (λ (y : Node). y.content) same ∙ holds in
    absurd (cc c)

pub text_of : (t : NameTable) (ns : Nodes) (d : Document) → StandsFor t ns d → (key : ℕ) (x : Node) (chars : List ℕ) → IsNode ns key x → x.content ≡ contents.Chars chars → IsTextOf t ns d key
text_of t ns d z key x chars there holds =
    let a = at t ns d z key x there in
    text_by t ns d key x chars there holds a.0.depth a.0.node a.1 (found_alone key d.forest a.0 a.1)
    (firsts_lies t ns key 1 d.forest a.0 (lain t ns d z key x there)) (stand_lies t ns key 1 d.forest a.0 (lain t ns d z key x there) z.nodes)

-- the node of a number by its kind
pub record HoldsElement (ns : Nodes) (n : ℕ) : Type 0 where
  pub it : Node
  pub is : IsNode ns n it
  pub e : Element
  pub holds : it.content ≡ contents.Element e

pub record HoldsChars (ns : Nodes) (n : ℕ) : Type 0 where
  pub it : Node
  pub is : IsNode ns n it
  pub chars : List ℕ
  pub holds : it.content ≡ contents.Chars chars

pub holds_element : (ns : Nodes) (n : ℕ) → kind_at ns n ≡ Some kinds.Element → HoldsElement ns n
holds_element ns n h = by (node ns n) refl
  where
    with_content : (x : Node) → IsNode ns n x → (c : Content) → x.content ≡ c → HoldsElement ns n
    with_content x i (contents.Element e) q = record { it = x; is = i; e = e; holds = q }
    with_content x i (contents.Chars chars) q =
        let k : Some kinds.Chars ≡ Some kinds.Element = sym (ap (option_map (λ (y : Node). kind_in y.content)) i ∙ ap (λ y. Some (kind_in y)) q) ∙ h in absurd (cc k)

    by : (o : Option Node) → node ns n ≡ o → HoldsElement ns n
    by None q = let k : None ≡ Some kinds.Element = sym (ap (option_map (λ (y : Node). kind_in y.content)) q) ∙ h in absurd (none-some kinds.Element k)
    by (Some x) q = with_content x q x.content refl

pub holds_chars : (ns : Nodes) (n : ℕ) → kind_at ns n ≡ Some kinds.Chars → HoldsChars ns n
holds_chars ns n h = by (node ns n) refl
  where
    with_content : (x : Node) → IsNode ns n x → (c : Content) → x.content ≡ c → HoldsChars ns n
    with_content x i (contents.Chars chars) q = record { it = x; is = i; chars = chars; holds = q }
    with_content x i (contents.Element e) q =
        let k : Some kinds.Element ≡ Some kinds.Chars = sym (ap (option_map (λ (y : Node). kind_in y.content)) i ∙ ap (λ y. Some (kind_in y)) q) ∙ h in absurd (cc k)

    by : (o : Option Node) → node ns n ≡ o → HoldsChars ns n
    by None q = let k : None ≡ Some kinds.Chars = sym (ap (option_map (λ (y : Node). kind_in y.content)) q) ∙ h in absurd (none-some kinds.Chars k)
    by (Some x) q = with_content x q x.content refl

-- a node that holds something else is the same otherwise
module _ (old new : Nodes) (key : ℕ) (content : Content) (h : Holds old new key content) (x : Node) (there : IsNode old key x) where
  same_but : (y : Node) → IsNode new key y → (v : Node) × IsNode old key v × (y.parent ≡ v.parent) × (y.depth ≡ v.depth)
  same_but y i =
      let e = same_Some y (record x { content = content }) (sym i ∙ h.here x there) in
      (x, there, ap (λ (n : Node). n.parent) e, ap (λ (n : Node). n.depth) e)

  still : (m : ℕ) (y : Node) → IsNode new m y → (v : Node) × IsNode old m v
  still m y i = elim (same_or_other m key) [
    | inl e ↦ (x, ap (node old) e ∙ there)
    | inr d ↦ (y, sym (h.others m d) ∙ i)
  ]

-- a text has other characters
pub text_stands : (t : NameTable) (old new : Nodes) (d : Document) → StandsFor t old d → (key : ℕ) (chars : List ℕ) → HoldsChars old key → Holds old new key (contents.Chars chars) → IsSound new
    → StandsFor t new (record d { forest = replaced key (with_chars chars) d.forest })
text_stands t old new d z key chars c h sound =
    let f = text_of t old d z key c.it c.chars c.is c.holds in
    let it : Found = record { depth = f.depth; node = text key f.chars none } in
    stands_changed t old new d key d.next_free (with_chars chars) it z sound f.is_found
    (changed_tree d key d.next_free (with_chars chars) none it z.tree f.is_found (omega arith) (λ _ r. absurd r) (λ a. a) (λ j. omega arith)
    (λ j. let e = z.tree.differ j in omega (arith, e)) (omega arith) (let e = z.tree.few in omega (arith, e)) (omega arith))
    (λ m k d. h.others m d) (same_but old new key (contents.Chars chars) h c.it c.is)
    (record { text = record f.shown.text { content = contents.Chars chars }; is = h.here f.shown.text f.shown.is; content = refl; no_children = f.shown.no_children }, tt)
    refl
    (λ m y i. let v = still old new key (contents.Chars chars) h c.it c.is m y i in still_there d key m (with_chars chars) it f.is_found (omega arith) (z.only m v.0 v.1))
    (h.size ∙ z.next)

-- an element has another name, or other attributes
module _ (t : NameTable) (old new : Nodes) (d : Document) (z : StandsFor t old d) (key : ℕ) (c : HoldsElement old key) (e : Element) (h : Holds old new key (contents.Element e)) (sound : IsSound new)
    (change : Forest → Forest) (nf : Expanded → Expanded) (af : List Attribute → List Attribute)
    (gives : (name : Expanded) (bindings : List Binding) (attributes : List Attribute) (children : Forest) → change (element key name bindings attributes children none) ≡ element key (nf name) bindings (af attributes) children none)
    (known : HasNames t e) (name_is : expanded_of t e.name ≡ nf (expanded_of t c.e.name)) (bindings_are : map (binding_of t) e.bindings ≡ map (binding_of t) c.e.bindings)
    (attributes_are : map (attribute_of t) e.attributes ≡ af (map (attribute_of t) c.e.attributes))
    (named : IsNamed (expanded_of t c.e.name) (map (binding_of t) c.e.bindings) (map (attribute_of t) c.e.attributes)
    → IsNamed (nf (expanded_of t c.e.name)) (map (binding_of t) c.e.bindings) (af (map (attribute_of t) c.e.attributes))) where
  abbrev f : IsElementOf t old d key c.e
  f = element_of t old d z key c.it c.e c.is c.holds

  abbrev it : Found
  it = record { depth = f.depth; node = element key f.name f.bindings f.attributes f.children none }

  name_was : f.name ≡ expanded_of t c.e.name
  name_was = sym f.shown.name_is ∙ ap (λ (p : Element). expanded_of t p.name) f.parts

  bindings_were : f.bindings ≡ map (binding_of t) c.e.bindings
  bindings_were = sym f.shown.bindings_are ∙ ap (λ (p : Element). map (binding_of t) p.bindings) f.parts

  attributes_were : f.attributes ≡ map (attribute_of t) c.e.attributes
  attributes_were = sym f.shown.attributes_are ∙ ap (λ (p : Element). map (attribute_of t) p.attributes) f.parts

  outside : times key f.children ≡ 0
  outside =
      let a = times_at t old d z key c.it c.is key in
      let q = same_Some (at t old d z key c.it c.is).0 it (sym (at t old d z key c.it c.is).1 ∙ f.is_found) in
      let r = ap (λ (x : Found). times key x.node) q in
      let o = z.tree.differ key in
      let own : ◌≡◌ {A = ℕ} (if key == key then 1 else 0) 1 = ap (λ b. if b then 1 else 0) (eq-eqb key key refl) in
      omega (arith, a, r, o, own)

  named_now : IsNamed f.name f.bindings f.attributes → IsNamed (nf f.name) f.bindings (af f.attributes)
  named_now n =
      subst (λ y. IsNamed (nf y) f.bindings (af f.attributes)) (sym name_was) (subst (λ y. IsNamed (nf (expanded_of t c.e.name)) y (af f.attributes)) (sym bindings_were)
      (subst (λ y. IsNamed (nf (expanded_of t c.e.name)) (map (binding_of t) c.e.bindings) (af y)) (sym attributes_were)
      (named (subst (λ y. IsNamed y (map (binding_of t) c.e.bindings) (map (attribute_of t) c.e.attributes)) name_was (subst (λ y. IsNamed f.name y (map (attribute_of t) c.e.attributes)) bindings_were
      (subst (λ y. IsNamed f.name f.bindings y) attributes_were n))))))

  children_stand : StandFor t new f.children
  children_stand = stand_same t old new f.children (λ m k. h.others m (not_key key f.children outside m k)) f.below

  changed_is : change it.node ≡ element key (nf f.name) f.bindings (af f.attributes) f.children none
  changed_is = gives f.name f.bindings f.attributes f.children

  pub element_stands : StandsFor t new (record d { forest = replaced key change d.forest })
  element_stands =
      let low = deepest_here key 1 d.forest it (lies key 1 d.forest it f.is_found) in
      stands_changed t old new d key d.next_free change it z sound f.is_found
      (changed_tree d key d.next_free change none it z.tree f.is_found (omega arith)
      (λ _ r. subst HasRoot (sym changed_is) r)
      (λ a. subst (AreNodes d.next_free) (sym changed_is) (a.0, named_now a.1, a.2, tt))
      (λ j. let g = ap (times j) changed_is in omega (arith, g))
      (λ j. let o = z.tree.differ j in omega (arith, o))
      (let g = ap count changed_is in omega (arith, g))
      (let o = z.tree.few in omega (arith, o))
      (let g = ap (deepest_of f.depth) changed_is in let o = z.tree.shallow in omega (arith, g, low, o)))
      (λ m k d. h.others m d) (same_but old new key (contents.Element e) h c.it c.is)
      (subst (StandFor t new) (sym changed_is) (
        record {
          it = record f.shown.it { content = contents.Element e };
          is = h.here f.shown.it f.shown.is;
          parts = e;
          content = refl;
          known = known;
          name_is = name_is ∙ ap nf (sym name_was);
          bindings_are = bindings_are ∙ sym bindings_were;
          attributes_are = attributes_are ∙ ap af (sym attributes_were);
          children_are = f.shown.children_are;
        },
        children_stand,
        tt,
      ))
      (ap firsts changed_is)
      (λ m y i.
      let v = still old new key (contents.Element e) h c.it c.is m y i in
      let g = ap (times m) changed_is in
      still_there d key m change it f.is_found (omega (arith, g)) (z.only m v.0 v.1))
      (h.size ∙ z.next)

-- what was written last is what a node holds
pub holds_after : (old mid new : Nodes) (key : ℕ) (a b : Content) (x : Node) → IsNode old key x → Holds old mid key a → Holds mid new key b → Holds old new key b
holds_after old mid new key a b x there h k = record {
  size = k.size ∙ h.size;
  here = λ it i. k.here (record it { content = a }) (h.here it i);
  others = λ m d. k.others m d ∙ h.others m d;
}

pub no_namespace : (t : NameTable) (n : ℕ) → AreNames t → n < length t.names → IsNamespace (expanded_of t n).namespace
no_namespace t n sound l = by (space_of t n == absent_space) refl
  where
    first : slice_get t.spaces 0 ≡ Some []
    first = slice_get-Begins first_spaces t.spaces sound.begins 0 [] refl

    within : space_of t n < length t.spaces
    within = sound.within n (space_of t n) (local_of t n) (slice_get-get_or t.names n (0, []) l)

    by : (b : Bool) → (space_of t n == absent_space) ≡ b → IsNamespace (if b then None else Some (slice_index_or t.spaces (space_of t n) []))
    by true e = tt
    by false e = long (slice_index_or t.spaces (space_of t n) []) refl
      where
        long : (name : List ℕ) → slice_index_or t.spaces (space_of t n) [] ≡ name → 0 < length name
        long [] q =
            let s = slice_get-get_or t.spaces (space_of t n) [] within in
            let z : space_of t n ≡ 0 = sound.spaces_once (space_of t n) 0 [] (s ∙ ap Some q) first in
            absurd (true≢false (sym (eq-eqb (space_of t n) absent_space z) ∙ e))
        long (a ∷ name) q = omega arith

-- an element has another name
pub renamed_stands : (t : NameTable) (old new : Nodes) (d : Document) → StandsFor t old d → (key n : ℕ) (c : HoldsElement old key) → Holds old new key (contents.Element (record c.e { name = n })) → IsSound new
    → n < length t.names → StandsFor t new (renamed key (expanded_of t n) d)
renamed_stands t old new d z key n c h sound l =
    let f = element_of t old d z key c.it c.e c.is c.holds in
    let k = f.shown.known in
    let known : HasNames t c.e = subst (HasNames t) f.parts k in
    element_stands t old new d z key c (record c.e { name = n }) h sound (with_name (expanded_of t n)) (λ _. expanded_of t n) (λ a. a)
    (λ name bindings attributes children. refl)
    (record { name = l; attributes = known.attributes; bindings = known.bindings })
    refl refl refl
    (λ q. record { namespace = no_namespace t n z.table l; namespaces = q.namespaces; prefixes = q.prefixes; names = q.names; few = q.few })
