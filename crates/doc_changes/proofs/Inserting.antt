-- The nodes stand for the document with new nodes in it.
use Rattle.std.proofs.Common.{◌≡◌, ◌≢◌, ◌⊎◌, ℕ, zero, suc, ◌+◌, ◌-◌, ◌<◌, ◌≤◌, List, [], ◌∷◌, ◌++◌, length, take, insert, map, sym, ap, ◌∙◌, subst, Bool, true, false, ◌==◌, nat_le, if◌then◌else◌, None, refl, inl, inr, arith}
use Rattle.std.proofs.lemmas.Bool.{eq-eqb, eqb-true, true≢false}
use Rattle.std.proofs.lemmas.Bool.Decides.{nat_tests}
use Rattle.std.proofs.lemmas.List.{ext_get_or, get_or-take, length-take-le}
use Rattle.std.proofs.lemmas.Option.{same_Some, none-some}
use Rattle.xs_names.specs.Names.{NameTable, Grown, IsSound}
use Rattle.tree_rows.specs.Forest.{Forest, none, text, element, Document, count}
use Rattle.tree_rows.specs.Whole.{times, HasRoot}
use Rattle.tree_edits.specs.Edits.{has, Found, renumbered, append, insert_at, with_children, replaced}
use Rattle.tree_edits.specs.Tests.{with_nodes}
use Rattle.tree_edits.proofs.BlockNaming.{HaveNames}
use Rattle.tree_edits.proofs.Keeping.{IsAlone, splits, joins_at, put_kept}
use Rattle.tree_edits.proofs.Lying.{lies, times_changed}
use Rattle.doc_nodes.specs.declared.content.Content.TheVariants as contents
use Rattle.doc_nodes.specs.declared.content.Element.{Element}
use Rattle.doc_nodes.specs.Nodes.{Node, Nodes, node, IsNode, IsSound as AreSound}
use Rattle.doc_nodes.proofs.Among.{same_or_other}
use Rattle.doc_changes.specs.Stands.{firsts, StandFor, StandsFor, expanded_of, attribute_of, binding_of}
use Rattle.doc_changes.proofs.Standing.{stand_same, stand_append, stand_parts, stand_grown, firsts_append, has_times, present_times}
use Rattle.doc_changes.proofs.Changing.{stands_changed, still_there, not_key}
use Rattle.doc_changes.specs.Fits.{Fits}
use Rattle.doc_changes.specs.Planted.{Plants}
use Rattle.doc_changes.proofs.Numbering.{number_given}
use Rattle.doc_changes.proofs.Rooting.{number_in}
use Rattle.doc_changes.proofs.Placing.{IsParent, parent_of, firsts_alone, no_node_past, place_is}

-- siblings with one more among them
none_insert : (place n : ℕ) → insert [] place n ≡ n ∷ []
none_insert zero n = refl
none_insert (suc place) n = refl

insert_if : (place n m : ℕ) (ys : List ℕ) (now later : Forest) (b : Bool) → (place == 0) ≡ b → firsts now ≡ n ∷ m ∷ ys → firsts later ≡ m ∷ insert ys (place - 1) n
    → firsts (if b then now else later) ≡ insert (m ∷ ys) place n
insert_if place n m ys now later true k a c = a ∙ ap (λ j. insert (m ∷ ys) j n) (sym (eqb-true place 0 k))
insert_if place n m ys now later false k a c = c ∙ ap (λ j. insert (m ∷ ys) j n) (sym up)
  where
    up : place ≡ suc (place - 1)
    up = let d : place ≢ 0 = λ e. true≢false (sym (eq-eqb place 0 e) ∙ k) in omega (arith, d)

pub firsts_insert : (place n : ℕ) (own f : Forest) → firsts own ≡ n ∷ [] → firsts (insert_at place own f) ≡ insert (firsts f) place n
firsts_insert place n own none e = e ∙ sym (none_insert place n)
firsts_insert place n own (text m chars next) e =
    insert_if place n m (firsts next) (append own (text m chars next)) (text m chars (insert_at (place - 1) own next)) (place == 0) refl
    (firsts_append own (text m chars next) ∙ ap (λ l. l ++ m ∷ firsts next) e) (ap (λ l. m ∷ l) (firsts_insert (place - 1) n own next e))
firsts_insert place n own (element m name bindings attributes children next) e =
    insert_if place n m (firsts next) (append own (element m name bindings attributes children next)) (element m name bindings attributes children (insert_at (place - 1) own next)) (place == 0) refl
    (firsts_append own (element m name bindings attributes children next) ∙ ap (λ l. l ++ m ∷ firsts next) e) (ap (λ l. m ∷ l) (firsts_insert (place - 1) n own next e))

pub stand_insert : (t : NameTable) (ns : Nodes) (place : ℕ) (own f : Forest) → StandFor t ns own → StandFor t ns f → StandFor t ns (insert_at place own f)
stand_insert t ns place own f a b =
    let s = splits place own f in
    let parts = stand_parts t ns s.before s.after (subst (StandFor t ns) s.are b) in
    subst (StandFor t ns) (sym s.gives) (stand_append t ns s.before (append own s.after) parts.0 (stand_append t ns own s.after a parts.1))

-- the nodes of a document, where the table has more names
pub stands_grown : (t u : NameTable) (ns : Nodes) (d : Document) → Grown t u → IsSound u → StandsFor t ns d → StandsFor u ns d
stands_grown t u ns d g table z = record {
  table = table;
  links = z.links;
  tree = z.tree;
  nodes = stand_grown t u g z.table ns d.forest z.nodes;
  root = z.root;
  only = z.only;
  next = z.next;
}

-- nodes stand for one document
same_parts : (a b : Element) → contents.Element a ≡ contents.Element b → a ≡ b
same_parts a b e = cc e

same_chars : (a b : List ℕ) → contents.Chars a ≡ contents.Chars b → a ≡ b
same_chars a b e = cc e

pub same_head : (n m : ℕ) (xs ys : List ℕ) → (n ∷ xs) ≡ (m ∷ ys) → (n ≡ m) × (xs ≡ ys)
same_head n m xs ys e = (cc e, cc e)

pub forests_once : (t : NameTable) (ns : Nodes) (f g : Forest) → StandFor t ns f → StandFor t ns g → firsts f ≡ firsts g → f ≡ g
forests_once t ns none none a b e = refl
forests_once t ns none (text m chars next) a b e = let l = ap length e in absurd (omega (arith, l))
forests_once t ns none (element m name bindings attributes children next) a b e = let l = ap length e in absurd (omega (arith, l))
forests_once t ns (text n chars next) none a b e = let l = ap length e in absurd (omega (arith, l))
forests_once t ns (element n name bindings attributes children next) none a b e = let l = ap length e in absurd (omega (arith, l))
forests_once t ns (text n chars next) (text m others later) a b e =
    let h = same_head n m (firsts next) (firsts later) e in
    let same = same_Some a.0.text b.0.text (sym a.0.is ∙ ap (node ns) h.0 ∙ b.0.is) in
    let c = same_chars chars others (sym a.0.content ∙ ap (λ (x : Node). x.content) same ∙ b.0.content) in
    λ i. text (h.0 i) (c i) (forests_once t ns next later a.1 b.1 h.1 i)
forests_once t ns (text n chars next) (element m name bindings attributes children later) a b e =
    let h = same_head n m (firsts next) (firsts later) e in
    let same = same_Some a.0.text b.0.it (sym a.0.is ∙ ap (node ns) h.0 ∙ b.0.is) in
    let c : contents.Chars chars ≡ contents.Element b.0.parts = sym a.0.content ∙ ap (λ (x : Node). x.content) same ∙ b.0.content in absurd (cc c)
forests_once t ns (element n name bindings attributes children next) (text m chars later) a b e =
    let h = same_head n m (firsts next) (firsts later) e in
    let same = same_Some a.0.it b.0.text (sym a.0.is ∙ ap (node ns) h.0 ∙ b.0.is) in
    let c : contents.Element a.0.parts ≡ contents.Chars chars = sym a.0.content ∙ ap (λ (x : Node). x.content) same ∙ b.0.content in absurd (cc c)
forests_once t ns (element n name bindings attributes children next) (element m title scopes pairs below later) a b e =
    let h = same_head n m (firsts next) (firsts later) e in
    let same = same_Some a.0.it b.0.it (sym a.0.is ∙ ap (node ns) h.0 ∙ b.0.is) in
    let parts = same_parts a.0.parts b.0.parts (sym a.0.content ∙ ap (λ (x : Node). x.content) same ∙ b.0.content) in
    let names = sym a.0.name_is ∙ ap (λ (p : Element). expanded_of t p.name) parts ∙ b.0.name_is in
    let bound = sym a.0.bindings_are ∙ ap (λ (p : Element). map (binding_of t) p.bindings) parts ∙ b.0.bindings_are in
    let given = sym a.0.attributes_are ∙ ap (λ (p : Element). map (attribute_of t) p.attributes) parts ∙ b.0.attributes_are in
    let inner = forests_once t ns children below a.1 b.1 (sym a.0.children_are ∙ ap (λ (x : Node). x.children) same ∙ b.0.children_are) in
    λ i. element (h.0 i) (names i) (bound i) (given i) (inner i) (forests_once t ns next later a.2 b.2 h.1 i)

pub root_firsts : (f : Forest) → HasRoot f → firsts f ≡ 1 ∷ []
root_firsts none r = absurd r
root_firsts (text n chars next) r = absurd r
root_firsts (element n name bindings attributes children next) r = λ i. r.0 i ∷ firsts (r.1 i)

pub stands_once : (t : NameTable) (ns : Nodes) (d e : Document) → StandsFor t ns d → StandsFor t ns e → d ≡ e
stands_once t ns d e a b =
    let f = forests_once t ns d.forest e.forest a.nodes b.nodes (root_firsts d.forest a.tree.root ∙ sym (root_firsts e.forest b.tree.root)) in
    λ i. record { forest = f i; next_free = (sym a.next ∙ b.next) i }

-- numbers that were given out are cut off again
pub cut_same : (old new : Nodes) → length old ≤ length new → ((m : ℕ) → node new m ≡ node old m) → take (length old) new ≡ old
cut_same old new more same =
    let size = length-take-le (length old) new more in
    ext_get_or None (take (length old) new) old size (λ i l. get_or-take (length old) new i None (omega (arith, l, size)) ∙ same i)

module _ (t : NameTable) (old new : Nodes) (d : Document) (parent place : ℕ) (f : Forest) (z : StandsFor t old d) (fits : Fits d parent place f) (names : HaveNames f) (alone : IsAlone f)
    (plants : Plants t old new parent place f) (sound : AreSound new) where
  abbrev own : IsParent t old d parent
  own = parent_of t old d parent z fits.element

  abbrev part : Forest
  part = renumbered d.next_free f

  abbrev change : Forest → Forest
  change = with_children place part

  abbrev it : Found
  it = record { depth = (own).depth; node = element parent (own).name (own).bindings (own).attributes (own).children none }

  part_stands : StandFor t new part
  part_stands = subst (λ k. StandFor t new (renumbered k f)) z.next plants.stand

  part_first : firsts part ≡ length old ∷ []
  part_first = firsts_alone d.next_free f alone ∙ ap (λ k. k ∷ []) (sym z.next)

  -- a node of the document has a number that was given out
  given : (m : ℕ) → has m d.forest ≡ true → m < length old
  given m h = let a = (number_in d.next_free m d.forest z.tree.nodes h).1 in let b = z.next in omega (arith, a, b)

  below_in : (m : ℕ) → has m (own).children ≡ true → (has m d.forest ≡ true) × (m ≢ parent)
  below_in m h =
      let a = times_changed m parent 1 (λ node. none) d.forest it (lies parent 1 d.forest it (own).is_found) in
      let b = has_times m (own).children h in
      let c = times_changed parent parent 1 (λ node. none) d.forest it (lies parent 1 d.forest it (own).is_found) in
      let e = z.tree.differ parent in
      let k : ◌≡◌ {A = ℕ} (if parent == parent then 1 else 0) 1 = ap (λ b. if b then 1 else 0) (eq-eqb parent parent refl) in
      (present_times m d.forest (omega (arith, a, b)), not_key parent (own).children (omega (arith, c, e, k)) m h)

  children_stand : StandFor t new (own).children
  children_stand = stand_same t old new (own).children (λ m h. let w = below_in m h in plants.others m (given m w.0) w.1) (own).below

  node_stands : StandFor t new (change it.node)
  node_stands = (
    record {
      it = record (own).shown.it { children = insert (own).shown.it.children place (length old) };
      is = plants.parent (own).shown.it (own).shown.is;
      parts = (own).shown.parts;
      content = (own).shown.content;
      known = (own).shown.known;
      name_is = (own).shown.name_is;
      bindings_are = (own).shown.bindings_are;
      attributes_are = (own).shown.attributes_are;
      children_are = ap (λ l. insert l place (length old)) (own).shown.children_are ∙ sym (firsts_insert place (length old) part (own).children part_first);
    },
    stand_insert t new place part (own).children part_stands children_stand,
    tt,
  )

  more_times : (m : ℕ) → times m (change it.node) ≡ times m it.node + times m part
  more_times m = let j = (joins_at place part (own).children).numbers m in omega (arith, j)

  kept : (x : Node) → IsNode new parent x → (y : Node) × IsNode old parent y × (x.parent ≡ y.parent) × (x.depth ≡ y.depth)
  kept x h =
      let y = (own).shown.it in
      let same = same_Some x (record y { children = insert y.children place (length old) }) (sym h ∙ plants.parent y (own).shown.is) in
      (y, (own).shown.is, ap (λ (n : Node). n.parent) same, ap (λ (n : Node). n.depth) same)

  was_there : (m : ℕ) → has m d.forest ≡ true → has m (replaced parent change d.forest) ≡ true
  was_there m h = still_there d parent m change it (own).is_found (let a = more_times m in omega (arith, a)) h

  is_new : (m : ℕ) → has m part ≡ true → has m (replaced parent change d.forest) ≡ true
  is_new m h =
      let a = times_changed m parent 1 change d.forest it (lies parent 1 d.forest it (own).is_found) in
      let b = times_changed m parent 1 (λ node. none) d.forest it (lies parent 1 d.forest it (own).is_found) in
      let c = more_times m in let e = has_times m part h in
      present_times m (replaced parent change d.forest) (omega (arith, a, b, c, e))

  only : (m : ℕ) (x : Node) → IsNode new m x → has m (replaced parent change d.forest) ≡ true
  only m x h = by (nat_le (length old) m) refl
    where
      old_node : m < length old → (m ≡ parent) ⊎ (m ≢ parent) → has m d.forest ≡ true
      old_node l (inl e) = z.only m (own).shown.it (ap (node old) e ∙ (own).shown.is)
      old_node l (inr k) = z.only m x (sym (plants.others m l k) ∙ h)

      high : length old ≤ m → m < length new
      high l = by_past (nat_le (length new) m) refl
        where
          by_past : (b : Bool) → nat_le (length new) m ≡ b → m < length new
          by_past true e = absurd (none-some x (sym (no_node_past new m (grind (arith, nat_tests, e))) ∙ h))
          by_past false e = grind (arith, nat_tests, e)

      by : (b : Bool) → nat_le (length old) m ≡ b → has m (replaced parent change d.forest) ≡ true
      by true e =
          let l : length old ≤ m = grind (arith, nat_tests, e) in
          let a = high l in let s = plants.size in let n = z.next in
          is_new m (number_given d.next_free m f (omega (arith, l, n)) (omega (arith, a, s, n)))
      by false e = let l : m < length old = grind (arith, nat_tests, e) in was_there m (old_node l (same_or_other m parent))

  pub inserted : StandsFor t new (with_nodes d parent place f)
  inserted =
      stands_changed t old new d parent (d.next_free + count f) change it z sound (own).is_found
      (put_kept d parent place f (with_nodes d parent place f) (place_is t old d parent place f z fits) names z.tree).tree
      (λ m h k. plants.others m (given m h) k) kept node_stands refl only
      (plants.size ∙ ap (λ k. k + count f) z.next)
