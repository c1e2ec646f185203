-- The changed document is a tree, and the inverse fits it.
use Rattle.std.proofs.Common.{◌≡◌, ℕ, ◌+◌, ◌≤◌, List, false, ◌==◌, ◌||◌, Option, refl, sym, ap, ◌∙◌, arith, subst}
use Rattle.std.proofs.lemmas.Bool.{or_parts, true≢false}
use Rattle.tree_rows.specs.Forest.{Forest, none, text, element, Document, count, deepest_of}
use Rattle.tree_rows.specs.Whole.{IsNamed, IsNamespace, AreNodes, times, HasRoot, IsTree}
use Rattle.tree_rows.specs.declared.name.Expanded.{Expanded}
use Rattle.tree_rows.specs.declared.row.Attribute.{Attribute}
use Rattle.tree_edits.specs.Changes.{with_name, with_attributes}
use Rattle.tree_edits.specs.Edits.{has, Found, found, is_root, replaced, insert_at, with_children, with_chars}
use Rattle.tree_edits.specs.Tests.{is_element, is_text, attributes_of, bindings_of, depth_of, width_of}
use Rattle.tree_edits.proofs.Lying.{lies, times_changed, count_changed, deepest_here}
use Rattle.tree_edits.proofs.Keeping.{changed_tree, children_put, joins_at}
use Rattle.tree_edits.specs.Sites.{site_of, node_by, name_of, first_number, value_of}
use Rattle.tree_edits.specs.Inverses.{Change, put_back, take_out, rename, write, reword, changed, inverse_of, written, Fits, CanPutBack, CanWrite}
use Rattle.tree_edits.proofs.Twice.{has_put, found_changed, gone}
use Rattle.tree_edits.proofs.InverseLying.{ElementAt, TextAt, element_at, text_at, one_lies, nodes_lie, one_of_node, node_of_one, root_stays}
use Rattle.tree_edits.proofs.Written.{can_write_back, named_written}
use Rattle.tree_edits.proofs.Inverses.{at_element, element_lies, element_named, part_absent, away}

abbrev at_text : (key : ℕ) (f : Forest) → TextAt key f → Found
at_text key f e = record { depth = e.depth; node = text key e.chars none }

-- what an element holds can be written
abbrev CanWriteOf : Expanded → ℕ → Option (List ℕ) → Option Found → Type 0
CanWriteOf name place value o = CanWrite name place value (attributes_of o) (bindings_of o)

can_of : (d : Document) (key : ℕ) (name : Expanded) (place : ℕ) (value : Option (List ℕ)) (e : ElementAt key d.forest) → CanWriteOf name place value (found key 1 d.forest)
    → CanWrite name place value e.attributes e.bindings
can_of d key name place value e can = subst (CanWriteOf name place value) e.is_found can

-- an element that holds something else keeps a tree
element_kept : (d : Document) (key : ℕ) (e : ElementAt key d.forest) (name : Expanded) (attributes : List Attribute) (change : Forest → Forest) → IsTree d
    → change (element key e.name e.bindings e.attributes e.children none) ≡ element key name e.bindings attributes e.children none → IsNamed name e.bindings attributes
    → IsTree (record { forest = replaced key change d.forest; next_free = d.next_free })
element_kept d key e name attributes change t gives named =
    let it = at_element key d.forest e in
    let low = deepest_here key 1 d.forest it (element_lies key d.forest e) in let o = t.shallow in
    changed_tree d key d.next_free change none it t e.is_found (omega arith)
    (λ _ r. subst HasRoot (sym gives) r)
    (λ a. subst (AreNodes d.next_free) (sym gives) (a.0, named, a.2, tt))
    (λ j. let g = ap (times j) gives in omega (arith, g))
    (λ j. let e = t.differ j in omega (arith, e))
    (let g = ap count gives in omega (arith, g))
    (let e = t.few in omega (arith, e))
    (let g = ap (deepest_of e.depth) gives in omega (arith, g, low, o))

pub kept : (d : Document) (c : Change) → IsTree d → Fits d c → IsTree (changed d c)
kept d (put_back parent place part) t fits =
    let e = element_at parent d.forest fits.element in
    children_put d parent d.next_free e.depth parent e.name e.bindings e.attributes e.children (with_children place part) part (insert_at place part e.children) t e.is_found refl
    (joins_at place part e.children) (omega arith) fits.nodes fits.differ fits.few (subst (λ o. deepest_of (depth_of o + 1) part ≤ 128) e.is_found fits.shallow)
kept d (take_out key) t fits =
    let a = away d key t fits.0 fits.1 in
    changed_tree d key d.next_free (λ node. none) none a.it t a.is_found (omega arith) (λ root _. absurd (true≢false (sym root ∙ fits.1))) (λ _. tt) (λ j. omega arith)
    (λ j. let e = t.differ j in omega (arith, e)) (omega arith) (let e = t.few in omega (arith, e)) (omega arith)
kept d (rename key name) t fits =
    let e = element_at key d.forest fits.0 in
    let n = (element_named d t key e).1 in
    element_kept d key e name e.attributes (with_name name) t refl
    (record { namespace = fits.1; namespaces = n.namespaces; prefixes = n.prefixes; names = n.names; few = n.few })
kept d (write key name place value) t fits =
    let e = element_at key d.forest fits.0 in
    let n = (element_named d t key e).1 in
    element_kept d key e e.name (written name place value e.attributes) (with_attributes (written name place value)) t refl
    (named_written e.name name place value e.attributes e.bindings fits.1 n (can_of d key name place value e fits.2))
kept d (reword key chars) t fits =
    let e = text_at key d.forest fits in
    changed_tree d key d.next_free (with_chars chars) none (at_text key d.forest e) t e.is_found (omega arith) (λ _ r. absurd r) (λ a. a) (λ j. omega arith)
    (λ j. let e = t.differ j in omega (arith, e)) (omega arith) (let e = t.few in omega (arith, e)) (omega arith)

-- the root has another number
not_first : (key : ℕ) (f : Forest) → has key f ≡ false → is_root key f ≡ false
not_first key none h = refl
not_first key (text n chars next) h = (or_parts (n == key) (has key next) h).0
not_first key (element n name bindings attributes children next) h = (or_parts (n == key) (has key children || has key next) h).0

pub fits_back : (d : Document) (c : Change) → IsTree d → Fits d c → Fits (changed d c) (inverse_of d c)
fits_back d (put_back parent place part) t fits =
    let e = element_at parent d.forest fits.element in
    let n = first_number part in (
      has_put n parent place 1 part d.forest (at_element parent d.forest e) (element_lies parent d.forest e) refl (node_of_one part fits.one),
      root_stays n parent (with_children place part) d.forest t.root (λ m name bindings attributes children. refl) (λ m name bindings attributes children next. refl)
          ∙ not_first n d.forest (part_absent d part fits.one fits.differ),
    )
fits_back d (take_out key) t fits =
    let a = away d key t fits.0 fits.1 in
    let site = site_of key d.forest in
    let l = lies key 1 d.forest a.it a.is_found in
    let r = a.back in
    subst (CanPutBack (changed d (take_out key)) site.parent site.place) (sym (ap node_by a.is_found)) (record {
      element = ap is_element r.is_found;
      within = subst (λ o. site.place ≤ width_of o) (sym r.is_found) r.within;
      one = one_of_node key a.it.node (one_lies key 1 d.forest a.it l);
      nodes = nodes_lie d.next_free key 1 d.forest a.it l t.nodes;
      differ = λ j. let x = times_changed j key 1 gone d.forest a.it l in let y = t.differ j in omega (arith, x, y);
      few = (let x = count_changed key 1 gone d.forest a.it l in let y = t.few in omega (arith, x, y));
      shallow = subst (λ o. deepest_of (depth_of o + 1) a.it.node ≤ 128) (sym r.is_found)
          (subst (λ k. deepest_of k a.it.node ≤ 128) (sym r.below) (let x = deepest_here key 1 d.forest a.it l in let y = t.shallow in omega (arith, x, y)));
    })
fits_back d (rename key name) t fits =
    let e = element_at key d.forest fits.0 in
    let n = (element_named d t key e).1 in
    let q = found_changed key 1 (with_name name) d.forest (at_element key d.forest e) (element_lies key d.forest e) (refl, refl) in
    (ap is_element q, subst (λ o. IsNamespace (name_of (node_by o)).namespace) (sym e.is_found) n.namespace)
fits_back d (write key name place value) t fits =
    let e = element_at key d.forest fits.0 in
    let n = (element_named d t key e).1 in
    let q = found_changed key 1 (with_attributes (written name place value)) d.forest (at_element key d.forest e) (element_lies key d.forest e) (refl, refl) in (
      ap is_element q,
      fits.1,
      subst (CanWriteOf name place (value_of name (attributes_of (found key 1 d.forest)))) (sym q)
          (subst (λ o. CanWrite name place (value_of name (attributes_of o)) (written name place value e.attributes) e.bindings) (sym e.is_found)
          (can_write_back e.name name place value e.attributes e.bindings n (can_of d key name place value e fits.2))),
    )
fits_back d (reword key chars) t fits =
    let e = text_at key d.forest fits in
    ap is_text (found_changed key 1 (with_chars chars) d.forest (at_text key d.forest e) (lies key 1 d.forest (at_text key d.forest e) e.is_found) (refl, refl))
