-- A change and its inverse.
use Rattle.std.proofs.Common.{◌≡◌, ℕ, ◌+◌, ◌≤◌, true, false, Option, Some, refl, ap, ◌∙◌, arith, subst}
use Rattle.tree_rows.specs.Forest.{Forest, none, text, element, Document}
use Rattle.tree_rows.specs.Whole.{AreNodes, times, IsTree}
use Rattle.tree_edits.specs.Changes.{with_name, with_attributes}
use Rattle.tree_edits.specs.Edits.{has, Found, found, is_root, replaced, with_children, with_chars}
use Rattle.tree_edits.specs.Tests.{attributes_of, bindings_of}
use Rattle.tree_edits.proofs.Lying.{Lies, lies}
use Rattle.tree_edits.specs.Sites.{site_of, node_of, node_by, name_of, chars_of, first_number, value_of}
use Rattle.tree_edits.specs.Inverses.{Change, put_back, take_out, rename, write, reword, changed, inverse_of, written, Fits, CanWrite, IsOne}
use Rattle.tree_edits.proofs.Twice.{twice, put_taken, absent, own_one, gone}
use Rattle.tree_edits.proofs.Sited.{Restored, restored}
use Rattle.tree_edits.proofs.InverseLying.{ElementAt, element_at, text_at, found_has, nodes_lie, node_of_one, none_zero, parent_there}
use Rattle.tree_edits.proofs.Written.{written_back}

-- an element and a text, as they are found
abbrev pub at_element : (key : ℕ) (f : Forest) → ElementAt key f → Found
at_element key f e = record { depth = e.depth; node = element key e.name e.bindings e.attributes e.children none }

pub element_lies : (key : ℕ) (f : Forest) (e : ElementAt key f) → Lies key 1 f (at_element key f e)
element_lies key f e = lies key 1 f (at_element key f e) e.is_found

pub element_named : (d : Document) → IsTree d → (key : ℕ) (e : ElementAt key d.forest) → AreNodes d.next_free (element key e.name e.bindings e.attributes e.children none)
element_named d t key e = nodes_lie d.next_free key 1 d.forest (at_element key d.forest e) (element_lies key d.forest e) t.nodes

-- the first number of a part is of no node
pub part_absent : (d : Document) (part : Forest) → IsOne part → ((key : ℕ) → times key d.forest + times key part ≤ 1) → has (first_number part) d.forest ≡ false
part_absent d none o h = absurd o
part_absent d (text n chars next) o h = absent n d.forest (let e = h n in let own = own_one n n refl in omega (arith, e, own))
part_absent d (element n name bindings attributes children next) o h = absent n d.forest (let e = h n in let own = own_one n n refl in omega (arith, e, own))

-- a node that is not the root, and where it stands
pub record IsAway (d : Document) (key : ℕ) : Type 0 where
  pub it : Found
  pub is_found : found key 1 d.forest ≡ Some it
  pub back : Restored d.forest key 1 it (site_of key d.forest)

pub away : (d : Document) (key : ℕ) → IsTree d → has key d.forest ≡ true → is_root key d.forest ≡ false → IsAway d key
away d key t h o =
    let f = found_has key 1 d.forest h in
    let l = lies key 1 d.forest f.0 f.1 in
    record {
      it = f.0;
      is_found = f.1;
      back = restored key 0 0 1 d.forest f.0 l t.differ (absent 0 d.forest (none_zero d.next_free d.forest t.nodes)) (parent_there key d.forest f.0 t.root o l);
    }

-- the document from before
forests : (d : Document) (f : Forest) → f ≡ d.forest → ◌≡◌ {A = Document} (record d { forest = f }) d
forests d f e = ap (λ g. record d { forest = g }) e

pub undone : (d : Document) (c : Change) → IsTree d → Fits d c → changed (changed d c) (inverse_of d c) ≡ d
undone d (put_back parent place part) t fits =
    let e = element_at parent d.forest fits.element in
    forests d (replaced (first_number part) gone (replaced parent (with_children place part) d.forest))
    (put_taken (first_number part) parent place 1 part d.forest (at_element parent d.forest e) (element_lies parent d.forest e) refl (node_of_one part fits.one) (part_absent d part fits.one fits.differ))
undone d (take_out key) t fits =
    let a = away d key t fits.0 fits.1 in
    let site = site_of key d.forest in
    forests d (replaced site.parent (with_children site.place (node_of key d.forest)) (replaced key gone d.forest))
    (ap (λ o. replaced site.parent (with_children site.place (node_by o)) (replaced key gone d.forest)) a.is_found ∙ a.back.put)
undone d (rename key name) t fits =
    let e = element_at key d.forest fits.0 in
    forests d (replaced key (with_name (name_of (node_of key d.forest))) (replaced key (with_name name) d.forest))
    (ap (λ o. replaced key (with_name (name_of (node_by o))) (replaced key (with_name name) d.forest)) e.is_found
    ∙ twice key 1 (with_name name) (with_name e.name) d.forest (at_element key d.forest e) (element_lies key d.forest e) (refl, refl) refl)
undone d (write key name place value) t fits =
    let e = element_at key d.forest fits.0 in
    let named = (element_named d t key e).1 in
    let can = subst (λ o. CanWriteOf o) e.is_found fits.2 in
    forests d (replaced key (with_attributes (written name place (value_of name (attributes_of (found key 1 d.forest))))) (replaced key (with_attributes (written name place value)) d.forest))
    (ap (λ o. replaced key (with_attributes (written name place (value_of name (attributes_of o)))) (replaced key (with_attributes (written name place value)) d.forest)) e.is_found
    ∙ twice key 1 (with_attributes (written name place value)) (with_attributes (written name place (value_of name e.attributes))) d.forest (at_element key d.forest e) (element_lies key d.forest e) (refl, refl)
    (ap (λ l. element key e.name e.bindings l e.children none) (written_back name place value e.attributes e.bindings named.names can)))
  where
    CanWriteOf : Option Found → Type 0
    CanWriteOf o = CanWrite name place value (attributes_of o) (bindings_of o)
undone d (reword key chars) t fits =
    let e = text_at key d.forest fits in
    let it : Found = record { depth = e.depth; node = text key e.chars none } in
    forests d (replaced key (with_chars (chars_of (node_of key d.forest))) (replaced key (with_chars chars) d.forest))
    (ap (λ o. replaced key (with_chars (chars_of (node_by o))) (replaced key (with_chars chars) d.forest)) e.is_found
    ∙ twice key 1 (with_chars chars) (with_chars e.chars) d.forest it (lies key 1 d.forest it e.is_found) (refl, refl) refl)
