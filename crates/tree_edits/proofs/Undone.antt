-- An edit is a change once its numbers were given out, and its inverse undoes it.
use Rattle.std.proofs.Common.{◌≡◌, ℕ, ◌+◌, ◌≤◌, List, [], ◌∷◌, Bool, true, false, nat_lt, Some, None, Ok, refl, sym, ap, ◌∙◌, arith, subst}
use Rattle.std.specs.Prelude.{not}
use Rattle.std.specs.List.{list_any}
use Rattle.std.proofs.lemmas.Bool.{or_parts, true≢false}
use Rattle.std.proofs.lemmas.Bool.Decides.{nat_tests}
use Rattle.item_listing.specs.declared.item.Item.{Item}
use Rattle.tree_rows.specs.Forest.{Forest, none, text, element, Document, count, deepest_of}
use Rattle.tree_rows.specs.Whole.{AreNodes, IsTree}
use Rattle.tree_rows.specs.declared.name.Expanded.{Expanded}
use Rattle.tree_rows.specs.declared.row.Attribute.{Attribute}
use Rattle.tree_rows.specs.declared.row.Binding.{Binding}
use Rattle.tag_names.specs.Scopes.{first_scope}
use Rattle.tag_names.specs.Resolving.{binds}
use Rattle.tag_names.specs.Faults.{is_no_qname, is_unbound, is_xmlns}
use Rattle.tag_names.specs.Tags.{prefix_of}
use Rattle.tree_building.specs.Blocks.{one_element}
use Rattle.tree_building.specs.Building.{block}
use Rattle.tree_edits.specs.Blocks.{has_bad_name, has_unbound, uses_reserved, has_too_many, has_double}
use Rattle.tree_edits.specs.Changes.{has_name, set_in, with_name, with_attributes}
use Rattle.tree_edits.specs.Edits.{Found, found, is_root, replaced, renumbered, scope_in, names_scope, can_be_made, too_many_more}
use Rattle.tree_edits.specs.Tests.{Test, test, depth_of, name_tests, size_tests, attribute_tests, tags_below, first_refusal, tests_of, edited, made, is_missing, is_element, is_text, attributes_of, bindings_of, width_of, attribute_named, new_name, has_attribute, is_full, element_tests, qname_tests, put_tests}
use Rattle.tree_edits.specs.declared.edit.Edit.{Edit}
use Rattle.tree_edits.specs.declared.edit.Edit.TheVariants as edits
use Rattle.tree_edits.specs.declared.edit.EditError.TheVariants.{TooManyNodes, TooDeep, DoubleAttribute, UnknownNode, NotElement, NotText, RootFixed, BadIndex, BadName, UnboundPrefix, ReservedName, NoSuchAttribute, TooManyAttributes}
use Rattle.tree_edits.proofs.Lying.{lies}
use Rattle.tree_edits.proofs.Keeping.{nodes_more}
use Rattle.tree_edits.proofs.Testing.{edited_keeps}
use Rattle.tree_edits.specs.Sites.{place_of}
use Rattle.tree_edits.specs.Inverses.{Change, put_back, take_out, rename, write, reword, changed, inverse_of, written, Fits, IsOne}
use Rattle.tree_edits.specs.EditChanges.{change_of}
use Rattle.tree_edits.proofs.Twice.{IsNodeOf, found_changed}
use Rattle.tree_edits.proofs.InverseLying.{ElementAt, element_at, nodes_lie}
use Rattle.tree_edits.proofs.Inverses.{at_element, element_lies, element_named, undone}
use Rattle.tree_edits.proofs.Edited.{made_ok, passes, element_of_tests, text_of_tests, not_missing, there, fits_put, one_block, set_written, at_place_of, can_set, space_set, space_has, replaced_same}

-- the tests of an edit that is made
put_tested : (d : Document) (parent place : ℕ) (more : List Test) → first_refusal (put_tests d parent place more) ≡ None
    → (is_element (found parent 1 d.forest) ≡ true) × (place ≤ width_of (found parent 1 d.forest)) × (first_refusal more ≡ None)
put_tested d parent place more h =
    let last : List Test = test (nat_lt (width_of (found parent 1 d.forest)) place) BadIndex ∷ more in
    let a = passes (is_missing (found parent 1 d.forest)) UnknownNode (test (is_text (found parent 1 d.forest)) NotElement ∷ last) h in
    let b = passes (is_text (found parent 1 d.forest)) NotElement last a.1 in
    let c = passes (nat_lt (width_of (found parent 1 d.forest)) place) BadIndex more b.1 in
    let k = c.0 in
    (element_of_tests (found parent 1 d.forest) a.0 b.0, grind (arith, nat_tests, k), c.1)

element_tested : (d : Document) (key : ℕ) (more : List Test) → first_refusal (element_tests d key more) ≡ None → (is_element (found key 1 d.forest) ≡ true) × (first_refusal more ≡ None)
element_tested d key more h =
    let a = passes (is_missing (found key 1 d.forest)) UnknownNode (test (is_text (found key 1 d.forest)) NotElement ∷ more) h in
    let b = passes (is_text (found key 1 d.forest)) NotElement more a.1 in
    (element_of_tests (found key 1 d.forest) a.0 b.0, b.1)

name_tested : (scope : List Binding) (name : List ℕ) (reserved : Bool) (more : List Test) → first_refusal (qname_tests scope name reserved more) ≡ None → first_refusal more ≡ None
name_tested scope name reserved more h =
    let last : List Test = test reserved ReservedName ∷ more in
    let a = passes (is_no_qname name) BadName (test (is_unbound scope (prefix_of name)) UnboundPrefix ∷ last) h in
    let b = passes (is_unbound scope (prefix_of name)) UnboundPrefix last a.1 in
    (passes reserved ReservedName more b.1).1

-- the tests behind those of the element
abbrev rename_more : Document → ℕ → List ℕ → List Test
rename_more d key name = qname_tests (names_scope d key) name (is_xmlns (prefix_of name)) []

abbrev set_last : Document → ℕ → List ℕ → List Test
set_last d key name = test (is_full d key (attribute_named d key name)) TooManyAttributes ∷ []

abbrev set_more : Document → ℕ → List ℕ → List Test
set_more d key name = qname_tests (names_scope d key) name (binds name) (set_last d key name)

abbrev unset_last : Document → ℕ → List ℕ → List Test
unset_last d key name = test (not (has_attribute d key (attribute_named d key name))) NoSuchAttribute ∷ []

abbrev unset_more : Document → ℕ → List ℕ → List Test
unset_more d key name = qname_tests (names_scope d key) name (binds name) (unset_last d key name)

abbrev insert_more : Document → ℕ → List Item → List Test
insert_more d parent its =
    name_tests (tags_below d parent its) (size_tests d parent (block (scope_in parent first_scope d.forest) its) (attribute_tests (tags_below d parent its)))

few_nodes : (d : Document) (more : ℕ) → too_many_more d more ≡ false → more ≤ 131072
few_nodes d more e =
    let z = (or_parts (nat_lt 131072 (count d.forest + more)) (nat_lt 4294967295 (d.next_free + more)) e).0 in
    grind (arith, nat_tests, z)

block_tested : (d : Document) (parent : ℕ) (its : List Item) → one_element its ≡ true → first_refusal (insert_more d parent its) ≡ None
    → IsOne (renumbered d.next_free (block (scope_in parent first_scope d.forest) its))
block_tested d parent its one h =
    let tags = tags_below d parent its in
    let scope = scope_in parent first_scope d.forest in
    let depth = depth_of (found parent 1 d.forest) in
    let last : List Test = test (list_any has_double tags) DoubleAttribute ∷ [] in
    let sizes : List Test = size_tests d parent (block scope its) (attribute_tests tags) in
    let a = passes (list_any has_bad_name tags) BadName (test (list_any has_unbound tags) UnboundPrefix ∷ test (list_any uses_reserved tags) ReservedName ∷ sizes) h in
    let b = passes (list_any has_unbound tags) UnboundPrefix (test (list_any uses_reserved tags) ReservedName ∷ sizes) a.1 in
    let c = passes (list_any uses_reserved tags) ReservedName sizes b.1 in
    let e = passes (too_many_more d (count (block scope its))) TooManyNodes (test (nat_lt 128 (deepest_of (depth + 1) (block scope its))) TooDeep ∷ attribute_tests tags) c.1 in
    let f = passes (nat_lt 128 (deepest_of (depth + 1) (block scope its))) TooDeep (attribute_tests tags) e.1 in
    let g = passes (list_any has_too_many tags) TooManyAttributes last f.1 in
    let k = passes (list_any has_double tags) DoubleAttribute [] g.1 in
    let low = f.0 in
    one_block scope its d.next_free depth one g.0 k.0 (few_nodes d (count (block scope its)) e.0) (grind (arith, nat_tests, low))

-- the document with the number of what comes next
same_forest : (m e : Document) → m ≡ e → ◌≡◌ {A = Document} (record { forest = m.forest; next_free = e.next_free }) e
same_forest m e p = λ i. record { forest = (p i).forest; next_free = e.next_free }

attributes_set : (d : Document) (key : ℕ) (name : Expanded) (value : List ℕ) → is_element (found key 1 d.forest) ≡ true
    → replaced key (with_attributes (written name (place_of name (attributes_of (found key 1 d.forest))) (Some value))) d.forest ≡ replaced key (with_attributes (set_in name value)) d.forest
attributes_set d key name value is =
    let e = element_at key d.forest is in
    replaced_same key 1 (with_attributes (written name (place_of name (attributes_of (found key 1 d.forest))) (Some value))) (with_attributes (set_in name value)) d.forest (at_element key d.forest e) (element_lies key d.forest e)
    (ap (λ l. element key e.name e.bindings l e.children none)
    (ap (λ o. written name (place_of name (attributes_of o)) (Some value) e.attributes) e.is_found ∙ set_written name value e.attributes))

pub is_change : (d e : Document) (edit : Edit) → edited d edit ≡ Ok e → changed (record d { next_free = e.next_free }) (change_of d edit) ≡ e
is_change d e (edits.Insert parent place its) h = same_forest (made d (edits.Insert parent place its)) e (made_ok (first_refusal (tests_of d (edits.Insert parent place its))) (made d (edits.Insert parent place its)) e h).1
is_change d e (edits.AddText parent place chars) h = same_forest (made d (edits.AddText parent place chars)) e (made_ok (first_refusal (tests_of d (edits.AddText parent place chars))) (made d (edits.AddText parent place chars)) e h).1
is_change d e (edits.SetText key chars) h = same_forest (made d (edits.SetText key chars)) e (made_ok (first_refusal (tests_of d (edits.SetText key chars))) (made d (edits.SetText key chars)) e h).1
is_change d e (edits.Remove key) h = same_forest (made d (edits.Remove key)) e (made_ok (first_refusal (tests_of d (edits.Remove key))) (made d (edits.Remove key)) e h).1
is_change d e (edits.Rename key name) h = same_forest (made d (edits.Rename key name)) e (made_ok (first_refusal (tests_of d (edits.Rename key name))) (made d (edits.Rename key name)) e h).1
is_change d e (edits.SetAttr key name value) h =
    let m = made_ok (first_refusal (tests_of d (edits.SetAttr key name value))) (made d (edits.SetAttr key name value)) e h in
    let is = (element_tested d key (set_more d key name) m.0).0 in
    ap (λ f. record { forest = f; next_free = e.next_free }) (attributes_set d key (attribute_named d key name) value is) ∙ same_forest (made d (edits.SetAttr key name value)) e m.1
is_change d e (edits.UnsetAttr key name) h = same_forest (made d (edits.UnsetAttr key name)) e (made_ok (first_refusal (tests_of d (edits.UnsetAttr key name))) (made d (edits.UnsetAttr key name)) e h).1

is_true : (b : Bool) → not b ≡ false → b ≡ true
is_true true h = refl
is_true false h = absurd (true≢false h)

-- the tree after the edit, as a changed one
tree_then : (d e : Document) (edit : Edit) → IsTree d → edited d edit ≡ Ok e → IsTree (changed (record d { next_free = e.next_free }) (change_of d edit))
tree_then d e edit t h = subst IsTree (sym (is_change d e edit h)) (edited_keeps d edit e t h).tree

-- what an element holds then
element_then : (d : Document) (free key : ℕ) (change : Forest → Forest) (e : ElementAt key d.forest) (name : Expanded) (attributes : List Attribute)
    → change (element key e.name e.bindings e.attributes e.children none) ≡ element key name e.bindings attributes e.children none
    → AreNodes free (replaced key change d.forest) → AreNodes free (element key name e.bindings attributes e.children none)
element_then d free key change e name attributes gives a =
    let it = at_element key d.forest e in
    let now : Found = record { depth = e.depth; node = element key name e.bindings attributes e.children none } in
    let q = found_changed key 1 change d.forest it (element_lies key d.forest e) (subst (λ g. IsNodeOf key g) (sym gives) (refl, refl)) ∙ ap (λ g. Some (record { depth = e.depth; node = g })) gives in
    nodes_lie free key 1 (replaced key change d.forest) now (lies key 1 (replaced key change d.forest) now q) a

pub edit_fits : (d e : Document) (edit : Edit) → can_be_made edit ≡ true → IsTree d → edited d edit ≡ Ok e → Fits (record d { next_free = e.next_free }) (change_of d edit)
edit_fits d e (edits.Insert parent place its) one t h =
    let m = made_ok (first_refusal (tests_of d (edits.Insert parent place its))) (made d (edits.Insert parent place its)) e h in
    let p = put_tested d parent place (insert_more d parent its) m.0 in
    let scope = scope_in parent first_scope d.forest in
    fits_put d e.next_free parent place (renumbered d.next_free (block scope its)) p.0 p.1 (block_tested d parent its one p.2) (tree_then d e (edits.Insert parent place its) t h)
edit_fits d e (edits.AddText parent place chars) one t h =
    let m = made_ok (first_refusal (tests_of d (edits.AddText parent place chars))) (made d (edits.AddText parent place chars)) e h in
    let p = put_tested d parent place (size_tests d parent (text 0 chars none) []) m.0 in
    fits_put d e.next_free parent place (renumbered d.next_free (text 0 chars none)) p.0 p.1 refl (tree_then d e (edits.AddText parent place chars) t h)
edit_fits d e (edits.SetText key chars) one t h =
    let m = made_ok (first_refusal (tests_of d (edits.SetText key chars))) (made d (edits.SetText key chars)) e h in
    let a = passes (is_missing (found key 1 d.forest)) UnknownNode (test (is_element (found key 1 d.forest)) NotText ∷ []) m.0 in
    let b = passes (is_element (found key 1 d.forest)) NotText [] a.1 in
    text_of_tests (found key 1 d.forest) a.0 b.0
edit_fits d e (edits.Remove key) one t h =
    let m = made_ok (first_refusal (tests_of d (edits.Remove key))) (made d (edits.Remove key)) e h in
    let a = passes (is_missing (found key 1 d.forest)) UnknownNode (test (is_root key d.forest) RootFixed ∷ []) m.0 in
    let b = passes (is_root key d.forest) RootFixed [] a.1 in
    let i = not_missing (found key 1 d.forest) a.0 in
    (there key 1 d.forest i.0 (lies key 1 d.forest i.0 i.1), b.0)
edit_fits d e (edits.Rename key name) one t h =
    let m = made_ok (first_refusal (tests_of d (edits.Rename key name))) (made d (edits.Rename key name)) e h in
    let is = (element_tested d key (rename_more d key name) m.0).0 in
    let at = element_at key d.forest is in
    let n = element_then d e.next_free key (with_name (new_name d key name)) at (new_name d key name) at.attributes refl (tree_then d e (edits.Rename key name) t h).nodes in
    (is, n.1.namespace)
edit_fits d e (edits.SetAttr key name value) one t h =
    let m = made_ok (first_refusal (tests_of d (edits.SetAttr key name value))) (made d (edits.SetAttr key name value)) e h in
    let s = element_tested d key (set_more d key name) m.0 in
    let own = attribute_named d key name in
    let at = element_at key d.forest s.0 in
    let room = passes (is_full d key own) TooManyAttributes [] (name_tested (names_scope d key) name (binds name) (set_last d key name) s.1) in
    let trees = subst IsTree (sym m.1) (edited_keeps d (edits.SetAttr key name value) e t h).tree in
    let n = element_then d (made d (edits.SetAttr key name value)).next_free key (with_attributes (set_in own value)) at at.name (set_in own value at.attributes) refl trees.nodes in
    (s.0, space_set own value at.attributes n.1.namespaces, can_set own value (attributes_of (found key 1 d.forest)) (bindings_of (found key 1 d.forest)) room.0)
edit_fits d e (edits.UnsetAttr key name) one t h =
    let m = made_ok (first_refusal (tests_of d (edits.UnsetAttr key name))) (made d (edits.UnsetAttr key name)) e h in
    let s = element_tested d key (unset_more d key name) m.0 in
    let own = attribute_named d key name in
    let at = element_at key d.forest s.0 in
    let lacks = passes (not (has_attribute d key own)) NoSuchAttribute [] (name_tested (names_scope d key) name (binds name) (unset_last d key name) s.1) in
    let has = is_true (has_attribute d key own) lacks.0 in
    let n = element_named d t key at in
    (s.0, space_has own at.attributes (subst (λ o. has_name own (attributes_of o) ≡ true) at.is_found has) n.1.namespaces, at_place_of own (attributes_of (found key 1 d.forest)) has)

-- the inverse goes by the tree alone
inverse_same : (d : Document) (free : ℕ) (c : Change) → inverse_of (record d { next_free = free }) c ≡ inverse_of d c
inverse_same d free (put_back parent place part) = refl
inverse_same d free (take_out key) = refl
inverse_same d free (rename key name) = refl
inverse_same d free (write key name place value) = refl
inverse_same d free (reword key chars) = refl

pub edit_undone : (d e : Document) (edit : Edit) → can_be_made edit ≡ true → IsTree d → edited d edit ≡ Ok e → changed e (inverse_of d (change_of d edit)) ≡ record d { next_free = e.next_free }
edit_undone d e edit one t h =
    let more : Document = record d { next_free = e.next_free } in
    let free = (edited_keeps d edit e t h).numbers.free in
    let tree : IsTree more = record { root = t.root; nodes = nodes_more d.next_free e.next_free d.forest free t.nodes; differ = t.differ; few = t.few; shallow = t.shallow } in
    let c = change_of d edit in
    ap (λ x. changed x (inverse_of d c)) (sym (is_change d e edit h)) ∙ ap (changed (changed more c)) (sym (inverse_same d e.next_free c)) ∙ undone more c tree (edit_fits d e edit one t h)
