-- An edit is refused by the first of its tests that stands.
use Rattle.std.proofs.Common.{◌≡◌, ℕ, ◌+◌, List, [], Bool, true, false, Option, Some, None, Result, Ok, Err, if◌then◌else◌, ◌==◌, nat_lt, refl, sym, ◌∙◌}
use Rattle.std.specs.Prelude.{not}
use Rattle.std.specs.List.{list_any}
use Rattle.tree_rows.specs.declared.limits.TheConstants.{MAX_DEPTH}
use Rattle.tree_rows.specs.Forest.{Forest, none, text, element, Document, count, deepest_of}
use Rattle.tree_rows.specs.declared.name.Expanded.{Expanded}
use Rattle.tree_rows.specs.declared.row.Attribute.{Attribute}
use Rattle.tree_rows.specs.declared.row.Binding.{Binding}
use Rattle.item_listing.specs.declared.item.Item.{Item}
use Rattle.tag_names.specs.Faults.{is_no_qname, is_unbound, is_xmlns}
use Rattle.tag_names.specs.Resolving.{binds}
use Rattle.tag_names.specs.Scopes.{first_scope}
use Rattle.tag_names.specs.Tags.{prefix_of}
use Rattle.tag_names.specs.declared.fault.NameReason.TheVariants as reasons
use Rattle.tree_building.specs.Building.{block}
use Rattle.tree_edits.specs.Blocks.{Placed, tags_in, judged, late, has_bad_name, has_unbound, uses_reserved, has_too_many, has_double}
use Rattle.tree_edits.specs.Edits.{Found, found, has, width, scope_in, put_into, put_at, put_within, insert_within, unless, then_unless, reword, reword_at, remove, change_element, by_name, rename, set_attribute, unset_attribute, names_scope, after, too_many_more, is_root}
use Rattle.tree_edits.specs.Tests.{Test, first_refusal, is_missing, is_text, is_element, width_of, depth_of, name_tests, size_tests, attribute_tests, with_nodes, made, attributes_of, bindings_of, new_name, attribute_named, is_full, has_attribute, unless_refused, edited}
use Rattle.tree_rows.specs.Whole.{IsTree}
use Rattle.tree_edits.specs.Keeping.{KeepsTree}
use Rattle.tree_edits.proofs.Keeping.{edit_keeps}
use Rattle.tree_edits.specs.declared.edit.Edit.{Edit}
use Rattle.tree_edits.specs.declared.edit.Edit.TheVariants as edits
use Rattle.tree_edits.specs.declared.edit.EditError.{EditError}
use Rattle.tree_edits.specs.declared.edit.EditError.TheVariants.{UnknownNode, NotElement, NotText, RootFixed, BadIndex, BadName, UnboundPrefix, ReservedName, NoSuchAttribute, TooManyNodes, TooDeep, TooManyAttributes, DoubleAttribute}

-- what tests answer, where the edit makes this document
abbrev Answer : List Test → Document → Result Document EditError
Answer tests d = unless_refused (first_refusal tests) d

-- the last tests
attributes_tested : (tags : List Placed) (d : Document) → Answer (attribute_tests tags) d ≡ then_unless (Ok d) (late (judged tags))
attributes_tested tags d = by (list_any has_too_many tags) (list_any has_double tags)
  where
    by : (many double : Bool)
        → unless_refused (if many then Some TooManyAttributes else (if double then Some DoubleAttribute else None)) d
        ≡ unless (if many then Some TooManyAttributes else (if double then Some DoubleAttribute else None)) (Ok d)
    by true double = refl
    by false true = refl
    by false false = refl

-- those of sizes, before some more
sizes_tested : (d : Document) (parent place depth : ℕ) (new : Forest) (more : List Test) (refusal : Option EditError)
    → Answer more (with_nodes d parent place new) ≡ then_unless (Ok (with_nodes d parent place new)) refusal
    → (many deep : Bool)
    → unless_refused (if many then Some TooManyNodes else (if deep then Some TooDeep else first_refusal more)) (with_nodes d parent place new)
    ≡ then_unless (if many then Err TooManyNodes else (if deep then Err TooDeep else Ok (with_nodes d parent place new))) refusal
sizes_tested d parent place depth new more refusal later true deep = refl
sizes_tested d parent place depth new more refusal later false true = refl
sizes_tested d parent place depth new more refusal later false false = later

-- those of names, before some more
names_tested : (d : Document) (more : Option EditError) (end : Result Document EditError) → unless_refused more d ≡ end → (bad unbound reserved : Bool)
    → unless_refused (if bad then Some BadName else (if unbound then Some UnboundPrefix else (if reserved then Some ReservedName else more))) d
    ≡ unless (if bad then Some BadName else (if unbound then Some UnboundPrefix else (if reserved then Some ReservedName else None))) end
names_tested d more end later true unbound reserved = refl
names_tested d more end later false true reserved = refl
names_tested d more end later false false true = refl
names_tested d more end later false false false = later

-- a test before others
first_tested : (d : Document) (error : EditError) (more : Option EditError) (end : Result Document EditError) → unless_refused more d ≡ end → (stands : Bool)
    → unless_refused (if stands then Some error else more) d ≡ (if stands then Err error else end)
first_tested d error more end later true = refl
first_tested d error more end later false = later

-- those of a place among children, before some more
place_tested : (place : ℕ) (d : Document) (f : Option Found) (more : Option EditError) (change : ℕ → Result Document EditError)
    → unless_refused more d ≡ change (depth_of f)
    → unless_refused (if is_missing f then Some UnknownNode else (if is_text f then Some NotElement else (if nat_lt (width_of f) place then Some BadIndex else more))) d ≡ put_at place change f
place_tested place d None more change later = refl
place_tested place d (Some it) more change later = by it.depth it.node later
  where
    by : (depth : ℕ) (node : Forest) → unless_refused more d ≡ change depth
        → (let f : Option Found = Some (record { depth = depth; node = node }) in
        unless_refused (if is_missing f then Some UnknownNode else (if is_text f then Some NotElement else (if nat_lt (width_of f) place then Some BadIndex else more))) d ≡ put_into place change depth node)
    by depth none later = refl
    by depth (text number chars next) later = refl
    by depth (element number name bindings attributes children next) later = first_tested d BadIndex more (change depth) later (nat_lt (width children) place)

insert_tested : (d : Document) (parent place : ℕ) (its : List Item) → edited d (edits.Insert parent place its) ≡ after d (edits.Insert parent place its)
insert_tested d parent place its =
    let scope : List Binding = scope_in parent first_scope d.forest in
    let new : Forest = block scope its in
    let tags : List Placed = tags_in scope [] its in
    let f : Option Found = found parent 1 d.forest in
    place_tested place (with_nodes d parent place new) f (first_refusal (name_tests tags (size_tests d parent new (attribute_tests tags)))) (insert_within d parent place scope its)
    (names_tested (with_nodes d parent place new) (first_refusal (size_tests d parent new (attribute_tests tags))) (then_unless (put_within d parent place new (depth_of f)) (late (judged tags)))
    (sizes_tested d parent place (depth_of f) new (attribute_tests tags) (late (judged tags)) (attributes_tested tags (with_nodes d parent place new))
    (too_many_more d (count new)) (nat_lt MAX_DEPTH (deepest_of (depth_of f + 1) new)))
    (list_any has_bad_name tags) (list_any has_unbound tags) (list_any uses_reserved tags))

then_none : (end : Result Document EditError) → then_unless end None ≡ end
then_none (Ok d) = refl
then_none (Err error) = refl

text_tested : (d : Document) (parent place : ℕ) (chars : List ℕ) → edited d (edits.AddText parent place chars) ≡ after d (edits.AddText parent place chars)
text_tested d parent place chars =
    let new : Forest = text 0 chars none in
    let f : Option Found = found parent 1 d.forest in
    place_tested place (with_nodes d parent place new) f (first_refusal (size_tests d parent new [])) (put_within d parent place new)
    (sizes_tested d parent place (depth_of f) new [] None refl (too_many_more d (count new)) (nat_lt MAX_DEPTH (deepest_of (depth_of f + 1) new))
    ∙ then_none (put_within d parent place new (depth_of f)))

reword_tested : (d : Document) (key : ℕ) (chars : List ℕ) (f : Option Found)
    → unless_refused (if is_missing f then Some UnknownNode else (if is_element f then Some NotText else None)) (made d (edits.SetText key chars)) ≡ reword d key chars f
reword_tested d key chars None = refl
reword_tested d key chars (Some it) = by it.depth it.node
  where
    by : (depth : ℕ) (node : Forest)
        → (let f : Option Found = Some (record { depth = depth; node = node }) in
        unless_refused (if is_missing f then Some UnknownNode else (if is_element f then Some NotText else None)) (made d (edits.SetText key chars)) ≡ reword_at d key chars node)
    by depth none = refl
    by depth (text number old next) = refl
    by depth (element number name bindings attributes children next) = refl

-- a node that is found is one
abbrev IsThere : Option Found → Type 0
IsThere None = Unit {0}
IsThere (Some it) = it.node ≡ none → ⊥

there_if : (t : Bool) (x y : Option Found) → IsThere x → IsThere y → IsThere (if t then x else y)
there_if true x y hx hy = hx
there_if false x y hx hy = hy

found_there : (key depth : ℕ) (f : Forest) → IsThere (found key depth f)
found_there key depth none = tt
found_there key depth (text number chars next) =
    there_if (number == key) (Some (record { depth = depth; node = text number chars none })) (found key depth next) (λ e. cc) (found_there key depth next)
found_there key depth (element number name bindings attributes children next) =
    there_if (number == key) (Some (record { depth = depth; node = element number name bindings attributes children none })) _ (λ e. cc)
    (there_if (has key children) (found key (depth + 1) children) (found key depth next) (found_there key (depth + 1) children) (found_there key depth next))

remove_tested : (d : Document) (key : ℕ) (f : Option Found) → IsThere f
    → unless_refused (if is_missing f then Some UnknownNode else (if is_root key d.forest then Some RootFixed else None)) (made d (edits.Remove key)) ≡ remove d key f
remove_tested d key None there = refl
remove_tested d key (Some it) there = by it.depth it.node there
  where
    by : (depth : ℕ) (node : Forest) → (node ≡ none → ⊥)
        → (let f : Option Found = Some (record { depth = depth; node = node }) in
        unless_refused (if is_missing f then Some UnknownNode else (if is_root key d.forest then Some RootFixed else None)) (made d (edits.Remove key)) ≡ remove d key f)
    by depth none there = absurd (there refl)
    by depth (text number old next) there = first_tested (made d (edits.Remove key)) RootFixed None (Ok (made d (edits.Remove key))) refl (is_root key d.forest)
    by depth (element number name bindings attributes children next) there = first_tested (made d (edits.Remove key)) RootFixed None (Ok (made d (edits.Remove key))) refl (is_root key d.forest)

-- the tests of an element's, before some more
element_tested : (d : Document) (more : Option EditError) (change : List Binding → List Attribute → Result Document EditError) (f : Option Found)
    → unless_refused more d ≡ change (bindings_of f) (attributes_of f)
    → unless_refused (if is_missing f then Some UnknownNode else (if is_text f then Some NotElement else more)) d ≡ change_element change f
element_tested d more change None later = refl
element_tested d more change (Some it) later = by it.depth it.node later
  where
    by : (depth : ℕ) (node : Forest)
        → (let f : Option Found = Some (record { depth = depth; node = node }) in
        unless_refused more d ≡ change (bindings_of f) (attributes_of f)
        → unless_refused (if is_missing f then Some UnknownNode else (if is_text f then Some NotElement else more)) d ≡ change_element change f)
    by depth none later = refl
    by depth (text number chars next) later = refl
    by depth (element number name bindings attributes children next) later = later

-- those of a name, before some more
name_tested : (d : Document) (more : Option EditError) (change : Expanded → Result Document EditError) (own : Expanded) → unless_refused more d ≡ change own
    → (bad unbound reserved : Bool)
    → unless_refused (if bad then Some BadName else (if unbound then Some UnboundPrefix else (if reserved then Some ReservedName else more))) d
    ≡ by_name change (if bad then Err reasons.BadName else (if unbound then Err reasons.UnboundPrefix else (if reserved then Err reasons.ReservedName else Ok own)))
name_tested d more change own later true unbound reserved = refl
name_tested d more change own later false true reserved = refl
name_tested d more change own later false false true = refl
name_tested d more change own later false false false = later

rename_tested : (d : Document) (key : ℕ) (name : List ℕ) → edited d (edits.Rename key name) ≡ after d (edits.Rename key name)
rename_tested d key name =
    element_tested (made d (edits.Rename key name)) _ (rename d key name) (found key 1 d.forest)
    (name_tested (made d (edits.Rename key name)) None _ (new_name d key name) refl
    (is_no_qname name) (is_unbound (names_scope d key) (prefix_of name)) (is_xmlns (prefix_of name)))

set_tested : (d : Document) (key : ℕ) (name value : List ℕ) → edited d (edits.SetAttr key name value) ≡ after d (edits.SetAttr key name value)
set_tested d key name value =
    let own = attribute_named d key name in let e = made d (edits.SetAttr key name value) in
    element_tested e _ (set_attribute d key name value) (found key 1 d.forest)
    (name_tested e (if is_full d key own then Some TooManyAttributes else None) _ own (first_tested e TooManyAttributes None (Ok e) refl (is_full d key own))
    (is_no_qname name) (is_unbound (names_scope d key) (prefix_of name)) (binds name))

unset_if : (d : Document) (has : Bool) → unless_refused (if not has then Some NoSuchAttribute else None) d ≡ (if has then Ok d else Err NoSuchAttribute)
unset_if d true = refl
unset_if d false = refl

unset_tested : (d : Document) (key : ℕ) (name : List ℕ) → edited d (edits.UnsetAttr key name) ≡ after d (edits.UnsetAttr key name)
unset_tested d key name =
    let own = attribute_named d key name in let e = made d (edits.UnsetAttr key name) in
    element_tested e _ (unset_attribute d key name) (found key 1 d.forest)
    (name_tested e (if not (has_attribute d key own) then Some NoSuchAttribute else None) _ own (unset_if e (has_attribute d key own))
    (is_no_qname name) (is_unbound (names_scope d key) (prefix_of name)) (binds name))

pub edit_tested : (d : Document) (edit : Edit) → after d edit ≡ edited d edit
edit_tested d (edits.Insert parent place its) = sym (insert_tested d parent place its)
edit_tested d (edits.AddText parent place chars) = sym (text_tested d parent place chars)
edit_tested d (edits.SetText key chars) = sym (reword_tested d key chars (found key 1 d.forest))
edit_tested d (edits.Remove key) = sym (remove_tested d key (found key 1 d.forest) (found_there key 1 d.forest))
edit_tested d (edits.Rename key name) = sym (rename_tested d key name)
edit_tested d (edits.SetAttr key name value) = sym (set_tested d key name value)
edit_tested d (edits.UnsetAttr key name) = sym (unset_tested d key name)

-- an edit that is made keeps a tree
pub edited_keeps : (d : Document) (edit : Edit) (e : Document) → IsTree d → edited d edit ≡ Ok e → KeepsTree d e
edited_keeps d edit e tree end = edit_keeps d edit e tree (edit_tested d edit ∙ end)
