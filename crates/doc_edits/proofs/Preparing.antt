-- An edit that no test refuses is the change that it was turned into.
use Rattle.std.proofs.Common.{◌≡◌, ◌≢◌, ℕ, ◌<◌, List, [], length, Bool, true, false, ◌==◌, if◌then◌else◌, Option, Some, None, Result, Ok, Err, sym, ap, ◌∙◌, subst, refl, arith}
use Rattle.std.proofs.lemmas.Bool.Decides.{nat_tests}
use Rattle.xs_names.specs.Names.{NameTable, IsSound}
use Rattle.item_listing.specs.declared.item.Item.{Item}
use Rattle.tree_rows.specs.Forest.{none, text, Document}
use Rattle.tree_rows.specs.Whole.{IsNamespace}
use Rattle.tree_rows.specs.declared.name.Expanded.{Expanded}
use Rattle.tree_rows.specs.declared.row.Binding.{Binding}
use Rattle.tree_rows.specs.declared.row.NodeKind.TheVariants as kinds
use Rattle.tag_names.specs.Faults.{is_no_qname, is_unbound, is_xmlns}
use Rattle.tag_names.specs.Resolving.{binds, element_resolved, attribute_resolved}
use Rattle.tag_names.specs.Scopes.{namespace_by, namespace_named, of_prefix, element_space, attribute_space}
use Rattle.tag_names.specs.Tags.{prefix_of, element_name, attribute_name}
use Rattle.tag_names.specs.declared.fault.NameReason.{NameReason}
use Rattle.tag_names.specs.declared.fault.NameReason.TheVariants as reasons
use Rattle.tree_building.specs.Building.{block}
use Rattle.tree_edits.specs.Changes.{has_name, has_no_room}
use Rattle.tree_edits.specs.Edits.{found, put, put_within, insert_within, names_scope, by_name, renamed, attribute_set, attribute_unset, rename, set_attribute, unset_attribute}
use Rattle.tree_edits.specs.Tests.{depth_of, attributes_of, bindings_of, with_nodes, made, is_full, has_attribute, edited}
use Rattle.tree_edits.specs.Refusals.{IsWhy}
use Rattle.tree_edits.specs.declared.edit.Edit.TheVariants as edits
use Rattle.tree_edits.specs.declared.edit.EditError.{EditError}
use Rattle.tree_edits.specs.declared.edit.EditError.TheVariants.{Memory, NoSuchAttribute, TooManyAttributes}
use Rattle.tree_edits.proofs.Inserting.{why_is, why_but_memory, why_of}
use Rattle.tree_edits.proofs.Testing.{edit_tested}
use Rattle.plain_tree.specs.Table.{with_expanded, document_table}
use Rattle.plain_tree.specs.Numbers.{name_in}
use Rattle.plain_tree.specs.Found.{HasName, HasNames}
use Rattle.plain_tree.proofs.Numbers.{has_expanded, name_within}
use Rattle.plain_tree.proofs.Tables.{found as names_found}
use Rattle.doc_nodes.specs.Nodes.{Nodes}
use Rattle.doc_changes.specs.Stands.{StandsFor, expanded_of}
use Rattle.doc_changes.specs.Held.{kind_at}
use Rattle.doc_edits.specs.Changes.{IsPrepared}
use Rattle.doc_edits.specs.inside.Tested.{IsNoElement, HasPlace, HasRoomFor, IsReason, IsPart, IsThere, IsSettable}
use Rattle.doc_edits.specs.declared.change.Change.TheVariants as changes
use Rattle.doc_edits.proofs.Placing.{own, changed_here, put_room, text_made}
use Rattle.doc_edits.proofs.Naming.{name_called}

-- a QName that is resolved is the name
resolved_is : (bad unbound reserved : Bool) (name own : Expanded)
    → (if bad then Err reasons.BadName else (if unbound then Err reasons.UnboundPrefix else (if reserved then Err reasons.ReservedName else Ok name))) ≡ Ok own → name ≡ own
resolved_is true unbound reserved name own is = absurd (cc is)
resolved_is false true reserved name own is = absurd (cc is)
resolved_is false false true name own is = absurd (cc is)
resolved_is false false false name own is = cc is

pub element_is : (scope : List Binding) (name : List ℕ) (own : Expanded) → element_resolved scope name ≡ Ok own → element_name scope name ≡ own
element_is scope name own is = resolved_is (is_no_qname name) (is_unbound scope (prefix_of name)) (is_xmlns (prefix_of name)) (element_name scope name) own is

pub attribute_is : (scope : List Binding) (name : List ℕ) (own : Expanded) → attribute_resolved scope name ≡ Ok own → attribute_name scope name ≡ own
attribute_is scope name own is = resolved_is (is_no_qname name) (is_unbound scope (prefix_of name)) (binds name) (attribute_name scope name) own is

-- it has no empty namespace
named_if : (name : List ℕ) (t : Bool) → (length name == 0) ≡ t → IsNamespace (if t then None else Some name)
named_if name true e = tt
named_if name false e = grind (arith, nat_tests, e)

named_space : (name : List ℕ) → IsNamespace (namespace_named name)
named_space name = named_if name (length name == 0) refl

space_by : (o : Option (List ℕ)) → IsNamespace (namespace_by o)
space_by None = tt
space_by (Some name) = named_space name

element_spaced : (scope : List Binding) (prefix : Option (List ℕ)) → IsNamespace (element_space scope prefix)
element_spaced scope None = space_by (of_prefix scope [])
element_spaced scope (Some prefix) = space_by (of_prefix scope prefix)

attribute_spaced : (scope : List Binding) (prefix : Option (List ℕ)) → IsNamespace (attribute_space scope prefix)
attribute_spaced scope None = tt
attribute_spaced scope (Some prefix) = space_by (of_prefix scope prefix)

pub element_own : (scope : List Binding) (name : List ℕ) (own : Expanded) → element_resolved scope name ≡ Ok own → IsNamespace own.namespace
element_own scope name own is = subst (λ (x : Expanded). IsNamespace x.namespace) (element_is scope name own is) (element_spaced scope (prefix_of name))

pub attribute_own : (scope : List Binding) (name : List ℕ) (own : Expanded) → attribute_resolved scope name ≡ Ok own → IsNamespace own.namespace
attribute_own scope name own is = subst (λ (x : Expanded). IsNamespace x.namespace) (attribute_is scope name own is) (attribute_spaced scope (prefix_of name))

-- an insertion
pub part_made : (d : Document) (parent place : ℕ) (its : List Item) (part : Document) → HasPlace d parent place
    → insert_within d parent place (names_scope d parent) its (depth_of (found parent 1 d.forest)) ≡ Ok (with_nodes d parent place part.forest)
    → HasRoomFor d parent part.forest → part.forest ≡ block (names_scope d parent) its → IsPart d parent place its part
part_made d parent place its part p makes room is = record {
  makes = sym (edit_tested d (edits.Insert parent place its)) ∙ p.puts (insert_within d parent place (names_scope d parent) its) ∙ makes;
  fits = record { element = p.element; within = p.within; few = room.few; shallow = room.shallow };
  is = is;
}

pub insert_refused : (d : Document) (parent place : ℕ) (its : List Item) (e : EditError) → HasPlace d parent place
    → IsWhy (insert_within d parent place (names_scope d parent) its (depth_of (found parent 1 d.forest))) e → IsWhy (edited d (edits.Insert parent place its)) e
insert_refused d parent place its e p why =
    why_of _ _ e (sym (p.puts (insert_within d parent place (names_scope d parent) its)) ∙ edit_tested d (edits.Insert parent place its)) why

pub insert_misplaced : (d : Document) (parent place : ℕ) (its : List Item) (e : EditError)
    → ((change : ℕ → Result Document EditError) → put d.forest parent place change ≡ Err e) → IsWhy (edited d (edits.Insert parent place its)) e
insert_misplaced d parent place its e refused =
    why_is (edited d (edits.Insert parent place its)) e (sym (edit_tested d (edits.Insert parent place its)) ∙ refused (insert_within d parent place (names_scope d parent) its))

pub insert_prepared : (t u : NameTable) (ns : Nodes) (d : Document) (parent place : ℕ) (its : List Item) (part : Document) → IsPart d parent place its part → u ≡ document_table t part.forest
    → IsPrepared t u ns d (edits.Insert parent place its) (changes.Insert parent place part)
insert_prepared t u ns d parent place its part p names = record {
  makes = p.makes;
  can = (p.fits, subst (λ x. HasNames x part.forest) (sym names) (names_found t part.forest));
  names = names ∙ ap (document_table t) p.is;
  is_of = (part, refl);
  called = tt;
}

-- a text
pub text_prepared : (t : NameTable) (ns : Nodes) (d : Document) (parent place : ℕ) (chars : List ℕ) → HasPlace d parent place → HasRoomFor d parent (text 0 chars none)
    → IsPrepared t t ns d (edits.AddText parent place chars) (changes.AddText parent place chars)
text_prepared t ns d parent place chars p room = record {
  makes = sym (edit_tested d (edits.AddText parent place chars)) ∙ p.puts (put_within d parent place (text 0 chars none)) ∙ put_room d parent place (text 0 chars none) room;
  can = record { element = p.element; within = p.within; few = room.few; shallow = room.shallow };
  names = refl;
  is_of = refl;
  called = tt;
}

pub text_misplaced : (d : Document) (parent place : ℕ) (chars : List ℕ) (e : EditError)
    → ((change : ℕ → Result Document EditError) → put d.forest parent place change ≡ Err e) → IsWhy (edited d (edits.AddText parent place chars)) e
text_misplaced d parent place chars e refused =
    why_is (edited d (edits.AddText parent place chars)) e (sym (edit_tested d (edits.AddText parent place chars)) ∙ refused (put_within d parent place (text 0 chars none)))

pub text_refused : (d : Document) (parent place : ℕ) (chars : List ℕ) (e : EditError) → HasPlace d parent place
    → put_within d parent place (text 0 chars none) (depth_of (found parent 1 d.forest)) ≡ Err e → IsWhy (edited d (edits.AddText parent place chars)) e
text_refused d parent place chars e p refused =
    why_is (edited d (edits.AddText parent place chars)) e (sym (edit_tested d (edits.AddText parent place chars)) ∙ p.puts (put_within d parent place (text 0 chars none)) ∙ refused)

-- the number of a name that a change has
renamed_number : (n number other : ℕ) → changes.Rename n number ≡ changes.Rename n other → number ≡ other
renamed_number n number other same = cc same

set_number_is : (n number other : ℕ) (value : List ℕ) → changes.SetAttr n number value ≡ changes.SetAttr n other value → number ≡ other
set_number_is n number other value same = cc same

unset_number_is : (n number other : ℕ) → changes.UnsetAttr n number ≡ changes.UnsetAttr n other → number ≡ other
unset_number_is n number other same = cc same

-- a name is refused
by_reason : (change : Expanded → Result Document EditError) (r : Result Expanded NameReason) (e : EditError) → IsReason r e → e ≢ Memory → by_name change r ≡ Err e
by_reason change r e why never = let z = why never in ap (by_name change) z.1 ∙ ap Err (sym z.2)

module _ (t : NameTable) (ns : Nodes) (d : Document) (z : StandsFor t ns d) (n : ℕ) (k : kind_at ns n ≡ Some kinds.Element) where
  rename_is : (name : List ℕ) → edited d (edits.Rename n name) ≡ by_name (λ x. Ok (renamed n x d)) (element_resolved (names_scope d n) name)
  rename_is name = sym (edit_tested d (edits.Rename n name)) ∙ changed_here t ns d z n k (rename d n name)

  pub rename_refused : (name : List ℕ) (e : EditError) → IsReason (element_resolved (names_scope d n) name) e → IsWhy (edited d (edits.Rename n name)) e
  rename_refused name e why = why_but_memory (edited d (edits.Rename n name)) e (λ never. rename_is name ∙ by_reason (λ x. Ok (renamed n x d)) (element_resolved (names_scope d n) name) e why never)

  pub rename_prepared : (u : NameTable) (name : List ℕ) (x : Expanded) (number : ℕ) → element_resolved (names_scope d n) name ≡ Ok x → expanded_of u number ≡ x → number < length u.names
      → u ≡ with_expanded t x → IsPrepared t u ns d (edits.Rename n name) (changes.Rename n number)
  rename_prepared u name x number is called within names = record {
    makes = rename_is name ∙ ap (by_name (λ y. Ok (renamed n y d))) is ∙ ap (λ y. Ok (renamed n y d)) (sym called);
    can = (k, within);
    names = names ∙ ap (with_expanded t) (sym (element_is (names_scope d n) name x is));
    is_of = (number, refl);
    called = λ other same. ap (expanded_of u) (sym (renamed_number n number other same)) ∙ called ∙ sym (element_is (names_scope d n) name x is);
  }

  set_is : (name value : List ℕ) → edited d (edits.SetAttr n name value)
      ≡ by_name (λ x. if is_full d n x then Err TooManyAttributes else Ok (attribute_set n x value d)) (attribute_resolved (names_scope d n) name)
  set_is name value =
      sym (edit_tested d (edits.SetAttr n name value)) ∙ changed_here t ns d z n k (set_attribute d n name value)
      ∙ ap (λ o. by_name (λ x. if has_no_room x (bindings_of o) (attributes_of o) then Err TooManyAttributes else Ok (attribute_set n x value d))
      (attribute_resolved (names_scope d n) name)) (sym (own t ns d z n k).is_found)

  pub set_refused : (name value : List ℕ) (e : EditError) → IsReason (attribute_resolved (names_scope d n) name) e → IsWhy (edited d (edits.SetAttr n name value)) e
  set_refused name value e why = why_but_memory (edited d (edits.SetAttr n name value)) e (λ never. set_is name value ∙ by_reason _ (attribute_resolved (names_scope d n) name) e why never)

  pub set_full : (name value : List ℕ) (x : Expanded) (e : EditError) → attribute_resolved (names_scope d n) name ≡ Ok x → e ≡ TooManyAttributes → is_full d n x ≡ true
      → edited d (edits.SetAttr n name value) ≡ Err e
  set_full name value x e is why full =
      set_is name value ∙ ap (by_name (λ y. if is_full d n y then Err TooManyAttributes else Ok (attribute_set n y value d))) is
      ∙ ap (λ b. if b then Err TooManyAttributes else Ok (attribute_set n x value d)) full ∙ ap Err (sym why)

  pub set_prepared : (u : NameTable) (name value : List ℕ) (x : Expanded) (number : ℕ) → attribute_resolved (names_scope d n) name ≡ Ok x → IsSettable t u ns d n x number
      → IsPrepared t u ns d (edits.SetAttr n name value) (changes.SetAttr n number value)
  set_prepared u name value x number is s = record {
    makes = set_is name value ∙ ap (by_name (λ y. if is_full d n y then Err TooManyAttributes else Ok (attribute_set n y value d))) is
        ∙ ap (λ b. if b then Err TooManyAttributes else Ok (attribute_set n x value d)) s.free ∙ ap (λ y. Ok (attribute_set n y value d)) (sym s.called);
    can = (k, s.room, s.within);
    names = s.names ∙ ap (with_expanded t) (sym (attribute_is (names_scope d n) name x is));
    is_of = (number, refl);
    called = λ other same. ap (expanded_of u) (sym (set_number_is n number other value same)) ∙ s.called ∙ sym (attribute_is (names_scope d n) name x is);
  }

  unset_is : (name : List ℕ) → edited d (edits.UnsetAttr n name)
      ≡ by_name (λ x. if has_attribute d n x then Ok (attribute_unset n x d) else Err NoSuchAttribute) (attribute_resolved (names_scope d n) name)
  unset_is name =
      sym (edit_tested d (edits.UnsetAttr n name)) ∙ changed_here t ns d z n k (unset_attribute d n name)
      ∙ ap (λ o. by_name (λ x. if has_name x (attributes_of o) then Ok (attribute_unset n x d) else Err NoSuchAttribute)
      (attribute_resolved (names_scope d n) name)) (sym (own t ns d z n k).is_found)

  pub unset_refused : (name : List ℕ) (e : EditError) → IsReason (attribute_resolved (names_scope d n) name) e → IsWhy (edited d (edits.UnsetAttr n name)) e
  unset_refused name e why = why_but_memory (edited d (edits.UnsetAttr n name)) e (λ never. unset_is name ∙ by_reason _ (attribute_resolved (names_scope d n) name) e why never)

  pub unset_missing : (name : List ℕ) (x : Expanded) → attribute_resolved (names_scope d n) name ≡ Ok x → IsThere t ns d n x None → edited d (edits.UnsetAttr n name) ≡ Err NoSuchAttribute
  unset_missing name x is gone =
      unset_is name ∙ ap (by_name (λ y. if has_attribute d n y then Ok (attribute_unset n y d) else Err NoSuchAttribute)) is
      ∙ ap (λ b. if b then Ok (attribute_unset n x d) else Err NoSuchAttribute) gone

  pub unset_prepared : (name : List ℕ) (x : Expanded) (number : ℕ) → attribute_resolved (names_scope d n) name ≡ Ok x → IsThere t ns d n x (Some number)
      → IsPrepared t t ns d (edits.UnsetAttr n name) (changes.UnsetAttr n number)
  unset_prepared name x number is h = record {
    makes = unset_is name ∙ ap (by_name (λ y. if has_attribute d n y then Ok (attribute_unset n y d) else Err NoSuchAttribute)) is
        ∙ ap (λ b. if b then Ok (attribute_unset n x d) else Err NoSuchAttribute) h.0 ∙ ap (λ y. Ok (attribute_unset n y d)) (sym h.2);
    can = h.1;
    names = refl;
    is_of = (number, refl);
    called = λ other same. ap (expanded_of t) (sym (unset_number_is n number other same)) ∙ h.2 ∙ sym (attribute_is (names_scope d n) name x is);
  }

-- an element that is missing
pub none_changed : (d : Document) (n : ℕ) (e : EditError) → IsNoElement d n e
    → ((name : List ℕ) → edited d (edits.Rename n name) ≡ Err e) × ((name value : List ℕ) → edited d (edits.SetAttr n name value) ≡ Err e) × ((name : List ℕ) → edited d (edits.UnsetAttr n name) ≡ Err e)
none_changed d n e refused = (
  λ name. sym (edit_tested d (edits.Rename n name)) ∙ refused.changes (rename d n name),
  λ name value. sym (edit_tested d (edits.SetAttr n name value)) ∙ refused.changes (set_attribute d n name value),
  λ name. sym (edit_tested d (edits.UnsetAttr n name)) ∙ refused.changes (unset_attribute d n name),
)

-- other characters
pub chars_prepared : (t : NameTable) (ns : Nodes) (d : Document) → StandsFor t ns d → (n : ℕ) (chars new : List ℕ) → kind_at ns n ≡ Some kinds.Chars → new ≡ chars
    → IsPrepared t t ns d (edits.SetText n chars) (changes.SetText n new)
chars_prepared t ns d z n chars new k same = record {
  makes = text_made t ns d z n k chars ∙ ap (λ cs. Ok (made d (edits.SetText n cs))) (sym same);
  can = k;
  names = refl;
  is_of = ap (changes.SetText n) same;
  called = tt;
}

-- a name that was put into the table
pub rename_named : (t : NameTable) (ns : Nodes) (d : Document) (z : StandsFor t ns d) (n : ℕ) (k : kind_at ns n ≡ Some kinds.Element) (u : NameTable) (name : List ℕ) (x : Expanded) (number : ℕ)
    → element_resolved (names_scope d n) name ≡ Ok x → number ≡ name_in u x → u ≡ with_expanded t x → IsSound u → IsPrepared t u ns d (edits.Rename n name) (changes.Rename n number)
rename_named t ns d z n k u name x number is id table sound =
    let has : HasName u x = subst (λ v. HasName v x) (sym table) (has_expanded t x) in
    rename_prepared t ns d z n k u name x number is (ap (expanded_of u) id ∙ name_called u sound x (element_own (names_scope d n) name x is) has)
    (subst (λ m. m < length u.names) (sym id) (name_within u x has)) table

-- a text and a value that were copied
pub text_copied : (t : NameTable) (ns : Nodes) (d : Document) (parent place : ℕ) (chars new : List ℕ) → HasPlace d parent place → HasRoomFor d parent (text 0 chars none) → new ≡ chars
    → IsPrepared t t ns d (edits.AddText parent place chars) (changes.AddText parent place new)
text_copied t ns d parent place chars new p room same =
    subst (λ cs. IsPrepared t t ns d (edits.AddText parent place chars) (changes.AddText parent place cs)) (sym same) (text_prepared t ns d parent place chars p room)

pub set_copied : (t : NameTable) (ns : Nodes) (d : Document) (z : StandsFor t ns d) (n : ℕ) (k : kind_at ns n ≡ Some kinds.Element) (u : NameTable) (name value new : List ℕ) (x : Expanded) (number : ℕ)
    → attribute_resolved (names_scope d n) name ≡ Ok x → IsSettable t u ns d n x number → new ≡ value → IsPrepared t u ns d (edits.SetAttr n name value) (changes.SetAttr n number new)
set_copied t ns d z n k u name value new x number is s same =
    subst (λ cs. IsPrepared t u ns d (edits.SetAttr n name value) (changes.SetAttr n number cs)) (sym same) (set_prepared t ns d z n k u name value x number is s)
