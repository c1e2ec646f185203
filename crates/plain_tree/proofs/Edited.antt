-- The table of names with those of the document after an edit.
use Rattle.std.proofs.Common.{◌≡◌, ℕ, List, Bool, true, false, Option, Some, None, Result, Ok, Err, if◌then◌else◌, nat_lt, sym, ap, ◌∙◌, subst, refl}
use Rattle.xs_names.specs.Names.{NameTable}
use Rattle.tree_rows.specs.Forest.{Forest, none, text, element, Document, count}
use Rattle.tree_rows.specs.declared.name.Expanded.{Expanded}
use Rattle.tree_rows.specs.declared.row.Attribute.{Attribute}
use Rattle.tree_rows.specs.declared.row.Binding.{Binding}
use Rattle.tag_names.specs.Scopes.{first_scope}
use Rattle.tree_building.specs.Building.{block}
use Rattle.tree_edits.specs.Changes.{with_name, with_attributes as with_changed, set_in, unset_in}
use Rattle.tree_edits.specs.Edits.{renumbered, replaced, Found, found, with_children, with_chars, scope_in}
use Rattle.tree_edits.specs.Tests.{is_missing, is_text, no_node, text_node, tests_of, first_refusal, made, new_name, attribute_named, unless_refused, edited}
use Rattle.tree_edits.specs.declared.edit.Edit.{Edit}
use Rattle.tree_edits.specs.declared.edit.Edit.TheVariants as edits
use Rattle.tree_edits.specs.declared.edit.EditError.{EditError}
use Rattle.tree_edits.specs.declared.edit.EditError.TheVariants.{UnknownNode, NotElement}
use Rattle.tree_edits.proofs.Keeping.{IsAlone, found_alone}
use Rattle.tree_edits.proofs.Lying.{lies}
use Rattle.plain_tree.specs.Found.{HasNames}
use Rattle.plain_tree.specs.Table.{with_expanded, document_table}
use Rattle.plain_tree.specs.Names.{table_with}
use Rattle.plain_tree.proofs.EditTables.{names_lies, table_replaced, table_children, table_renamed, table_set, table_unset, table_reworded}

-- an edit that is made is refused by no test
ok_made : (o : Option EditError) (d e : Document) → unless_refused o d ≡ Ok e → (o ≡ None) × (d ≡ e)
ok_made None d e is = (refl, cc is)
ok_made (Some error) d e is = absurd (cc is)

passed : (b : Bool) (error : EditError) (more : Option EditError) → (if b then Some error else more) ≡ None → (b ≡ false) × (more ≡ None)
passed true error more is = absurd (cc is)
passed false error more is = (refl, is)

module _ (f : Forest) (key : ℕ) where
  -- the node of the number
  record IsThere : Type 0 where
    it : Found
    is_found : found key 1 f ≡ Some it

  there : (o : Option Found) → found key 1 f ≡ o → is_missing o ≡ false → IsThere
  there None is m = absurd (cc m)
  there (Some it) is m = record { it = it; is_found = is }

  -- it is an element
  record IsOne : Type 0 where
    depth : ℕ
    number : ℕ
    name : Expanded
    bindings : List Binding
    attributes : List Attribute
    children : Forest
    is_found : found key 1 f ≡ Some (record { depth = depth; node = element number name bindings attributes children none })

  one_in : (depth : ℕ) (node : Forest) → found key 1 f ≡ Some (record { depth = depth; node = node }) → IsAlone node → no_node node ≡ false → text_node node ≡ false → IsOne
  one_in depth none is alone m e = absurd alone
  one_in depth (text n chars next) is alone m e = absurd (cc e)
  one_in depth (element n name bindings attributes children next) is alone m e = record {
    depth = depth;
    number = n;
    name = name;
    bindings = bindings;
    attributes = attributes;
    children = children;
    is_found = is ∙ ap (λ g. Some (record { depth = depth; node = element n name bindings attributes children g })) alone;
  }

  one : (o : Option Found) → found key 1 f ≡ o → is_missing o ≡ false → is_text o ≡ false → IsOne
  one None is m e = absurd (cc m)
  one (Some it) is m e = one_in it.depth it.node is (found_alone key f it is) m e

module _ (t : NameTable) (d : Document) (h : HasNames t d.forest) where
  -- an element is changed
  changed_table : (key : ℕ) (change : Forest → Forest) (u : NameTable) (rest : Option EditError)
      → (if is_missing (found key 1 d.forest) then Some UnknownNode else (if is_text (found key 1 d.forest) then Some NotElement else rest)) ≡ None
      → ((n : ℕ) (name : Expanded) (bindings : List Binding) (attributes : List Attribute) (children : Forest) → HasNames t (element n name bindings attributes children none)
      → document_table t (change (element n name bindings attributes children none)) ≡ u)
      → document_table t (replaced key change d.forest) ≡ u
  changed_table key change u rest fine made_is =
      let a = passed (is_missing (found key 1 d.forest)) UnknownNode (if is_text (found key 1 d.forest) then Some NotElement else rest) fine in
      let b = passed (is_text (found key 1 d.forest)) NotElement rest a.1 in
      let x = one d.forest key (found key 1 d.forest) refl a.0 b.0 in
      let it : Found = record { depth = x.depth; node = element x.number x.name x.bindings x.attributes x.children none } in
      let l = lies key 1 d.forest it x.is_found in
      table_replaced t key 1 change d.forest it l h
      ∙ made_is x.number x.name x.bindings x.attributes x.children (names_lies t key 1 d.forest it l h)

  -- some node is changed
  any_table : (key : ℕ) (change : Forest → Forest) (u : NameTable) (rest : Option EditError)
      → (if is_missing (found key 1 d.forest) then Some UnknownNode else rest) ≡ None
      → ((node : Forest) → HasNames t node → document_table t (change node) ≡ u)
      → document_table t (replaced key change d.forest) ≡ u
  any_table key change u rest fine made_is =
      let a = passed (is_missing (found key 1 d.forest)) UnknownNode rest fine in
      let x = there d.forest key (found key 1 d.forest) refl a.0 in
      let l = lies key 1 d.forest x.it x.is_found in
      table_replaced t key 1 change d.forest x.it l h ∙ made_is x.it.node (names_lies t key 1 d.forest x.it l h)

  made_table : (edit : Edit) → first_refusal (tests_of d edit) ≡ None → document_table t (made d edit).forest ≡ table_with t d edit
  made_table (edits.Insert parent place its) fine =
      let new : Forest = block (scope_in parent first_scope d.forest) its in
      changed_table parent (with_children place (renumbered d.next_free new)) (document_table t new) _ fine
      (λ n name bindings attributes children k. table_children t n name bindings attributes children k place d.next_free new)
  made_table (edits.AddText parent place chars) fine =
      changed_table parent (with_children place (renumbered d.next_free (text 0 chars none))) t _ fine
      (λ n name bindings attributes children k. table_children t n name bindings attributes children k place d.next_free (text 0 chars none))
  made_table (edits.SetText key chars) fine = any_table key (with_chars chars) t _ fine (λ node k. table_reworded t chars node k)
  made_table (edits.Remove key) fine = any_table key (λ node. none) t _ fine (λ node k. refl)
  made_table (edits.Rename key name) fine =
      changed_table key (with_name (new_name d key name)) (with_expanded t (new_name d key name)) _ fine
      (λ n own bindings attributes children k. table_renamed t n own bindings attributes children k (new_name d key name))
  made_table (edits.SetAttr key name value) fine =
      changed_table key (with_changed (set_in (attribute_named d key name) value)) (with_expanded t (attribute_named d key name)) _ fine
      (λ n own bindings attributes children k. table_set t n own bindings attributes children k (attribute_named d key name) value)
  made_table (edits.UnsetAttr key name) fine =
      changed_table key (with_changed (unset_in (attribute_named d key name))) t _ fine
      (λ n own bindings attributes children k. table_unset t n own bindings attributes children k (attribute_named d key name))

pub table_after : (t : NameTable) (d : Document) (edit : Edit) (e : Document) → HasNames t d.forest → edited d edit ≡ Ok e → document_table t e.forest ≡ table_with t d edit
table_after t d edit e h is =
    let z = ok_made (first_refusal (tests_of d edit)) (made d edit) e is in
    ap (λ (x : Document). document_table t x.forest) (sym z.1) ∙ made_table t d h edit z.0
