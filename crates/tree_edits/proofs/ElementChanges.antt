-- An element that gets another name or other attributes, on the rows and on the tree.
use Rattle.std.proofs.Common.{◌≡◌, ◌≢◌, ℕ, ◌+◌, ◌≤◌, ◌<◌, List, [], ◌∷◌, ◌++◌, true, false, Some, None, Result, Ok, Err, length, get_or, set, refl, sym, ap, ◌∙◌, arith, max, if◌then◌else◌}
use Rattle.std.specs.List.{position_or_len, position, remove}
use Rattle.std.proofs.lemmas.List.{get_or_default, set-get_or}
use Rattle.std.proofs.lemmas.List.Quantifiers.{position-Some}
use Rattle.tree_rows.specs.Forest.{Forest, none, element, Document}
use Rattle.tree_rows.specs.Naming.{same_name}
use Rattle.tree_rows.specs.Rows.{rows_of, siblings}
use Rattle.tree_rows.specs.declared.name.Expanded.{Expanded}
use Rattle.tree_rows.specs.declared.row.Attribute.{Attribute}
use Rattle.tree_rows.specs.declared.row.Row.{Row}
use Rattle.tree_rows.specs.declared.row.Content.{Content}
use Rattle.tree_rows.specs.declared.row.Content.TheVariants as contents
use Rattle.tag_names.specs.Resolving.{element_resolved, attribute_resolved}
use Rattle.tag_names.specs.Scopes.{first_scope}
use Rattle.tag_names.specs.declared.fault.NameReason.{NameReason}
use Rattle.tag_names.specs.declared.fault.NameReason.TheVariants as reasons
use Rattle.tree_building.specs.Shape.{AreWhole, AreSound, deepest_with, deepest_row}
use Rattle.tree_edits.specs.Changes.{with_name, has_name, set_in, unset_in, has_no_room, with_attributes}
use Rattle.tree_edits.specs.EditRows.{is_numbered}
use Rattle.tree_edits.specs.Edits.{replaced, renamed, attribute_set, attribute_unset, scope_in, change_element, by_name, rename, set_attribute, unset_attribute}
use Rattle.tree_edits.specs.Refusals.{IsWhy, refusal_of}
use Rattle.tree_edits.specs.Spots.{tree_of, Renames, Reattributes, IsElementPlace, CannotChange, Makes, CannotMake}
use Rattle.tree_edits.specs.declared.edit.Edit.TheVariants as edits
use Rattle.tree_edits.specs.declared.edit.EditError.{EditError}
use Rattle.tree_edits.specs.declared.edit.EditError.TheVariants.{UnknownNode, NotElement, NoSuchAttribute, TooManyAttributes, Memory}
use Rattle.tree_edits.proofs.Attributing.{has_at, none_of, unset_is}
use Rattle.tree_edits.proofs.Changing.{set_at, text_at}
use Rattle.tree_edits.proofs.Inserting.{why_but_memory}
use Rattle.tree_edits.proofs.Placing.{deepest-append}
use Rattle.tree_edits.proofs.Putting.{whole_from}
use Rattle.tree_edits.proofs.Spotting.{ElementAt, unknown, element_at, depth_is, scope_is}

pub cannot_change : (rows : List Row) (key k : ℕ) → AreWhole rows → k ≡ position_or_len (is_numbered key) rows → length rows ≤ k → CannotChange rows key UnknownNode
cannot_change rows key k whole at_k past change = ap (change_element change) (unknown rows key whole (omega (arith, at_k, past)))

pub no_element : (rows : List Row) (key k : ℕ) (row : Row) (chars : List ℕ) → AreWhole rows → k ≡ position_or_len (is_numbered key) rows → k < length rows
    → row ≡ get_or rows k row → row.content ≡ contents.Chars chars → CannotChange rows key NotElement
no_element rows key k row chars whole at_k within read c change =
    let t = text_at rows key k row chars whole at_k within read c in ap (change_element change) t.is_found

-- an element that holds something else is no deeper
element_deep : (content : Content) (name : Expanded) (depth later : ℕ) → content ≡ contents.Element name → deepest_with content depth later ≡ max depth later
element_deep content name depth later e = ap (λ x. deepest_with x depth later) e

module _ (rows : List Row) (key k : ℕ) (row : Row) (sound : AreSound rows) (e : ElementAt rows key k row) where
  changed : (now : List Row) (change : Forest → Forest) (fresh : Expanded) (more : List Attribute)
      → change (element e.number e.name e.bindings e.attributes e.children none) ≡ element e.number fresh e.bindings more e.children none
      → now ≡ set rows k (record row { content = contents.Element fresh; attributes = more })
      → AreSound now × (siblings now 1 ≡ replaced key change (siblings rows 1))
  changed now change fresh more gives is =
      let behind : List Row = rows_of (row.depth + 1) e.children ++ e.after in
      let other : Row = record row { content = contents.Element fresh; attributes = more } in
      let all : now ≡ e.before ++ (other ∷ behind) =
      is ∙ ap (λ l. set l k other) e.rows_are ∙ ap (λ j. set (e.before ++ (row ∷ behind)) j other) e.place ∙ set_at e.before row other behind in
      let whole = whole_from now (replaced key change (siblings rows 1)) (all ∙ sym (e.stays change fresh more gives)) in
      let deep_old : deepest_row 0 rows ≡ max (deepest_row 0 e.before) (max (row.depth + 0) (deepest_row 0 behind)) =
      ap (deepest_row 0) e.rows_are ∙ deepest-append 0 e.before (row ∷ behind)
      ∙ ap (max (deepest_row 0 e.before)) (element_deep row.content e.name (row.depth + 0) (deepest_row 0 behind) e.has_content) in
      let deep_new : deepest_row 0 now ≡ max (deepest_row 0 e.before) (max (row.depth + 0) (deepest_row 0 behind)) =
      ap (deepest_row 0) all ∙ deepest-append 0 e.before (other ∷ behind) in
      (record { whole = whole.1; shallow = omega (arith, deep_old, deep_new, sound.shallow) }, whole.0)

  renames : (now : List Row) (name : Expanded) → now ≡ set rows k (record row { content = contents.Element name }) → Renames rows now key name
  renames now name is =
      let z = changed now (with_name name) name e.attributes refl (is ∙ ap (λ xs. set rows k (record row { content = contents.Element name; attributes = xs })) e.has_attributes) in
      record { sound = z.0; gives = λ next. ap (λ f. record { forest = f; next_free = next }) (sym z.1) }

  reattributes : (now : List Row) (change : List Attribute → List Attribute) → now ≡ set rows k (record row { attributes = change row.attributes })
      → Reattributes rows now key change
  reattributes now change is =
      let z = changed now (with_attributes change) e.name (change e.attributes) refl
      (is ∙ ap (λ xs. set rows k (record row { attributes = change xs })) e.has_attributes
      ∙ ap (λ x. set rows k (record row { content = x; attributes = change e.attributes })) e.has_content) in
      record { sound = z.0; gives = λ next. ap (λ f. record { forest = f; next_free = next }) (sym z.1) }

  pub element_placed : k < length rows → row ≡ get_or rows k row → IsElementPlace rows key k
  element_placed within read = record {
    within = within;
    row = row;
    reads = read;
    shallow = depth_is rows key k row e sound.shallow;
    scoped = scope_is rows key k row e;
    changes = λ change. ap (change_element change) e.is_found
        ∙ ap (λ b. change b e.attributes) (sym e.has_bindings) ∙ ap (change row.bindings) (sym e.has_attributes);
    renames = renames;
    reattributes = reattributes;
  }

pub place_of_element : (rows : List Row) (key k : ℕ) (row : Row) (name : Expanded) → AreSound rows → k ≡ position_or_len (is_numbered key) rows → k < length rows
    → row ≡ get_or rows k row → row.content ≡ contents.Element name → IsElementPlace rows key k
place_of_element rows key k row name sound at_k within read c =
    element_placed rows key k row sound (element_at rows key k row name sound.whole at_k within read c) within read

-- the row of a place
pub one_row : (rows : List Row) (k : ℕ) (a b : Row) → k < length rows → a ≡ get_or rows k a → b ≡ get_or rows k b → a ≡ b
one_row rows k a b within e f = e ∙ get_or_default rows k a b within ∙ sym f

-- a name that is refused refuses the edit
refused_by : (end : Result Document EditError) (reason : NameReason) → end ≡ Err (refusal_of reason) → IsWhy end (refusal_of reason)
refused_by end reasons.BadName e = e
refused_by end reasons.ReservedName e = e
refused_by end reasons.UnboundPrefix e = e
refused_by end reasons.DoubleAttribute e = e
refused_by end reasons.TooManyAttributes e = e

module _ (rows : List Row) (key k : ℕ) (p : IsElementPlace rows key k) (name : List ℕ) where
  pub rename_refused : (reason : NameReason) → Err reason ≡ element_resolved (scope_in key first_scope (siblings rows 1)) name → CannotMake rows (edits.Rename key name) (refusal_of reason)
  rename_refused reason r next =
      refused_by _ reason (p.changes (rename (tree_of rows next) key name) ∙ sym (ap (by_name (λ own. Ok (renamed key own (tree_of rows next)))) r))

  pub rename_made : (now : List Row) (own : Expanded) → Ok own ≡ element_resolved (scope_in key first_scope (siblings rows 1)) name
      → now ≡ set rows k (record p.row { content = contents.Element own }) → Makes rows now (edits.Rename key name)
  rename_made now own r is =
      let z = p.renames now own is in
      record {
        sound = z.sound;
        gives = λ next. p.changes (rename (tree_of rows next) key name) ∙ sym (ap (by_name (λ own. Ok (renamed key own (tree_of rows next)))) r) ∙ ap Ok (z.gives next);
      }

  abbrev setting : ℕ → List ℕ → Expanded → Result Document EditError
  setting next value own =
      if has_no_room own p.row.bindings p.row.attributes then Err TooManyAttributes else Ok (attribute_set key own value (tree_of rows next))

  pub set_refused : (value : List ℕ) (reason : NameReason) → Err reason ≡ attribute_resolved (scope_in key first_scope (siblings rows 1)) name
      → CannotMake rows (edits.SetAttr key name value) (refusal_of reason)
  set_refused value reason r next =
      refused_by _ reason (p.changes (set_attribute (tree_of rows next) key name value) ∙ sym (ap (by_name (setting next value)) r))

  pub set_full : (value : List ℕ) (own : Expanded) → Ok own ≡ attribute_resolved (scope_in key first_scope (siblings rows 1)) name
      → has_no_room own p.row.bindings p.row.attributes ≡ true → CannotMake rows (edits.SetAttr key name value) TooManyAttributes
  set_full value own r full next =
      p.changes (set_attribute (tree_of rows next) key name value) ∙ sym (ap (by_name (setting next value)) r)
      ∙ ap (λ b. if b then Err TooManyAttributes else Ok (attribute_set key own value (tree_of rows next))) full

  pub set_made : (now : List Row) (value : List ℕ) (own : Expanded) → Ok own ≡ attribute_resolved (scope_in key first_scope (siblings rows 1)) name
      → has_no_room own p.row.bindings p.row.attributes ≡ false
      → now ≡ set rows k (record p.row { attributes = set_in own value p.row.attributes }) → Makes rows now (edits.SetAttr key name value)
  set_made now value own r room is =
      let z = p.reattributes now (set_in own value) is in
      record {
        sound = z.sound;
        gives = λ next. p.changes (set_attribute (tree_of rows next) key name value) ∙ sym (ap (by_name (setting next value)) r)
            ∙ ap (λ b. if b then Err TooManyAttributes else Ok (attribute_set key own value (tree_of rows next))) room ∙ ap Ok (z.gives next);
      }

  abbrev taking : ℕ → Expanded → Result Document EditError
  taking next own = if has_name own p.row.attributes then Ok (attribute_unset key own (tree_of rows next)) else Err NoSuchAttribute

  pub unset_refused : (reason : NameReason) → Err reason ≡ attribute_resolved (scope_in key first_scope (siblings rows 1)) name
      → CannotMake rows (edits.UnsetAttr key name) (refusal_of reason)
  unset_refused reason r next =
      refused_by _ reason (p.changes (unset_attribute (tree_of rows next) key name) ∙ sym (ap (by_name (taking next)) r))

  pub unset_missing : (own : Expanded) → Ok own ≡ attribute_resolved (scope_in key first_scope (siblings rows 1)) name
      → None ≡ position (λ a. same_name a.name own) p.row.attributes → CannotMake rows (edits.UnsetAttr key name) NoSuchAttribute
  unset_missing own r missing next =
      p.changes (unset_attribute (tree_of rows next) key name) ∙ sym (ap (by_name (taking next)) r)
      ∙ ap (λ b. if b then Ok (attribute_unset key own (tree_of rows next)) else Err NoSuchAttribute) (none_of own p.row.attributes (sym missing))

  pub unset_made : (now : List Row) (own : Expanded) (at : ℕ) → Ok own ≡ attribute_resolved (scope_in key first_scope (siblings rows 1)) name
      → Some at ≡ position (λ a. same_name a.name own) p.row.attributes
      → now ≡ set rows k (record p.row { attributes = remove p.row.attributes at }) → Makes rows now (edits.UnsetAttr key name)
  unset_made now own at r there is =
      let d : Attribute = record { name = own; value = [] } in
      let q = position-Some (λ (a : Attribute). same_name a.name own) p.row.attributes at d (sym there) in
      let z = p.reattributes now (unset_in own) (is ∙ ap (λ xs. set rows k (record p.row { attributes = xs })) (unset_is own p.row.attributes at d q.0 q.1 q.2)) in
      record {
        sound = z.sound;
        gives = λ next. p.changes (unset_attribute (tree_of rows next) key name) ∙ sym (ap (by_name (taking next)) r)
            ∙ ap (λ b. if b then Ok (attribute_unset key own (tree_of rows next)) else Err NoSuchAttribute) (has_at own p.row.attributes at d q.0 q.1) ∙ ap Ok (z.gives next);
      }

  -- by the row as it was read
  pub set_written : (value new : List ℕ) (own : Expanded) (row now : Row) → Ok own ≡ attribute_resolved (scope_in key first_scope (siblings rows 1)) name
      → row ≡ get_or rows k row → new ≡ value
      → (now ≡ record row { attributes = set_in own new row.attributes }) × (has_no_room own row.bindings row.attributes ≡ false) → Makes rows (set rows k now) (edits.SetAttr key name value)
  set_written value new own row now r read same w =
      let e = one_row rows k row p.row p.within read p.reads in
      set_made (set rows k now) value own r (sym (ap (λ (x : Row). has_no_room own x.bindings x.attributes) e) ∙ w.1)
      (ap (set rows k) (w.0 ∙ ap (λ (x : Row). record x { attributes = set_in own new x.attributes }) e ∙ ap (λ v. record p.row { attributes = set_in own v p.row.attributes }) same))

  pub set_past : (value : List ℕ) (own : Expanded) (row : Row) (error : EditError) → Ok own ≡ attribute_resolved (scope_in key first_scope (siblings rows 1)) name
      → row ≡ get_or rows k row → (error ≢ Memory → (error ≡ TooManyAttributes) × (has_no_room own row.bindings row.attributes ≡ true))
      → CannotMake rows (edits.SetAttr key name value) error
  set_past value own row error r read w next =
      let e = one_row rows k row p.row p.within read p.reads in
      why_but_memory _ error
      (λ n. set_full value own r (sym (ap (λ (x : Row). has_no_room own x.bindings x.attributes) e) ∙ (w n).1) next ∙ ap Err (sym (w n).0))

  pub unset_written : (own : Expanded) (at : ℕ) (row read_row now : Row) → Ok own ≡ attribute_resolved (scope_in key first_scope (siblings rows 1)) name
      → row ≡ get_or rows k row → read_row ≡ get_or rows k read_row → Some at ≡ position (λ a. same_name a.name own) read_row.attributes
      → now ≡ record row { attributes = remove row.attributes at } → Makes rows (set rows k now) (edits.UnsetAttr key name)
  unset_written own at row read_row now r read also there is =
      let e = one_row rows k row p.row p.within read p.reads in
      let f = one_row rows k read_row p.row p.within also p.reads in
      unset_made (set rows k now) own at r (there ∙ ap (λ (x : Row). position (λ a. same_name a.name own) x.attributes) f)
      (ap (set rows k) (is ∙ ap (λ (x : Row). record x { attributes = remove x.attributes at }) e))

  pub unset_none : (own : Expanded) (row : Row) → Ok own ≡ attribute_resolved (scope_in key first_scope (siblings rows 1)) name
      → row ≡ get_or rows k row → None ≡ position (λ a. same_name a.name own) row.attributes → CannotMake rows (edits.UnsetAttr key name) NoSuchAttribute
  unset_none own row r read missing =
      unset_missing own r (missing ∙ ap (λ (x : Row). position (λ a. same_name a.name own) x.attributes) (one_row rows k row p.row p.within read p.reads))

-- a row that is as it was
pub row_kept : (rows : List Row) (k : ℕ) (row now : Row) → row ≡ get_or rows k row → now ≡ row → set rows k now ≡ rows
row_kept rows k row now read e = ap (set rows k) (e ∙ read) ∙ set-get_or rows k row
