-- What a change of a tree and the change that undoes it touch, and which lists of children they leave.
use Rattle.std.proofs.Common.{◌≡◌, ◌⊎◌, inl, inr, ℕ, ◌≤◌, ◌<◌, List, Bool, Option, Some, None, Ok, true, false, ◌==◌, refl, sym, ap, ◌∙◌, arith, subst}
use Rattle.std.proofs.lemmas.Bool.{eqb-true}
use Rattle.std.proofs.lemmas.Option.{none-some, same_Some}
use Rattle.std.specs.Option.{option_or}
use Rattle.tree_rows.specs.Forest.{Forest, none, text, Document}
use Rattle.tree_rows.specs.Whole.{IsTree, times}
use Rattle.tree_edits.specs.Changes.{with_name, with_attributes}
use Rattle.tree_edits.specs.Edits.{Found, replaced, insert_at, with_children, with_chars, can_be_made, renumbered, scope_in}
use Rattle.tree_edits.specs.Tests.{edited}
use Rattle.tree_edits.specs.declared.edit.Edit.{Edit}
use Rattle.tree_edits.specs.declared.edit.Edit.TheVariants as edits
use Rattle.tree_edits.proofs.Lying.{lies}
use Rattle.tag_names.specs.Scopes.{first_scope}
use Rattle.tree_building.specs.Building.{block}
use Rattle.tree_edits.specs.Inverses.{Change, put_back, take_out, rename, write, reword, changed, inverse_of, written, Fits}
use Rattle.tree_edits.specs.EditChanges.{change_of}
use Rattle.tree_edits.specs.Sites.{first_number}
use Rattle.tree_edits.proofs.Inverses.{at_element, element_lies, part_absent}
use Rattle.tree_edits.proofs.InverseLying.{found_has, element_at, text_at, node_of_one}
use Rattle.tree_edits.proofs.Twice.{gone, found_changed, has_put}
use Rattle.tree_edits.proofs.Undone.{is_change, edit_fits}
use Rattle.edit_history.specs.declared.touched.Touched.{Touched}
use Rattle.xsv_run.specs.from_open_document.Touches.{touched, touches, list_of, node_in}
use Rattle.turn_laws.specs.Lists.{Child, list_at}
use Rattle.turn_laws.proofs.Lists.{IsListed, option_cases, list_past, listed_from, list_stays, taken_stays, parent_before, parent_after, element_listed, part_stays}
use Rattle.turn_laws.proofs.Sites.{found_number, put_below}

-- the change that undoes one of this tree
abbrev pub inverse_at : Forest → Change → Change
inverse_at f c = inverse_of (record { forest = f; next_free = 0 }) c

pub inverse_same : (d : Document) (c : Change) → inverse_of d c ≡ inverse_at d.forest c
inverse_same d (put_back parent place part) = refl
inverse_same d (take_out key) = refl
inverse_same d (rename key name) = refl
inverse_same d (write key name place value) = refl
inverse_same d (reword key chars) = refl

-- ---- a change that undoes one that undoes one

pub touched_again : (d : Document) (c : Change) → Fits d c → touches (inverse_at (changed d c).forest (inverse_at d.forest c)) d.forest ≡ touches c d.forest
touched_again d (put_back parent place part) fits =
    let e = element_at parent d.forest fits.element in
    ap list_of (put_below (first_number part) parent place 1 0 0 part d.forest (at_element parent d.forest e) (element_lies parent d.forest e) refl (node_of_one part fits.one)
    (part_absent d part fits.one fits.differ))
touched_again d (take_out key) fits = ap (λ (n : ℕ). node_in n d.forest) (found_number key d.forest fits.0)
touched_again d (rename key name) fits = refl
touched_again d (write key name place value) fits = refl
touched_again d (reword key chars) fits = refl

pub inverse_again : (d : Document) (c : Change) → Fits d c → inverse_at d.forest (inverse_at (changed d c).forest (inverse_at d.forest c)) ≡ inverse_at d.forest c
inverse_again d (put_back parent place part) fits =
    let e = element_at parent d.forest fits.element in
    ap take_out (found_number (first_number part) (changed d (put_back parent place part)).forest
    (has_put (first_number part) parent place 1 part d.forest (at_element parent d.forest e) (element_lies parent d.forest e) refl (node_of_one part fits.one)))
inverse_again d (take_out key) fits = ap (λ (n : ℕ). inverse_at d.forest (take_out n)) (found_number key d.forest fits.0)
inverse_again d (rename key name) fits = refl
inverse_again d (write key name place value) fits = refl
inverse_again d (reword key chars) fits = refl

-- an edit touches what its change does
pub touched_is : (d : Document) (edit : Edit) (f : Forest) → touches (change_of d edit) f ≡ touched edit f
touched_is d (edits.Insert parent place its) f = refl
touched_is d (edits.AddText parent place chars) f = refl
touched_is d (edits.SetText key chars) f = refl
touched_is d (edits.Remove key) f = refl
touched_is d (edits.Rename key name) f = refl
touched_is d (edits.SetAttr key name value) f = refl
touched_is d (edits.UnsetAttr key name) f = refl

-- ---- the list of the children of an element

module _ (parent : ℕ) where
  -- where the list is not touched, that of an element that is not new is as it was; where it is touched, there is one before and after
  pub record LeavesList (a b : Forest) (keys : Touched) (Old : Type 0) : Type 0 where
    pub stays : Old → (keys.list ≡ Some parent → ⊥) → (l : List Child) → list_at parent b ≡ Some l → list_at parent a ≡ Some l
    pub there : keys.list ≡ Some parent → IsListed parent a × IsListed parent b

  -- the element is none of the new nodes
  abbrev pub IsOld : Change → Type 0
  IsOld (put_back above place part) = list_at parent part ≡ None
  IsOld _ = Unit {0}

  or_of : (above : Option ℕ) (f : Forest) → above ≡ None → (above ≡ Some parent) ⊎ IsListed parent f → IsListed parent f
  or_of above f gone_up (inl e) = absurd (none-some parent (sym gone_up ∙ e))
  or_of above f gone_up (inr h) = h

  pub lists_left : (d : Document) (c : Change) → ((key : ℕ) → times key d.forest ≤ 1) → Fits d c → LeavesList d.forest (changed d c).forest (touches c d.forest) (IsOld c)
  lists_left d (put_back above place part) differ fits =
      let e = element_at above d.forest fits.element in
      let it = at_element above d.forest e in
      let at = element_lies above d.forest e in
      let change = with_children place part in
      record {
        stays = λ old far l h.
            let apart : (above == parent) ≡ false = option_false (above == parent) (λ same. far (ap (λ (n : ℕ). Some n) (eqb-true above parent same))) in
            sym (list_stays parent above 1 None change d.forest it at
            (λ next. list_past parent above e.name e.bindings e.attributes (insert_at place part e.children) next apart
            ∙ ap (λ (o : Option (List Child)). option_or o (list_at parent next)) (part_stays parent place part e.children old)
            ∙ sym (list_past parent above e.name e.bindings e.attributes e.children next apart)) (inl (λ next. refl))) ∙ h;
        there = λ same.
            let is : above ≡ parent = same_Some above parent same in (
              subst (λ (n : ℕ). IsListed n d.forest) is (element_listed above 1 d.forest it at refl),
              subst (λ (n : ℕ). IsListed n (replaced above change d.forest)) is
                  (element_listed above 1 (replaced above change d.forest) (record { depth = it.depth; node = change it.node })
                  (lies above 1 (replaced above change d.forest) (record { depth = it.depth; node = change it.node }) (found_changed above 1 change d.forest it at (refl, refl))) refl),
            );
      }
    where
      option_false : (b : Bool) → (b ≡ true → ⊥) → b ≡ false
      option_false true h = absurd (h refl)
      option_false false h = refl
  lists_left d (take_out key) differ fits =
      let it = found_has key 1 d.forest fits.0 in
      let at = lies key 1 d.forest it.0 it.1 in
      record {
        stays = λ old far l h. taken_stays parent key 1 None d.forest it.0 at (differ parent) far l h;
        there = λ same. (
          or_of None d.forest refl (parent_before parent key 1 None d.forest it.0 at same),
          or_of None (replaced key gone d.forest) refl (parent_after parent key 1 None gone d.forest it.0 at same),
        );
      }
  lists_left d (rename key name) differ fits =
      let e = element_at key d.forest fits.0 in
      let it = at_element key d.forest e in
      let at = element_lies key d.forest e in
      record {
        stays = λ old far l h. sym (list_stays parent key 1 None (with_name name) d.forest it at (λ next. refl) (inr far)) ∙ h;
        there = λ same. (
          or_of None d.forest refl (parent_before parent key 1 None d.forest it at same),
          or_of None (replaced key (with_name name) d.forest) refl (parent_after parent key 1 None (with_name name) d.forest it at same),
        );
      }
  lists_left d (write key name place value) differ fits =
      let e = element_at key d.forest fits.0 in
      record {
        stays = λ old far l h.
            sym (list_stays parent key 1 None (with_attributes (written name place value)) d.forest (at_element key d.forest e) (element_lies key d.forest e) (λ next. refl) (inl (λ next. refl))) ∙ h;
        there = λ same. absurd (none-some parent same);
      }
  lists_left d (reword key chars) differ fits =
      let e = text_at key d.forest fits in
      let it : Found = record { depth = e.depth; node = text key e.chars none } in
      record {
        stays = λ old far l h. sym (list_stays parent key 1 None (with_chars chars) d.forest it (lies key 1 d.forest it e.is_found) (λ next. refl) (inl (λ next. refl))) ∙ h;
        there = λ same. absurd (none-some parent same);
      }

  -- ---- an edit

  edit_old : (d : Document) (edit : Edit) → parent < d.next_free → IsOld (change_of d edit)
  edit_old d (edits.Insert above place its) low =
      option_cases (list_at parent (renumbered d.next_free (block (scope_in above first_scope d.forest) its)))
      (λ l e. let high = listed_from d.next_free parent (block (scope_in above first_scope d.forest) its) (l, e) in omega (arith, high, low))
  edit_old d (edits.AddText above place chars) low = refl
  edit_old d (edits.SetText key chars) low = tt
  edit_old d (edits.Remove key) low = tt
  edit_old d (edits.Rename key name) low = tt
  edit_old d (edits.SetAttr key name value) low = tt
  edit_old d (edits.UnsetAttr key name) low = tt

  pub edit_leaves : (d e : Document) (edit : Edit) → can_be_made edit ≡ true → IsTree d → edited d edit ≡ Ok e
      → LeavesList d.forest e.forest (touched edit d.forest) (parent < d.next_free)
  edit_leaves d e edit can tree made =
      let fresh : Document = record { forest = d.forest; next_free = e.next_free } in
      let c = change_of d edit in
      let left =
      subst (λ (k : Touched). LeavesList d.forest e.forest k (IsOld c)) (touched_is d edit d.forest)
      (subst (λ (x : Document). LeavesList d.forest x.forest (touches c d.forest) (IsOld c)) (is_change d e edit made)
      (lists_left fresh c tree.differ (edit_fits d e edit can tree made))) in
      record { stays = λ low. left.stays (edit_old d edit low); there = left.there }

-- the change that undoes an edit: what undoing it touches is what the edit touched, and redoing that and undoing it again is the same change
pub record IsUndoOf (a b : Forest) (keys : Touched) (back : Change) : Type 0 where
  pub touches_so : touches (inverse_at b back) a ≡ keys
  pub again : inverse_at a (inverse_at b back) ≡ back

pub edit_undone_by : (d e : Document) (edit : Edit) → can_be_made edit ≡ true → IsTree d → edited d edit ≡ Ok e → IsUndoOf d.forest e.forest (touched edit d.forest) (inverse_of d (change_of d edit))
edit_undone_by d e edit can tree made =
    let fresh : Document = record { forest = d.forest; next_free = e.next_free } in
    let c = change_of d edit in
    let fits = edit_fits d e edit can tree made in
    let is = is_change d e edit made in
    subst (IsUndoOf d.forest e.forest (touched edit d.forest)) (sym (inverse_same d c)) (record {
      touches_so =
          ap (λ (x : Document). touches (inverse_at x.forest (inverse_at d.forest c)) d.forest) (sym is) ∙ touched_again fresh c fits ∙ touched_is d edit d.forest;
      again = ap (λ (x : Document). inverse_at d.forest (inverse_at x.forest (inverse_at d.forest c))) (sym is) ∙ inverse_again fresh c fits;
    })
