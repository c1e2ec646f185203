-- A change by numbers takes no more steps than it may cost.
use Rattle.std.proofs.Common.{◌≡◌, ℕ, ◌+◌, ◌≤◌, List, [], refl, sym, subst, arith}
use Rattle.tree_rows.specs.Forest.{Forest, none, text, element, Document}
use Rattle.tree_edits.specs.declared.edit.Edit.TheVariants as edits
use Rattle.tree_edits.specs.Inverses.{written, CanPutBack}
use Rattle.tree_edits.specs.Inverses as law
use Rattle.tree_edits.proofs.Twice.{absent}
use Rattle.assessment.specs.Assessment.{Entry, entries}
use Rattle.assessment.proofs.Alike.{element-counts}
use Rattle.compiled_schema.specs.Usable.{set_of}
use Rattle.compiled_schema.specs.declared.compiled.Compiled.{Compiled}
use Rattle.edit_budgets.specs.UndoBudget.{change_budget}
use Rattle.what_is_found.specs.IsFound.{IsFound}
use Rattle.doc_nodes.specs.Nodes.{Nodes}
use Rattle.doc_changes.specs.Stands.{StandsFor, expanded_of}
use Rattle.doc_edits.specs.declared.change.Change.TheVariants as edited
use Rattle.doc_tree.specs.Changes.{Means}
use Rattle.doc_tree.specs.Parts.{IsPart}
use Rattle.doc_tree.specs.declared.change.Change.{Change}
use Rattle.doc_tree.specs.declared.change.Change.TheVariants as changes
use Rattle.doc_tree.specs.declared.part.PartRow.{PartRow}
use Rattle.doc_tree.proofs.Meaning.{puts_back, takes, names, writes, rewords}
use Rattle.kept_inverses.specs.from_kept_records.Found.{found_in}
use Rattle.kept_inverses.specs.from_kept_state.KeptState.{KeptState}
use Rattle.kept_inverses.specs.from_kept_children.Edited.{IsRightFor}
use Rattle.kept_inverses.specs.Steps.{TakesInverse, TakesPart}
use Rattle.kept_inverses.proofs.Following.{take-fits, take-below, name-kind, write-kind, reword-kind}
use Rattle.kept_inverses.proofs.Budget.{change-budgeted, attributes-budgeted, came-budgeted}

module _ (c : Compiled) (old : Nodes) (k : KeptState) (d : Document) (right : IsRightFor c old k) (z : StandsFor c.names old d) (new : Nodes) where
  abbrev was : List Entry
  was = entries (found_in old k.records.slots d.forest)

  -- within the budget of the change
  abbrev IsWithin : law.Change → List Entry → ℕ → ℕ → Type 0
  IsWithin own found first last = last ≤ first + change_budget (set_of c) d was (law.changed d own) found own

  -- a part came back: none of it was there
  put : (p place : ℕ) (part : List PartRow) (f : Forest) → IsPart c.names part f → CanPutBack d p place f → StandsFor c.names new (law.changed d (law.put_back p place f)) → (found : List Entry) →
      IsFound (set_of c) (law.changed d (law.put_back p place f)) found → (first last : ℕ) → TakesPart c new k part p first last → IsWithin (law.put_back p place f) found first last
  put p place part none is can stands found found_is first last taken = absurd can.one
  put p place part (text n chars next) is can stands found found_is first last taken =
      let same : last ≡ first = subst (λ (rows : List PartRow). TakesPart c new k rows p first last) is.1 taken in omega (arith, same)
  put p place part (element n name bindings attributes children next) is can stands found found_is first last taken =
      let f = element n name bindings attributes children next in
      came-budgeted c old k d right z new p place f d.next_free stands found found_is can.element
      (λ m h.
      let among = element-counts m f h in let most = can.differ m in
      absent m d.forest (omega (arith, among, most)))
      first last (subst (λ (rows : List PartRow). TakesPart c new k rows p first last) is.3 taken)

  pub inverse-budgeted : (change : Change) (own : law.Change) → Means c.names change own → law.Fits d own → StandsFor c.names new (law.changed d own) → (found : List Entry) →
      IsFound (set_of c) (law.changed d own) found → (first last : ℕ) → TakesInverse c old new k change first last → IsWithin own found first last
  inverse-budgeted (changes.PutBack p place part) own m fits =
      let q = puts_back c.names d own p place part m fits in
      subst (λ (x : law.Change). StandsFor c.names new (law.changed d x) → (found : List Entry) → IsFound (set_of c) (law.changed d x) found → (first last : ℕ) → TakesPart c new k part p first last → IsWithin x found first last)
      (sym q.is) (put p place part q.f q.part_is q.can)
  inverse-budgeted (changes.Take key) own m fits =
      let below = take-below c.names old d z key (take-fits c.names old d z own key m fits) in
      subst (λ (x : law.Change). StandsFor c.names new (law.changed d x) → (found : List Entry) → IsFound (set_of c) (law.changed d x) found → (first last : ℕ) → TakesInverse c old new k (changes.Take key) first last → IsWithin x found first last)
      (sym (takes c.names own key m))
      (λ stands found is first last taken. change-budgeted c old k d right z new (edits.Remove key) (edited.Remove key) refl below stands found is first last taken)
  inverse-budgeted (changes.Name key n) own m fits =
      let it = names c.names own key n m in
      let kind = name-kind c.names old d z own key n m fits in
      subst (λ (x : law.Change). StandsFor c.names new (law.changed d x) → (found : List Entry) → IsFound (set_of c) (law.changed d x) found → (first last : ℕ) → TakesInverse c old new k (changes.Name key n) first last → IsWithin x found first last)
      (sym it.1)
      (λ stands found is first last taken. change-budgeted c old k d right z new (edits.Rename key []) (edited.Rename key n) (n, refl) (kind, it.0) stands found is first last taken)
  inverse-budgeted (changes.Attr key n place value) own m fits =
      let it = writes c.names own key n place value m in
      let kind = write-kind c.names old d z own key n place value m fits in
      subst (λ (x : law.Change). StandsFor c.names new (law.changed d x) → (found : List Entry) → IsFound (set_of c) (law.changed d x) found → (first last : ℕ) → TakesInverse c old new k (changes.Attr key n place value) first last → IsWithin x found first last)
      (sym it.1)
      (λ stands found is first last taken.
      attributes-budgeted c old k d right z new (law.changed d (law.write key (expanded_of c.names n) place value)) stands found is key (written (expanded_of c.names n) place value) refl kind 0 first last taken)
  inverse-budgeted (changes.Chars key chars) own m fits =
      let kind = reword-kind c.names old d z own key chars m fits in
      subst (λ (x : law.Change). StandsFor c.names new (law.changed d x) → (found : List Entry) → IsFound (set_of c) (law.changed d x) found → (first last : ℕ) → TakesInverse c old new k (changes.Chars key chars) first last → IsWithin x found first last)
      (sym (rewords c.names own key chars m))
      (λ stands found is first last taken. change-budgeted c old k d right z new (edits.SetText key chars) (edited.SetText key chars) refl kind stands found is first last taken)
