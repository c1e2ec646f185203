-- An element that was taken out of the document, with all that was below it, and out of what is kept.
use Rattle.std.proofs.Common.{◌≡◌, ◌≢◌, ℕ, zero, suc, ◌+◌, ◌*◌, length, remove, Bool, true, false, Option, None, Some, refl, sym, ap, ◌∙◌, subst, inl, inr, arith}
use Rattle.std.specs.Prelude.{◌==◌, ◌||◌, slice_get, unwrap_or}
use Rattle.std.specs.Option.{option_and_then}
use Rattle.std.proofs.lemmas.Bool.{cases_eq, eqb-true, or_cases, false≢true}
use Rattle.std.proofs.lemmas.Option.{none-some, same_Some}
use Rattle.xs_names.specs.Names.{NameTable}
use Rattle.tree_rows.specs.Forest.{Forest, none, text, element, Document}
use Rattle.tree_edits.specs.Edits.{has}
use Rattle.elem_governing.specs.declared.pairs.Governing.{Governing}
use Rattle.compiled_schema.specs.declared.compiled.Compiled.{Compiled}
use Rattle.doc_nodes.specs.Nodes.{Node, Nodes, node, IsNode, IsSound, IsChildAt, Has, is_element_by, is_element_at}
use Rattle.doc_changes.specs.Held.{parent_at}
use Rattle.doc_changes.specs.Parts.{IsOver, Prunes}
use Rattle.doc_changes.specs.Stands.{StandFor, StandsFor, firsts}
use Rattle.doc_changes.proofs.Changing.{own_below, is_over, some_place}
use Rattle.kept_slots.specs.Slots.{at}
use Rattle.kept_children.specs.from_kept_records.Slots.{IsMade, blank, pair_at}
use Rattle.kept_children.specs.from_kept_records.Fit.{models_of}
use Rattle.kept_children.proofs.from_kept_records.Nodes.{by-node, there}
use Rattle.kept_children.specs.from_kept_state.Kept.{IsBeside, outcome_at}
use Rattle.kept_children.specs.from_kept_state.Outcome.{Outcome}
use Rattle.kept_children.specs.from_kept_state.KeptState.{KeptState}
use Rattle.kept_children.specs.from_kept_judging.Judged.{symbols_by, pair_by}
use Rattle.kept_children.specs.from_kept_forgetting.Below.{upwards, IsBelow, IsWithin}
use Rattle.kept_children.specs.from_kept_forgetting.Forgotten.{Forgets}
use Rattle.kept_children.proofs.from_kept_forgetting.Placed.{parent-has}
use Rattle.kept_children.proofs.from_kept_forgetting.Walks.{self-within, below-within, child-below, parent-of}
use Rattle.kept_children.specs.from_kept_below.Moved.{moved}
use Rattle.kept_children.proofs.from_kept_below.Moving.{moved-alike}
use Rattle.kept_children.specs.Edited.{IsRightFor, IsPruned}
use Rattle.kept_children.specs.Steps.{digits, marked_count, width}
use Rattle.kept_children.specs.from_child_lists.Family.{marked_places}
use Rattle.kept_children.specs.from_child_lists.Places.{IsPlaceOf}
use Rattle.kept_children.specs.from_child_lists.ChildPlace.{ChildPlace}
use Rattle.kept_changes.specs.Turned.{Goes}
use Rattle.kept_changes.specs.Steps.{TakesBelow}

-- what has a node of these numbers as a child's descendant is below its parent
pub has-below : (t : NameTable) (ns : Nodes) → IsSound ns → (n : ℕ) (f : Forest) → StandFor t ns f → ((x : ℕ) → Has x (firsts f) → parent_at ns x ≡ Some n) → (m : ℕ) → has m f ≡ true → IsBelow ns n m
has-below t ns sound n none s up m h = absurd (false≢true h)
has-below t ns sound n (text number chars next) s up m h = elim (or_cases (number == m) (has m next) h) [
  | inl own ↦ subst (IsBelow ns n) (eqb-true number m own) (child-below ns number n number (up number (inl refl)) (self-within ns number))
  | inr later ↦ has-below t ns sound n next s.1 (λ x k. up x (inr k)) m later
]
has-below t ns sound n (element number name bindings attributes children next) s up m h = elim (or_cases (number == m) (has m children || has m next) h) [
  | inl own ↦ subst (IsBelow ns n) (eqb-true number m own) (child-below ns number n number (up number (inl refl)) (self-within ns number))
  | inr more ↦ elim (or_cases (has m children) (has m next) more) [
    | inl below ↦
        let deep = has-below t ns sound number children s.1 (λ x k. parent-of ns sound number x s.0.it s.0.is (subst (Has x) (sym s.0.children_are) k)) m below in
        child-below ns number n m (up number (inl refl)) (below-within ns number m deep)
    | inr later ↦ has-below t ns sound n next s.2 (λ x k. up x (inr k)) m later
  ]
]

module _ (c : Compiled) (old : Nodes) (before : KeptState) (right : IsRightFor c old before) (spot : ChildPlace) (placed : IsPlaceOf old spot) (element : is_element_at old spot.node ≡ true) where
  sound : IsSound old
  sound = right.beside.over.1.stands.links

  abbrev own : (it : Node) × IsNode old spot.node it
  own = by-node old spot.node (node old spot.node) refl element

  abbrev below : Forest
  below = own_below c.names old old right.beside.over.0 right.beside.over.1.stands spot.node own.0 own.1

  over : IsOver c.names old spot.node below
  over = is_over c.names old old right.beside.over.0 right.beside.over.1.stands spot.node own.0 own.1

  abbrev above : (it : Node) × IsNode old spot.parent it × Has spot.node it.children
  above = parent-has old sound spot.node spot.parent placed.parent_is

  abbrev place : (i : ℕ) × (slice_get above.0.children i ≡ Some spot.node)
  place = some_place spot.node above.0.children above.2

  child : IsChildAt old spot.parent place.0 spot.node
  child = (above.0, above.1, place.1)

  -- what hung below it was below it
  hung : (m : ℕ) → has m below ≡ true → IsWithin old spot.node m
  hung m h =
      below-within old spot.node m
      (has-below c.names old sound spot.node below over.stand (λ x k. parent-of old sound spot.node x over.it over.is (subst (Has x) (sym over.children) k)) m h)

  module _ (k : KeptState) (forgets : Forgets old before k spot.node) (kept : IsBeside c old k) (new : Nodes) (e : Document) (z : StandsFor c.names new e)
      (change : (below : Forest) → IsOver c.names old spot.node below → (p place : ℕ) → IsChildAt old p place spot.node → Prunes old new p place spot.node below) where
    pub goes : Goes c.names old new spot.node
    goes = record { element = element; parent = spot.parent; place = place.0; below = below; child = child; over = over; prunes = change below over spot.parent place.0 child }

    prunes : Prunes old new spot.parent place.0 spot.node below
    prunes = change below over spot.parent place.0 child

    parent-node : IsNode new spot.parent (record above.0 { children = remove above.0.children place.0 })
    parent-node = prunes.parent above.0 above.1

    -- ---- what is left

    -- what is not within it is what it was, but for the children of its parent
    left-node : (m : ℕ) → m ≢ spot.parent → ¬ IsWithin old spot.node m → node new m ≡ node old m
    left-node m other out = by (has m below) refl
      where
        by : (b : Bool) → has m below ≡ b → node new m ≡ node old m
        by true h = absurd (out (hung m h))
        by false h = prunes.others m other (λ q. out (subst (IsWithin old spot.node) (sym q) (self-within old spot.node))) h

    left-element : (m : ℕ) → is_element_at old m ≡ true → ¬ IsWithin old spot.node m → is_element_at new m ≡ true
    left-element m is out = elim (cases_eq m spot.parent) [
      | inl q ↦ ap (is_element_at new) q ∙ ap is_element_by parent-node ∙ sym (ap is_element_by above.1) ∙ ap (is_element_at old) (sym q) ∙ is
      | inr other ↦ ap is_element_by (left-node m other out) ∙ is
    ]

    kept-left : (m : ℕ) → IsMade k.records.slots m → is_element_at new m ≡ true
    kept-left m made = left-element m (kept.over.1.only m made) (λ w. none-some made.0 (sym (forgets.gone m w) ∙ made.1))

    pub gone-beside : IsBeside c new k
    gone-beside = record {
      over = (e, record { usable = kept.over.1.usable; stands = z; only = kept-left });
      governed = kept.governed;
      plain = kept.plain;
      booked = kept.booked;
      own = kept.own;
    }

    pub gone-pruned : (outcome : Outcome) → outcome ≡ outcome_at before.records.slots spot.node → IsPruned c new k spot outcome
    gone-pruned outcome is = record {
      old = old;
      before = before;
      right = right;
      placed = placed;
      outcome_is = is;
      forgets = forgets;
      place = place.0;
      below = below;
      child = child;
      prunes = prunes;
    }

    -- ---- the steps

    -- what is there still was there, below the same
    was-parent : (m : ℕ) (it : Node) → IsNode new m it → parent_at old m ≡ parent_at new m
    was-parent m it is = elim (cases_eq m spot.parent) [
      | inl q ↦
          ap (parent_at old) q ∙ ap (option_and_then (λ (x : Node). x.parent)) above.1 ∙ sym (ap (option_and_then (λ (x : Node). x.parent)) parent-node) ∙ ap (parent_at new) (sym q)
      | inr other ↦ ap (option_and_then (λ (x : Node). x.parent)) (sym (same (has m below) refl other))
    ]
      where
        same : (b : Bool) → has m below ≡ b → m ≢ spot.parent → node new m ≡ node old m
        same true h other = absurd (none-some it (sym (prunes.gone m h) ∙ is))
        same false h other = prunes.others m other (λ q. none-some it (sym prunes.here ∙ ap (node new) (sym q) ∙ is)) h

    still-out : (levels m : ℕ) (it : Node) → IsNode new m it → upwards old levels m ≡ Some spot.node → ⊥
    still-out zero m it is w = none-some it (sym prunes.here ∙ ap (node new) (sym (same_Some m spot.node w)) ∙ is)
    still-out (suc levels) m it is w = by (still-out levels) (parent_at old m) refl w
      where
        by : ((p : ℕ) (above : Node) → IsNode new p above → upwards old levels p ≡ Some spot.node → ⊥) → (o : Option ℕ) → parent_at old m ≡ o →
            option_and_then (upwards old levels) o ≡ Some spot.node → ⊥
        by out None q f = none-some spot.node f
        by out (Some p) q f = let up = parent-has new z.links m p (sym (was-parent m it is) ∙ q) in out p up.0 up.1 f

    slot-left : (m : ℕ) (it : Node) → IsNode new m it → at k.records.slots m ≡ at before.records.slots m
    slot-left m it is = forgets.rest.slots m (λ w. still-out w.0 m it is w.1)

    pair-left : pair_at k.records.slots spot.parent ≡ pair_at before.records.slots spot.parent
    pair-left = ap (λ o. (unwrap_or o blank).found.governing) (slot-left spot.parent (record above.0 { children = remove above.0.children place.0 }) parent-node)

    marked-left : marked_count c new k spot.parent ≡ marked_count c new before spot.parent
    marked-left = ap (λ (g : Governing). length (marked_places (models_of c g.of) (symbols_by c new g.of spot.parent))) pair-left

    pub gone-takes : (first last : ℕ) → TakesBelow c new k spot.parent (width new spot.parent + 1) first last → TakesBelow c new before spot.parent (width new spot.parent + 1) first last
    gone-takes first last takes siblings governs g =
        let few = takes siblings governs (record { down = g.down; are = g.are; given = λ i x at_place. g.given i x at_place ∙ ap (λ (pair : Governing). pair_by c new pair spot.parent i x) (sym pair-left) }) in
        let same : moved k.records.slots governs siblings ≡ moved before.records.slots governs siblings =
        moved-alike before.records.slots k.records.slots governs siblings (λ m h. let it = there g.down.names new siblings g.down.stand m h in slot-left m it.0 it.1) in
        let marked = ap (λ n. 16 * digits (width new spot.parent + 1) * n) marked-left in
        omega (arith, few, same, marked)
