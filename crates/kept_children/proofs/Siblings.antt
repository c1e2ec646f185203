-- The element at a place among siblings, and the others: how many child elements move where it alone is governed otherwise.
use Rattle.std.proofs.Common.{◌≡◌, ◌≢◌, ℕ, zero, suc, ◌+◌, ◌≤◌, List, [], ◌∷◌, length, true, Option, None, Some, refl, sym, ap, ◌∙◌, subst, inl, inr, arith}
use Rattle.std.specs.Prelude.{remove, slice_get, if◌then◌else◌}
use Rattle.std.proofs.lemmas.Option.{none-some, same_Some}
use Rattle.xs_names.specs.Names.{NameTable}
use Rattle.tree_rows.specs.Forest.{Forest, none, text, element}
use Rattle.tree_rows.specs.declared.name.Expanded.{Expanded}
use Rattle.tree_rows.specs.declared.row.Attribute.{Attribute}
use Rattle.tree_rows.specs.declared.row.Binding.{Binding}
use Rattle.xs_components.specs.declared.common.TypeId.{TypeId}
use Rattle.elem_governing.specs.declared.pairs.Governing.{Governing}
use Rattle.elem_governing.proofs.SameLaws.{same-self}
use Rattle.assessment.specs.Local.{HasElement}
use Rattle.compiled_schema.specs.declared.compiled.Compiled.{Compiled}
use Rattle.edit_budgets.specs.Budget.{same_governing}
use Rattle.doc_nodes.specs.Nodes.{Nodes, node, IsSound, depth_by, is_element_at, element_children}
use Rattle.doc_changes.specs.Held.{parent_at}
use Rattle.doc_changes.specs.Stands.{StandFor}
use Rattle.doc_changes.specs.Readers.{element_numbers}
use Rattle.doc_changes.proofs.Reading.{are_read}
use Rattle.kept_slots.specs.Slots.{at}
use Rattle.child_lists.specs.from_kept_records.Slots.{KeptSlots, IsMade, pair_at}
use Rattle.child_lists.proofs.from_kept_records.Nodes.{by-node, child-parent}
use Rattle.child_lists.specs.from_kept_state.Kept.{FitBut}
use Rattle.child_lists.specs.from_kept_state.KeptState.{KeptState}
use Rattle.child_lists.specs.from_kept_forgetting.Below.{IsWithin}
use Rattle.child_lists.proofs.from_kept_forgetting.Placed.{others-differ, children-differ}
use Rattle.child_lists.proofs.from_kept_forgetting.Walks.{parent-outside, siblings-apart}
use Rattle.kept_below.specs.Moved.{moved, is_typed, AreGivenDown}
use Rattle.kept_below.proofs.Moving.{given-part, moved-alike, under-one}
use Rattle.child_lists.proofs.Edits.{among-more}
use Rattle.kept_children.specs.Steps.{GovernsBelow}
use Rattle.kept_children.proofs.Moves.{has-place, nothing-moves}

-- ---- the element at a place

pub record HasOne (t : NameTable) (ns : Nodes) (place x : ℕ) (f : Forest) : Type 0 where
  pub name : Expanded
  pub bindings : List Binding
  pub attributes : List Attribute
  pub below : Forest
  pub others : Forest
  pub here : StandFor t ns (element x name bindings attributes below none)
  pub stand : StandFor t ns others
  pub are : element_numbers others ≡ remove (element_numbers f) place
  pub counts : (ks : KeptSlots) (governs : ℕ → Governing) → moved ks governs f ≡ moved ks governs (element x name bindings attributes below none) + moved ks governs others
  pub own : (m : ℕ) → HasElement m (element x name bindings attributes below none) → HasElement m f
  pub rest : (m : ℕ) → HasElement m others → HasElement m f

past : (a b n o r : ℕ) → n ≡ o + r → a + (b + n) ≡ o + (a + (b + r))
past a b n o r e = omega (arith, e)

pub one-of : (t : NameTable) (ns : Nodes) (f : Forest) (place x : ℕ) → StandFor t ns f → slice_get (element_numbers f) place ≡ Some x → HasOne t ns place x f
one-of t ns none place x s e = absurd (none-some x e)
one-of t ns (text number chars next) place x s e =
    let r = one-of t ns next place x s.1 e in
    record { name = r.name; bindings = r.bindings; attributes = r.attributes; below = r.below; others = r.others; here = r.here; stand = r.stand; are = r.are; counts = r.counts; own = r.own; rest = r.rest }
one-of t ns (element number name bindings attributes children next) zero x s e =
    let same : number ≡ x = same_Some number x e in
    let whole : element number name bindings attributes children next ≡ element x name bindings attributes children next = ap (λ y. element y name bindings attributes children next) same in
    record {
      name = name;
      bindings = bindings;
      attributes = attributes;
      below = children;
      others = next;
      here = subst (λ y. StandFor t ns (element y name bindings attributes children none)) same (s.0, s.1, tt);
      stand = s.2;
      are = refl;
      counts = λ ks governs. ap (moved ks governs) whole ∙ omega arith;
      own = λ m h. subst (HasElement m) (sym whole) (elim h [ inl q ↦ inl q | inr k ↦ elim k [ inl d ↦ inr (inl d) | inr never ↦ absurd never ] ]);
      rest = λ m h. inr (inr h);
    }
one-of t ns (element number name bindings attributes children next) (suc place) x s e =
    let r = one-of t ns next place x s.2 e in
    record {
      name = r.name;
      bindings = r.bindings;
      attributes = r.attributes;
      below = r.below;
      others = element number name bindings attributes children r.others;
      here = r.here;
      stand = (s.0, s.1, r.stand);
      are = ap (λ xs. number ∷ xs) r.are;
      counts = λ ks governs.
          past (if is_typed (at ks number) (governs number).of then 0 else length (element_numbers children)) (moved ks governs children) (moved ks governs next)
          (moved ks governs (element x r.name r.bindings r.attributes r.below none)) (moved ks governs r.others) (r.counts ks governs);
      own = λ m h. inr (inr (r.own m h));
      rest = λ m h. elim h [ inl q ↦ inl q | inr k ↦ elim k [ inl d ↦ inr (inl d) | inr l ↦ inr (inr (r.rest m l)) ] ];
    }

-- ---- among the child elements of an element

typed-alike : (of : Option TypeId) → same_governing of of ≡ true
typed-alike None = refl
typed-alike (Some a) = same-self a

module _ (c : Compiled) (ns : Nodes) (sound : IsSound ns) (p : ℕ) (element-is : is_element_at ns p ≡ true) (pair : Governing) (governs : ℕ → Governing) (siblings : Forest)
    (below : GovernsBelow c ns pair p governs siblings) where
  child-up : (i m : ℕ) → slice_get (element_children ns p) i ≡ Some m → parent_at ns m ≡ Some p
  child-up i m e = let own = by-node ns p (node ns p) refl element-is in child-parent ns sound p own.0 own.1 i m e

  -- the element is none of those that are governed
  pub not-parent : (m : ℕ) → HasElement m siblings → m ≢ p
  not-parent m h e =
      let o = under-one below.down.names ns sound siblings below.down.stand m h in
      let there = has-place (element_numbers siblings) o.one o.has in
      let up = child-up there.0 o.one (ap (λ xs. slice_get xs there.0) (sym below.are) ∙ there.1) in
      let level : depth_by (node ns m) ≡ depth_by (node ns p) = ap (λ x. depth_by (node ns x)) e in
      parent-outside ns sound p o.one m up (omega (arith, level)) o.within

  -- where nothing else is kept otherwise, as many move
  pub moved-but-parent : (ks new : KeptSlots) → ((m : ℕ) → m ≢ p → at new m ≡ at ks m) → moved new governs siblings ≡ moved ks governs siblings
  moved-but-parent ks new same = moved-alike ks new governs siblings (λ m h. same m (not-parent m h))

  module _ (place x : ℕ) (e : slice_get (element_children ns p) place ≡ Some x) where
    pub one : HasOne below.down.names ns place x siblings
    one = one-of below.down.names ns siblings place x below.down.stand (ap (λ xs. slice_get xs place) below.are ∙ e)

    abbrev pub alone : Forest
    alone = element x one.name one.bindings one.attributes one.below none

    pub alone-down : AreGivenDown c ns governs alone
    alone-down = given-part c ns governs siblings alone below.down one.here one.own

    pub alone-less : (ks : KeptSlots) → moved ks governs alone ≤ moved ks governs siblings
    alone-less ks = let n = one.counts ks governs in omega (arith, n)

    others-outside : (m : ℕ) → HasElement m one.others → ¬ IsWithin ns x m
    others-outside m h w =
        let o = under-one below.down.names ns sound one.others one.stand m h in
        let there = has-place (element_numbers one.others) o.one o.has in
        let left : slice_get (remove (element_children ns p) place) there.0 ≡ Some o.one =
        ap (λ xs. slice_get (remove xs place) there.0) (sym below.are) ∙ ap (λ xs. slice_get xs there.0) (sym one.are) ∙ there.1 in
        let among = among-more (element_children ns p) place there.0 o.one left in
        let other = others-differ (element_children ns p) place x e (children-differ ns sound p) there.0 o.one left in
        siblings-apart ns sound p x o.one m (child-up place x e) (child-up among.place o.one among.there) (λ q. other (sym q)) w o.within

    -- where nothing is kept otherwise but of it and of what is below it, the others move as they did
    others-alike : (ks new : KeptSlots) → ((m : ℕ) → ¬ IsWithin ns x m → at new m ≡ at ks m) → moved new governs one.others ≡ moved ks governs one.others
    others-alike ks new same = moved-alike ks new governs one.others (λ m h. same m (others-outside m h))

    -- and where it is governed so now, nothing of it moves any more
    module _ (k : KeptState) (fit : FitBut c ns k (p ∷ [])) (made : IsMade k.records.slots x) (so : pair_at k.records.slots x ≡ governs x) where
      alone-still : moved k.records.slots governs alone ≡ 0
      alone-still =
          nothing-moves typed-alike c ns k p fit governs below.down.names alone one.here (are_read below.down.names ns alone one.here) (λ m h. not-parent m (one.own m h))
          (λ n i child h f. alone-down.given n i child h f)
          (λ m h. elim h [ inl q ↦ subst (λ y. IsMade k.records.slots y × (pair_at k.records.slots y ≡ governs y)) q (made, so) | inr never ↦ absurd never ])

      pub moved-settled : (ks : KeptSlots) → ((m : ℕ) → ¬ IsWithin ns x m → at k.records.slots m ≡ at ks m) →
          moved k.records.slots governs siblings + moved ks governs alone ≡ moved ks governs siblings
      moved-settled ks same =
          let now = one.counts k.records.slots governs in
          let was = one.counts ks governs in
          let still = alone-still in
          let others = others-alike ks k.records.slots same in
          omega (arith, now, was, still, others)
