-- Nothing is kept any more of an element and of what is below it, element by element.
use Rattle.std.proofs.Common.{◌≡◌, ◌≢◌, ℕ, zero, suc, ◌+◌, ◌-◌, ◌<◌, ◌≤◌, List, [], ◌∷◌, length, cond, Bool, true, false, Option, None, Some, refl, sym, ap, ◌∙◌, subst, inl, inr, arith}
use Rattle.std.specs.Prelude.{filter, slice_get, unwrap_or}
use Rattle.std.specs.Option.{option_and_then}
use Rattle.std.proofs.lemmas.Bool.{cases_eq, cases_lt}
use Rattle.std.proofs.lemmas.Option.{none-some, same_Some, slice_get_within}
use Rattle.xs_names.specs.Names.{NameTable}
use Rattle.tree_rows.specs.Forest.{Document}
use Rattle.compiled_schema.specs.declared.compiled.Compiled.{Compiled}
use Rattle.model_lists.specs.Lists.{KeepLists}
use Rattle.model_lists.specs.declared.handle.ModelList.{ModelList}
use Rattle.doc_nodes.specs.Nodes.{Nodes, node, IsSound, depth_by, children_by, is_element_at, element_children}
use Rattle.doc_changes.specs.Held.{parent_at}
use Rattle.doc_changes.specs.Stands.{StandsFor}
use Rattle.doc_changes.proofs.Reading.{depth_below}
use Rattle.kept_slots.specs.Slots.{at, Writes}
use Rattle.kept_state.specs.from_kept_records.KeptElement.{KeptElement}
use Rattle.kept_state.specs.from_kept_records.Slots.{IsMade, blank, kept_at}
use Rattle.kept_state.specs.from_kept_records.Books.{IsBooked}
use Rattle.kept_state.proofs.from_kept_records.Nodes.{by-node, child-parent}
use Rattle.kept_state.specs.Kept.{CanGovern, IsBeside}
use Rattle.kept_state.specs.declared.state.KeptState.{KeptState}
use Rattle.kept_forgetting.proofs.Placed.{one-place, children-differ, child-place, parent-element}
use Rattle.kept_forgetting.specs.Below.{upwards, IsWithin, KeepsBut}
use Rattle.kept_forgetting.proofs.Walks.{self-within, below-within, child-below, siblings-apart}
use Rattle.kept_forgetting.proofs.Depths.{element-depth}
use Rattle.kept_forgetting.proofs.Keeping.{keeps-then, keeps-wider}
use Rattle.kept_forgetting.specs.Forgotten.{Forgets}

-- ---- one element

module _ (ns : Nodes) (n : ℕ) (old new : KeptState) (writes : Writes old.records.slots new.records.slots n None)
    (lists : KeepLists old.lists new.lists (λ h. (kept_at old.records.slots n).list ≡ Some h)) (ids : new.root_ids ≡ old.root_ids) where
  kept-here : kept_at new.records.slots n ≡ blank
  kept-here = ap (λ o. unwrap_or o blank) writes.here

  kept-other : (m : ℕ) → m ≢ n → kept_at new.records.slots m ≡ kept_at old.records.slots m
  kept-other m other = ap (λ o. unwrap_or o blank) (writes.others m other)

  no-list : (m : ℕ) → m ≡ n → (h : ModelList) → (kept_at new.records.slots m).list ≡ Some h → ⊥
  no-list m q h e = none-some h (sym (ap (λ x. (kept_at new.records.slots x).list) q ∙ ap (λ (k : KeptElement). k.list) kept-here) ∙ e)

  pub one-keeps : KeepsBut (IsWithin ns n) old new
  one-keeps = record {
    slots = λ m out. writes.others m (λ q. out (subst (IsWithin ns n) (sym q) (self-within ns n)));
    lists = λ h a symbols none is. (
      lists h a symbols (none n (self-within ns n)) is,
      λ m within e. elim (cases_eq m n) [
        | inl q ↦ no-list m q h e
        | inr other ↦ none m within (sym (ap (λ (k : KeptElement). k.list) (kept-other m other)) ∙ e)
      ],
    );
    ids = ids;
  }

  not-here : (m : ℕ) → IsMade new.records.slots m → m ≢ n
  not-here m made q = none-some made.0 (sym (ap (at new.records.slots) q ∙ writes.here) ∙ made.1)

  was-made : (m : ℕ) → (made : IsMade new.records.slots m) → IsMade old.records.slots m
  was-made m made = (made.0, sym (writes.others m (not-here m made)) ∙ made.1)

  list-other : (m : ℕ) (h : ModelList) → (kept_at new.records.slots m).list ≡ Some h → m ≢ n
  list-other m h e q = no-list m q h e

  list-was : (m : ℕ) (h : ModelList) → (kept_at new.records.slots m).list ≡ Some h → (kept_at old.records.slots m).list ≡ Some h
  list-was m h e = sym (ap (λ (k : KeptElement). k.list) (kept-other m (list-other m h e))) ∙ e

  pub one-beside : (c : Compiled) → IsBooked new.records → IsBeside c ns old → IsBeside c ns new
  one-beside c booked b = record {
    over = (b.over.0, record { usable = b.over.1.usable; stands = b.over.1.stands; only = λ m made. b.over.1.only m (was-made m made) });
    governed = λ m made. subst (λ (k : KeptElement). CanGovern c.parts k.found.governing) (sym (kept-other m (not-here m made))) (b.governed m (was-made m made));
    plain = λ none m. elim (cases_eq m n) [
      | inl q ↦ ap (λ x. (kept_at new.records.slots x).identity) q ∙ ap (λ (k : KeptElement). k.identity) kept-here
      | inr other ↦ ap (λ (k : KeptElement). k.identity) (kept-other m other) ∙ b.plain none m
    ];
    booked = booked;
    own = record {
      apart = λ m q h e f. b.own.apart m q h (list-was m h e) (list-was q h f);
      live = λ m h e.
          let was = b.own.live m h (list-was m h e) in
          (was.0, was.1, lists h was.0 was.1 (λ f. list-other m h e (b.own.apart m n h (list-was m h e) f)) was.2);
    };
  }

-- ---- ways upwards end with a child

pub record EndsAt (ns : Nodes) (levels m n : ℕ) : Type 0 where
  pub last : ℕ
  pub there : upwards ns levels m ≡ Some last
  pub up : parent_at ns last ≡ Some n

ends-by : (ns : Nodes) (levels m n : ℕ) → ((q : ℕ) → parent_at ns m ≡ Some q → upwards ns levels q ≡ Some n → EndsAt ns levels m n) →
    (o : Option ℕ) → parent_at ns m ≡ o → option_and_then (upwards ns levels) o ≡ Some n → EndsAt ns levels m n
ends-by ns levels m n on None e f = absurd (none-some n f)
ends-by ns levels m n on (Some q) e f = on q e f

ends-more : (ns : Nodes) (levels m n q : ℕ) → parent_at ns m ≡ Some q → EndsAt ns levels q n → EndsAt ns (suc levels) m n
ends-more ns levels m n q e h = record { last = h.last; there = ap (option_and_then (upwards ns levels)) e ∙ h.there; up = h.up }

pub ends-at : (ns : Nodes) (levels m n : ℕ) → upwards ns (suc levels) m ≡ Some n → EndsAt ns levels m n
ends-at ns zero m n e = ends-by ns zero m n (λ q f g. record { last = m; there = refl; up = f ∙ g }) (parent_at ns m) refl e
ends-at ns (suc levels) m n e = ends-by ns (suc levels) m n (λ q f g. ends-more ns levels m n q f (ends-at ns levels q n g)) (parent_at ns m) refl e

-- ---- the child elements of one, in order

-- nothing is kept any more of those before a place, and of what is below them
abbrev pub AreGoneUpTo : Nodes → ℕ → KeptState → ℕ → Type 0
AreGoneUpTo ns n k place = (i child m : ℕ) → i < place → slice_get (element_children ns n) i ≡ Some child → IsWithin ns child m → at k.records.slots m ≡ None

-- a child element is an element
pub child-element : (ns : Nodes) (n i child : ℕ) → slice_get (element_children ns n) i ≡ Some child → is_element_at ns child ≡ true
child-element ns n i child e = passing (children_by (node ns n)) i e
  where
    passing : (xs : List ℕ) (i : ℕ) → slice_get (filter (is_element_at ns) xs) i ≡ Some child → is_element_at ns child ≡ true
    passing [] i e = absurd (none-some child e)
    passing (x ∷ xs) i e = by (is_element_at ns x) refl (λ j. passing xs j) i e
      where
        by : (b : Bool) → is_element_at ns x ≡ b → ((j : ℕ) → slice_get (filter (is_element_at ns) xs) j ≡ Some child → is_element_at ns child ≡ true) →
            (i : ℕ) → slice_get (cond b (x ∷ filter (is_element_at ns) xs) (filter (is_element_at ns) xs)) i ≡ Some child → is_element_at ns child ≡ true
        by true is later zero f = ap (is_element_at ns) (sym (same_Some x child f)) ∙ is
        by true is later (suc j) f = later j f
        by false is later i f = later i f

-- one after another, fewer are left
pub fewer : (xs : List ℕ) (place child : ℕ) → slice_get xs place ≡ Some child → length xs - (place + 1) < length xs - place
fewer xs place child e = let within = slice_get_within xs place child e in omega (arith, within)

module _ (ns : Nodes) (sound : IsSound ns) (n : ℕ) (element : is_element_at ns n ≡ true) where
  pub child-up : (i child : ℕ) → slice_get (element_children ns n) i ≡ Some child → parent_at ns child ≡ Some n
  child-up i child e = let own = by-node ns n (node ns n) refl element in child-parent ns sound n own.0 own.1 i child e

  -- it is at a greater depth
  pub child-lower : (t : NameTable) (d : Document) → StandsFor t ns d → (i child : ℕ) → slice_get (element_children ns n) i ≡ Some child →
      130 - depth_by (node ns child) < 130 - depth_by (node ns n)
  child-lower t d z i child e =
      let one : depth_by (node ns child) ≡ depth_by (node ns n) + 1 = depth_below ns n child sound (child-up i child e) in
      let most : depth_by (node ns n) ≤ 128 = element-depth t ns d z n element in
      omega (arith, one, most)

  module _ (k new : KeptState) (place child : ℕ) (e : slice_get (element_children ns n) place ≡ Some child) (forgets : Forgets ns k new child) where
    pub gone-more : AreGoneUpTo ns n k place → AreGoneUpTo ns n new (place + 1)
    gone-more gone i x m l f within = elim (cases_eq i place) [
      | inl q ↦
          let same : x ≡ child = same_Some x child (sym f ∙ ap (slice_get (element_children ns n)) q ∙ e) in
          forgets.gone m (subst (λ y. IsWithin ns y m) same within)
      | inr other ↦
          let apart : x ≢ child = λ q. other (one-place (element_children ns n) i place child (children-differ ns sound n) (f ∙ ap Some q) e) in
          forgets.rest.slots m (siblings-apart ns sound n x child m (child-up i x f) (child-up place child e) apart within) ∙ gone i x m (omega (arith, l, other)) f within
    ]

    pub rest-more : (first : KeptState) → KeepsBut (IsWithin ns n) first k → KeepsBut (IsWithin ns n) first new
    rest-more first rest =
        keeps-then (IsWithin ns n) first k new rest
        (keeps-wider (IsWithin ns child) (IsWithin ns n) (λ m within. below-within ns n m (child-below ns child n m (child-up place child e) within)) k new forgets.rest)

  -- all of them, and then it itself
  module _ (c : Compiled) (first k new : KeptState) (rest : KeepsBut (IsWithin ns n) first k) (place : ℕ) (gone : AreGoneUpTo ns n k place) (ended : slice_get (element_children ns n) place ≡ None)
      (writes : Writes k.records.slots new.records.slots n None) (lists : KeepLists k.lists new.lists (λ h. (kept_at k.records.slots n).list ≡ Some h)) (ids : new.root_ids ≡ k.root_ids)
      (after : IsBeside c ns new) where
    not-text : (levels m x : ℕ) → upwards ns levels m ≡ Some x → is_element_at ns m ≡ true → is_element_at ns x ≡ true
    not-text zero m x e is = subst (λ y. is_element_at ns y ≡ true) (same_Some m x e) is
    not-text (suc levels) m x e is = let h = ends-at ns levels m x e in parent-element c.names ns after.over.0 after.over.1.stands h.last x h.up

    gone-below : (levels m : ℕ) → upwards ns (suc levels) m ≡ Some n → is_element_at ns m ≡ true → at k.records.slots m ≡ None
    gone-below levels m e is =
        let h = ends-at ns levels m n e in
        let there = child-place ns sound h.last n h.up (not-text levels m h.last h.there is) in
        gone there.0 h.last m (within there.0 h.last there.1) there.1 (levels, h.there)
      where
        within : (i x : ℕ) → slice_get (element_children ns n) i ≡ Some x → i < place
        within i x f = elim (cases_lt i place) [
          | inl l ↦ l
          | inr past ↦ absurd (past-end (element_children ns n) place i ended past x f)
        ]
          where
            past-end : (xs : List ℕ) (j i : ℕ) → slice_get xs j ≡ None → j ≤ i → (x : ℕ) → slice_get xs i ≡ Some x → ⊥
            past-end [] j i none le x f = none-some x f
            past-end (y ∷ ys) zero i none le x f = none-some y (sym none)
            past-end (y ∷ ys) (suc j) zero none le x f = absurd (omega (arith, le))
            past-end (y ∷ ys) (suc j) (suc i) none le x f = past-end ys j i none (omega (arith, le)) x f

    none-kept : (m : ℕ) → IsWithin ns n m → (o : Option KeptElement) → at new.records.slots m ≡ o → o ≡ None
    none-kept m within None e = refl
    none-kept m (zero, w) (Some x) e = sym e ∙ ap (at new.records.slots) (same_Some m n w) ∙ writes.here
    none-kept m (suc levels, w) (Some x) e =
        let other : m ≢ n = λ q. none-some x (sym (ap (at new.records.slots) q ∙ writes.here) ∙ e) in
        sym e ∙ writes.others m other ∙ gone-below levels m w (after.over.1.only m (x, e))

    pub forgotten : Forgets ns first new n
    forgotten = record {
      gone = λ m within. none-kept m within (at new.records.slots m) refl;
      rest = keeps-then (IsWithin ns n) first k new rest (one-keeps ns n k new writes lists ids);
    }
