-- An element whose attributes are others is governed again and judged anew, with all below it, and those above it follow.
use Rattle.std.proofs.Common.{◌≡◌, ◌≢◌, ℕ, zero, suc, ◌<◌, List, [], ◌∷◌, map, true, Option, None, Some, refl, sym, ap, ◌∙◌, subst, inl, inr, arith}
use Rattle.std.specs.Prelude.{slice_get, unwrap_or}
use Rattle.std.specs.Option.{option_and_then}
use Rattle.std.proofs.lemmas.Bool.{cases_eq}
use Rattle.std.proofs.lemmas.Option.{none-some, same_Some}
use Rattle.assess_records.specs.Counts.{counts_of}
use Rattle.elem_governing.specs.declared.pairs.Governing.{Governing}
use Rattle.elem_governing.proofs.Regoverned.{child-again, root-again}
use Rattle.compiled_schema.specs.Usable.{set_of}
use Rattle.compiled_schema.specs.declared.compiled.Compiled.{Compiled}
use Rattle.model_terms.specs.Terms.{stuck_in, term_in}
use Rattle.doc_nodes.specs.Nodes.{Nodes, node, IsSound, Has, depth_by, is_element_at, element_children}
use Rattle.doc_nodes.proofs.Among.{lacks-has}
use Rattle.doc_changes.specs.Held.{parent_at}
use Rattle.doc_changes.proofs.Reading.{depth_below}
use Rattle.kept_slots.specs.Slots.{at}
use Rattle.kept_children.specs.from_kept_records.KeptElement.{KeptElement}
use Rattle.kept_children.specs.from_kept_records.Slots.{IsMade, blank, kept_at, pair_at, record_at}
use Rattle.kept_children.specs.from_kept_records.Fit.{models_of, head_at, AboveIn, IsListed, IsGathered, IsFit}
use Rattle.kept_children.proofs.from_kept_records.Made.{root-parent}
use Rattle.kept_children.proofs.from_kept_records.Nodes.{by-node, child-parent}
use Rattle.kept_children.specs.from_kept_state.Kept.{CanGovern, FitBut, IsBeside, children_of, children_at, outcome_at}
use Rattle.kept_children.specs.from_kept_state.Governed.{Governed}
use Rattle.kept_children.specs.from_kept_state.KeptState.{KeptState}
use Rattle.kept_children.specs.from_kept_judging.Judged.{symbols_by, root_pair, given_pair, again_pair, pair_by, AreChildren, IsJudgedBy}
use Rattle.kept_children.proofs.from_kept_judging.Anew.{not-own-parent, gathered-children, fit-judged, judged-fit}
use Rattle.kept_children.proofs.from_kept_judging.Reading.{root-can, given-can}
use Rattle.kept_children.specs.from_kept_above.Climbing.{IsNearly, IsClimbing, KeepsRest}
use Rattle.kept_children.proofs.from_kept_above.Climbing.{judged-kept, nearly}
use Rattle.kept_children.proofs.from_kept_forgetting.Placed.{children-differ, child-place, parent-element, root-alone, one-place}
use Rattle.kept_children.proofs.from_kept_above.Whole.{all-made}
use Rattle.kept_children.specs.from_kept_forgetting.Below.{upwards, IsWithin}
use Rattle.kept_children.specs.from_kept_below.Below.{AreAbove, IsSettled}
use Rattle.kept_children.specs.Edited.{IsRightFor}
use Rattle.kept_children.specs.from_child_lists.Family.{AreGivenBut, IsAttributed}
use Rattle.kept_children.specs.from_child_lists.Places.{IsPlaceOf}
use Rattle.kept_children.specs.from_child_lists.ChildPlace.{ChildPlace}
use Rattle.kept_children.proofs.Midway.{parent-stays, sibling-stays, attributed-settled, given-settled}
use Rattle.kept_changes.specs.Own.{IsReattributed}
use Rattle.kept_changes.proofs.Reread.{head-same, texts-same, symbols-same, given-same, children-reread, judged-reread, right-made}

-- the parent of an element, if it has one
abbrev pub above-of : Option ℕ → List ℕ
above-of None = []
above-of (Some p) = p ∷ []

module _ (c : Compiled) (ns : Nodes) (old : KeptState) (n : ℕ) (beside : IsBeside c ns old) (h : IsReattributed c ns old n) where
  sound : IsSound ns
  sound = beside.over.1.stands.links

  heads-stay : (m : ℕ) → is_element_at h.old m ≡ true → m ≢ n → head_at (set_of c) ns m ≡ head_at (set_of c) h.old m
  heads-stay m is other = head-same (set_of c) h.old ns m (h.reattributes.names m is) (h.reattributes.attributes m is other) (h.reattributes.elements.scopes m is)

  was-element : (m : ℕ) → IsMade old.records.slots m → is_element_at h.old m ≡ true
  was-element = h.right.beside.over.1.only

  pub own-made : IsMade old.records.slots n
  own-made = right-made c h.old old h.right n h.element

  own-element : is_element_at ns n ≡ true
  own-element = beside.over.1.only n own-made

  inner-same : (m : ℕ) → IsMade old.records.slots m → element_children ns m ≡ element_children h.old m
  inner-same m made = h.reattributes.elements.children m (was-element m made)

  -- a child element has its parent
  has-parent : (m : ℕ) → IsMade old.records.slots m → (place child : ℕ) → slice_get (element_children h.old m) place ≡ Some child → parent_at ns child ≡ Some m
  has-parent m made place child e =
      let own = by-node ns m (node ns m) refl (beside.over.1.only m made) in
      child-parent ns sound m own.0 own.1 place child (ap (λ xs. slice_get xs place) (inner-same m made) ∙ e)

  was-fit : (m : ℕ) → IsMade old.records.slots m → IsFit (set_of c) (models_of c) h.old old.records.slots old.lists old.root_ids m
  was-fit m made = h.right.fit m made tt

  -- what is kept of the child elements of another than its parent is right as before
  children-stay : (m : ℕ) → IsMade old.records.slots m → (parent_at ns n ≢ Some m) → AreChildren c ns old m (pair_at old.records.slots m) (children_at old.records.slots m)
  children-stay m made apart =
      let was = gathered-children c h.old old m (was-fit m made).gathered in
      children-reread c h.old ns old m (inner-same m made)
      (λ place child e. heads-stay child (was-element child (was.given place child e).made) (λ q. apart (subst (λ (x : ℕ). parent_at ns x ≡ Some m) q (has-parent m made place child e))))
      (pair_at old.records.slots m) (children_at old.records.slots m) was

  judged-stay : (m : ℕ) → IsMade old.records.slots m → m ≢ n → IsJudgedBy (set_of c) ns old m (children_at old.records.slots m)
  judged-stay m made other =
      let is = was-element m made in
      judged-reread c h.old ns old m (set_of c) (children_at old.records.slots m) (h.reattributes.elements.parents m is) (heads-stay m is other)
      (texts-same h.old ns m (h.reattributes.attributes m is other)) (h.reattributes.texts m is) (fit-judged c h.old old m (was-fit m made))

  -- all others fit as before, but for its parent
  pub others-fit : (waiting : List ℕ) → AboveIn ns n waiting → FitBut c ns old (n ∷ waiting)
  others-fit waiting above m made lacks =
      judged-fit c ns old m (children-stay m made (λ up. lacks-has m m waiting lacks.1 (above m up) refl)) (judged-stay m made (λ e. lacks.0 (sym e)))

  own-parent : parent_at ns n ≢ Some n
  own-parent up = let own = by-node ns n (node ns n) refl own-element in not-own-parent ns sound n own.0 own.1 up

  -- what it is judged by is right as before
  pub own-gathered : IsGathered (set_of c) (models_of c) ns old.records.slots old.lists n
  own-gathered =
      let g = (was-fit n own-made).gathered in
      let below = children-stay n own-made own-parent in
      record {
        number_is = g.number_is;
        bearer_is = g.bearer_is ∙ ap (λ o. unwrap_or o n) (sym (h.reattributes.elements.parents n h.element));
        text_is = g.text_is ∙ sym (h.reattributes.texts n h.element);
        given = λ place child e. record { made = (below.given place child e).made; pair_is = (below.given place child e).pair_is };
        list_is = below.list_is;
        stuck_is = below.stuck_is;
        counts_are = below.counts_are;
      }

  pub above-waits : AboveIn ns n (above-of (parent_at ns n))
  above-waits p up = by (parent_at ns n) up
    where
      by : (o : Option ℕ) → o ≡ Some p → Has p (above-of o)
      by None e = absurd (none-some p e)
      by (Some q) e = inl (same_Some q p e)

  pub above-higher : AreAbove ns n (above-of (parent_at ns n))
  above-higher m has = by (parent_at ns n) refl has
    where
      by : (o : Option ℕ) → parent_at ns n ≡ o → Has m (above-of o) → depth_by (node ns m) < depth_by (node ns n)
      by None e has = absurd has
      by (Some q) e has = elim has [
        | inl same ↦ let deep = depth_below ns q n sound e in let level = ap (λ x. depth_by (node ns x)) same in omega (arith, deep, level)
        | inr none ↦ absurd none
      ]

  -- ---- it is governed again, and all below it follows

  abbrev again : Governed
  again = record { node = n; pair = again_pair (set_of c) (pair_at old.records.slots n) (head_at (set_of c) ns n) }

  -- what is governed again
  pub same-again : (element : Governed) (was : Governing) → was ≡ pair_at old.records.slots n → element.node ≡ n → element.pair ≡ again_pair (set_of c) was (head_at (set_of c) ns n) → element ≡ again
  same-again element was pair number is = λ i. record { node = number i; pair = (is ∙ ap (λ (g : Governing). again_pair (set_of c) g (head_at (set_of c) ns n)) pair) i }

  root-parent-now : parent_at ns 1 ≡ None
  root-parent-now =
      let over = h.right.beside.over in
      h.reattributes.elements.parents 1 (was-element 1 h.right.top.made)
      ∙ root-parent c h.old old.records.slots old.lists old.root_ids over.0 (record { over = over.1; top = h.right.top; fit = h.right.fit })

  root-outside : 1 ≢ n → ¬ IsWithin ns n 1
  root-outside other (zero, e) = other (same_Some 1 n e)
  root-outside other (suc levels, e) = none-some n (ap (option_and_then (upwards ns levels)) (sym root-parent-now) ∙ e)

  module _ (p : ℕ) (up : parent_at ns n ≡ Some p) where
    above-made : IsMade old.records.slots p
    above-made = right-made c h.old old h.right p (sym (h.reattributes.elements.elements p) ∙ parent-element c.names ns beside.over.0 beside.over.1.stands n p up)

    off : p ≢ n
    off e = own-parent (up ∙ ap Some e)

    abbrev inner : List ℕ
    inner = element_children ns p

    place : (i : ℕ) × (slice_get inner i ≡ Some n)
    place = child-place ns sound n p up own-element

    abbrev spot : ChildPlace
    spot = record { parent = p; place = place.0; node = n }

    placed : IsPlaceOf ns spot
    placed = record { parent_is = up; node_is = place.1 }

    was-children : AreChildren c h.old old p (pair_at old.records.slots p) (children_at old.records.slots p)
    was-children = gathered-children c h.old old p (was-fit p above-made).gathered

    at-before : (i m : ℕ) → slice_get inner i ≡ Some m → slice_get (element_children h.old p) i ≡ Some m
    at-before i m e = ap (λ xs. slice_get xs i) (sym (inner-same p above-made)) ∙ e

    symbols-stay : symbols_by c ns (pair_at old.records.slots p).of p ≡ symbols_by c h.old (pair_at old.records.slots p).of p
    symbols-stay =
        symbols-same c h.old ns old p (inner-same p above-made)
        (λ i m e. h.reattributes.names m (was-element m (was-children.given i m e).made)) (pair_at old.records.slots p).of

    attributed : IsAttributed c ns old p
    attributed = record {
      listed = subst (IsListed old.lists (models_of c (pair_at old.records.slots p).of) (kept_at old.records.slots p).list) (sym symbols-stay) was-children.list_is;
      stuck_is = was-children.stuck_is ∙ ap (stuck_in (models_of c (pair_at old.records.slots p).of)) (sym symbols-stay);
    }

    given-others : AreGivenBut c ns old p (place.0 ∷ [])
    given-others i m e lacks =
        let g = was-children.given i m (at-before i m e) in
        let other : m ≢ n = λ q. lacks.0 (one-place inner place.0 i n (children-differ ns sound p) place.1 (e ∙ ap Some q)) in
        record { made = g.made; pair_is = g.pair_is ∙ sym (given-same c h.old ns old p (pair_at old.records.slots p) i m symbols-stay (heads-stay m (was-element m g.made) other)) }

    -- what governs it is what its parent gives it
    given-own : again.pair ≡ pair_by c ns (pair_at old.records.slots p) p place.0 n
    given-own =
        let g = was-children.given place.0 n (at-before place.0 n place.1) in
        let was = head_at (set_of c) h.old n in
        let now = head_at (set_of c) ns n in
        let term = term_in (models_of c (pair_at old.records.slots p).of) (symbols_by c h.old (pair_at old.records.slots p).of p) place.0 in
        ap (λ (g : Governing). again_pair (set_of c) g now) g.pair_is
        ∙ child-again c.names c.parts was.xsi now.xsi was.scope now.scope (pair_at old.records.slots p).mode term was.name
        ∙ (λ i. given_pair (set_of c) (pair_at old.records.slots p) (term_in (models_of c (pair_at old.records.slots p).of) (sym symbols-stay i) place.0)
        (record { name = sym (h.reattributes.names n h.element) i; xsi = now.xsi; scope = now.scope }))

  -- where it has no parent, it is governed as the root
  root-own : n ≡ 1 → again.pair ≡ root_pair (set_of c) (head_at (set_of c) ns 1)
  root-own e =
      let was = head_at (set_of c) h.old 1 in
      let now = head_at (set_of c) ns 1 in
      (λ i. again_pair (set_of c) (pair_at old.records.slots (e i)) (head_at (set_of c) ns (e i)))
      ∙ ap (λ (g : Governing). again_pair (set_of c) g now) h.right.top.pair_is
      ∙ root-again c.names c.parts was.xsi now.xsi was.scope now.scope was.name
      ∙ (λ i. root_pair (set_of c) (record { name = sym (h.reattributes.names 1 (was-element 1 h.right.top.made)) i; xsi = now.xsi; scope = now.scope }))

  -- so it may be governed
  pub again-can : CanGovern c.parts again.pair
  again-can = by (parent_at ns n) refl
    where
      by : (o : Option ℕ) → parent_at ns n ≡ o → CanGovern c.parts again.pair
      by None e =
          let one = root-alone c.names ns beside.over.0 beside.over.1.stands n own-element e in
          subst (CanGovern c.parts) (sym (root-own one)) (root-can c beside.over.1.usable (head_at (set_of c) ns 1))
      by (Some p) up =
          let pair = pair_at old.records.slots p in
          subst (CanGovern c.parts) (sym (given-own p up))
          (given-can c beside.over.1.usable (head_at (set_of c) ns n) pair (term_in (models_of c pair.of) (symbols_by c ns pair.of p) (place p up).0))

  module _ (new : KeptState) (settled : IsSettled ns old new again) (after : IsBeside c ns new) (fits : FitBut c ns new (above-of (parent_at ns n))) where
    module _ (p : ℕ) (up : parent_at ns n ≡ Some p) where
      given-now : AreGivenBut c ns new p []
      given-now = given-settled c ns old new (spot p up) (placed p up) again refl settled beside after (above-made p up) (given-own p up) [] (given-others p up)

      attributed-now : IsAttributed c ns new p
      attributed-now = attributed-settled c ns old new (spot p up) (placed p up) again refl settled beside after (above-made p up) (attributed p up)

      stays : at new.records.slots p ≡ at old.records.slots p
      stays = parent-stays c ns old new (spot p up) (placed p up) again refl settled beside after (above-made p up)

      same : kept_at new.records.slots p ≡ kept_at old.records.slots p
      same = ap (λ o. unwrap_or o blank) stays

      pub near : IsNearly c ns new p n (outcome_at old.records.slots n)
      near =
          nearly c ns old new sound n p own-element up
          (λ i m e other. ap (λ o. (unwrap_or o blank).found.element) (sibling-stays c ns old new (spot p up) (placed p up) again refl settled beside after (above-made p up) i m e other))
          (record { given = λ i m e. given-now i m e tt; list_is = attributed-now.listed; stuck_is = attributed-now.stuck_is; counts_are = refl })
          (ap (λ (x : KeptElement). x.counts) same ∙ (was-children p up).counts_are ∙ ap (λ xs. counts_of (map (record_at old.records.slots) xs)) (sym (inner-same p (above-made p up))))
          (subst (λ (x : KeptElement). IsJudgedBy (set_of c) ns new p (children_of x)) (sym same)
          (judged-kept (set_of c) ns old new p (children_at old.records.slots p) (ap (λ (x : KeptElement). x.found) same) (ap (λ (x : KeptElement). x.text) same)
          (ap (λ (x : KeptElement). x.identity) same) settled.rest.ids (judged-stay p (above-made p up) (off p up))))

    root-made : IsMade new.records.slots 1
    root-made = elim (cases_eq 1 n) [
      | inl e ↦ subst (IsMade new.records.slots) (sym e) settled.made
      | inr other ↦ (h.right.top.made.0, settled.rest.slots 1 (root-outside other) ∙ h.right.top.made.1)
    ]

    children-made : (m : ℕ) → IsMade new.records.slots m → (i x : ℕ) → slice_get (element_children ns m) i ≡ Some x → IsMade new.records.slots x
    children-made m made i x e = by (parent_at ns n) refl
      where
        by : (o : Option ℕ) → parent_at ns n ≡ o → IsMade new.records.slots x
        by None up = ((subst (λ o. FitBut c ns new (above-of o)) up fits m made tt).gathered.given i x e).made
        by (Some p) up = elim (cases_eq m p) [
          | inl q ↦ (given-now p up i x (subst (λ j. slice_get (element_children ns j) i ≡ Some x) q e) tt).made
          | inr other ↦ ((subst (λ o. FitBut c ns new (above-of o)) up fits m made ((λ q. other (sym q)), tt)).gathered.given i x e).made
        ]

    pub reattribute-climbs : IsClimbing c ns new n (outcome_at old.records.slots n)
    reattribute-climbs = record {
      element = own-element;
      all = all-made c ns new after root-made children-made;
      root = λ e. subst (λ o. FitBut c ns new (above-of o)) e fits;
      parent = λ p up. (subst (λ o. FitBut c ns new (above-of o)) up fits, near p up);
    }

    root-pair-now : pair_at new.records.slots 1 ≡ root_pair (set_of c) (head_at (set_of c) ns 1)
    root-pair-now = elim (cases_eq 1 n) [
      | inl e ↦ ap (pair_at new.records.slots) e ∙ settled.pair_is ∙ root-own (sym e)
      | inr other ↦
          ap (λ o. (unwrap_or o blank).found.governing) (settled.rest.slots 1 (root-outside other)) ∙ h.right.top.pair_is
          ∙ ap (root_pair (set_of c)) (sym (heads-stay 1 (was-element 1 h.right.top.made) other))
    ]

    -- then all is right
    pub reattribute-right : (last : KeptState) → FitBut c ns last [] → IsBeside c ns last → KeepsRest new last → IsRightFor c ns last
    reattribute-right last fit right rest = record {
      beside = right;
      top = record { made = (rest.made 1).0 root-made; pair_is = rest.pairs 1 ∙ root-pair-now };
      fit = fit;
    }
