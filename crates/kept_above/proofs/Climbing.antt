-- The parent of an element counts it as what it comes to now, level by level.
use Rattle.std.proofs.Common.{◌≡◌, ◌≢◌, ℕ, ◌<◌, ◌^◌, List, [], ◌∷◌, length, map, true, Option, None, Some, refl, sym, ap, ◌∙◌, subst, inl, inr, arith}
use Rattle.std.specs.Prelude.{slice_get, unwrap_or, remove}
use Rattle.std.proofs.lemmas.Bool.{cases_eq}
use Rattle.std.proofs.lemmas.List.{length-map}
use Rattle.std.proofs.lemmas.Option.{none-some, same_Some}
use Rattle.xs_codes.specs.declared.fault.Found.{Found}
use Rattle.assess_records.specs.Counts.{counts_of, child_count, attempt_count}
use Rattle.assess_records.specs.Numbered.{shape_of}
use Rattle.assess_records.specs.declared.counts.ChildCounts.{ChildCounts}
use Rattle.assess_records.specs.declared.shape.ElementShape.{ElementShape}
use Rattle.elem_governing.specs.declared.pairs.Governing.{Governing}
use Rattle.assessment.specs.Attribution.{SchemaSet}
use Rattle.assessment.specs.Assessment.{AreJudged}
use Rattle.compiled_schema.specs.Usable.{set_of}
use Rattle.compiled_schema.specs.declared.compiled.Compiled.{Compiled}
use Rattle.tree_assess.specs.Entries.{entry_of}
use Rattle.tree_assess.specs.declared.entry.ElementEntry.{ElementEntry}
use Rattle.model_lists.specs.Lists.{ListsView}
use Rattle.doc_nodes.specs.Nodes.{Nodes, node, IsSound, is_element_at, element_children}
use Rattle.doc_changes.specs.Held.{parent_at}
use Rattle.doc_changes.specs.Readers.{own_chars}
use Rattle.doc_readers.specs.Heads.{texts_named}
use Rattle.kept_slots.specs.Slots.{at}
use Rattle.kept_judging.specs.from_kept_records.KeptElement.{KeptElement}
use Rattle.kept_judging.specs.from_kept_records.Slots.{IsKept, IsMade, blank, kept_at, entry_at, pair_at, record_at}
use Rattle.kept_judging.specs.from_kept_records.Fit.{models_of, root_codes, head_at, IsListed, IsFit}
use Rattle.kept_judging.proofs.from_kept_records.Counting.{counts-at}
use Rattle.kept_judging.proofs.from_kept_records.Frames.{map-same}
use Rattle.kept_judging.proofs.from_kept_records.Nodes.{by-node}
use Rattle.kept_judging.specs.from_kept_state.Kept.{FitBut, IsBeside, Rewrites, children_of, children_at, outcome_at}
use Rattle.kept_judging.specs.from_kept_state.KeptChildren.{KeptChildren}
use Rattle.kept_judging.specs.from_kept_state.Outcome.{Outcome}
use Rattle.kept_judging.specs.from_kept_state.KeptState.{KeptState}
use Rattle.kept_judging.proofs.from_kept_state.Beside.{kept-there, rewrites-again}
use Rattle.kept_judging.specs.Judged.{symbols_by, shape_with, AreChildren, IsJudgedBy, IsJudgedAnew}
use Rattle.kept_judging.proofs.Anew.{not-own-parent, fit-judged, judged-fit, anew-fits, children-stay, rewritten-fit}
use Rattle.kept_above.specs.Climbing.{with_outcome, IsNearly, IsClimbing, KeepsRest}
use Rattle.kept_above.proofs.Counts.{child-more, attempt-more, all-counted, all-tried}
use Rattle.kept_forgetting.proofs.Placed.{others-differ, place-among, children-differ, few-children, child-place, parent-element}

-- ---- how many are counted

module _ (c : Compiled) (ns : Nodes) (k : KeptState) (sound : IsSound ns) (n child : ℕ) (was : Outcome) (near : IsNearly c ns k n child was) where
  size : length (map (record_at k.records.slots) (element_children ns n)) < 2 ^ 32
  size = let same = length-map (element_children ns n) (record_at k.records.slots) in let few = few-children ns sound n in omega (arith, same, few)

  pub nearly-few : child_count (kept_at k.records.slots n).counts < 2 ^ 32
  nearly-few =
      let now = outcome_at k.records.slots child in
      let before = ap child_count near.counted ∙ child-more was near.others in
      let after = sym (child-more now near.others) ∙ ap child_count near.children.counts_are ∙ all-counted (map (record_at k.records.slots) (element_children ns n)) in
      let few = size in
      omega (arith, before, after, few)

  pub nearly-fewer : attempt_count (kept_at k.records.slots n).counts < 2 ^ 32
  nearly-fewer =
      let now = outcome_at k.records.slots child in
      let before = ap attempt_count near.counted ∙ attempt-more was near.others in
      let after = sym (attempt-more now near.others) ∙ ap attempt_count near.children.counts_are ∙ all-tried (map (record_at k.records.slots) (element_children ns n)) in
      let few = size in
      omega (arith, before, after, few)

-- ---- what is kept of an element by itself

-- what an element has to show, by its codes of identity constraints and those of IDs
abbrev shape-by : SchemaSet → Nodes → ℕ → KeptChildren → List Found → List Found → ElementShape
shape-by s ns n children identity ids = shape_of (head_at s ns n) (texts_named ns n) (own_chars ns n) children.stuck children.counts identity (root_codes ids n)

pub judged-kept : (s : SchemaSet) (ns : Nodes) (old new : KeptState) (n : ℕ) (children : KeptChildren) → (kept_at new.records.slots n).found ≡ (kept_at old.records.slots n).found →
    (kept_at new.records.slots n).text ≡ (kept_at old.records.slots n).text → (kept_at new.records.slots n).identity ≡ (kept_at old.records.slots n).identity → new.root_ids ≡ old.root_ids →
    IsJudgedBy s ns old n children → IsJudgedBy s ns new n children
judged-kept s ns old new n children found text identity ids j = record {
  number_is = ap (λ (e : ElementEntry). e.number) found ∙ j.number_is;
  bearer_is = ap (λ (e : ElementEntry). e.bearer) found ∙ j.bearer_is;
  text_is = text ∙ j.text_is;
  known = subst (λ (e : ElementEntry). AreJudged s (shape_with s ns new n children) (entry_of e)) (sym found)
      (subst (λ (codes : List Found). AreJudged s (shape-by s ns n children codes new.root_ids) (entry_at old.records.slots n)) (sym identity)
      (subst (λ (codes : List Found). AreJudged s (shape-by s ns n children (kept_at old.records.slots n).identity codes) (entry_at old.records.slots n)) (sym ids) j.known));
}

-- ---- the climb ends

module _ (c : Compiled) (ns : Nodes) (k : KeptState) (child : ℕ) (was : Outcome) (h : IsClimbing c ns k child was) where
  -- at an element that comes to what it came to before
  pub settled : outcome_at k.records.slots child ≡ was → FitBut c ns k []
  settled same = by (parent_at ns child) refl
    where
      own : (p : ℕ) → IsNearly c ns k p child was → IsFit (set_of c) (models_of c) ns k.records.slots k.lists k.root_ids p
      own p near =
          let counts = ap (λ o. with_outcome o near.others) same ∙ sym near.counted in
          judged-fit c ns k p
          (subst (λ (counts : ChildCounts). AreChildren c ns k p (pair_at k.records.slots p) (record (children_at k.records.slots p) { counts = counts })) counts near.children) near.judged

      by : (o : Option ℕ) → parent_at ns child ≡ o → FitBut c ns k []
      by None e m made lacks = h.root e m made lacks
      by (Some p) e m made lacks = elim (cases_eq m p) [
        | inl q ↦ subst (IsFit (set_of c) (models_of c) ns k.records.slots k.lists k.root_ids) (sym q) (own p (h.parent p e).1)
        | inr other ↦ (h.parent p e).0 m made ((λ q. other (sym q)), tt)
      ]

-- ---- nothing else is another

pub keeps-same : (k : KeptState) → KeepsRest k k
keeps-same k = record { made = λ n. ((λ m. m), (λ m. m)); pairs = λ n. refl; rest = λ n. refl; lists = refl; ids = refl }

pub keeps-again : (old mid new : KeptState) → KeepsRest old mid → KeepsRest mid new → KeepsRest old new
keeps-again old mid new first second = record {
  made = λ n. ((λ m. (second.made n).0 ((first.made n).0 m)), (λ m. (first.made n).1 ((second.made n).1 m)));
  pairs = λ n. second.pairs n ∙ first.pairs n;
  rest = λ n. second.rest n ∙ ap (λ (x : KeptElement). record x { counts = (kept_at new.records.slots n).counts; found = (kept_at new.records.slots n).found }) (first.rest n);
  lists = second.lists ∙ first.lists;
  ids = second.ids ∙ first.ids;
}

-- ---- the parent of an element counts it as what it came to before

module _ (c : Compiled) (ns : Nodes) (old new : KeptState) (sound : IsSound ns) (n q : ℕ) (element : is_element_at ns n ≡ true) (above : parent_at ns n ≡ Some q)
    (others : (place m : ℕ) → slice_get (element_children ns q) place ≡ Some m → m ≢ n → record_at new.records.slots m ≡ record_at old.records.slots m) where
  abbrev inner : List ℕ
  inner = element_children ns q

  place : (i : ℕ) × (slice_get inner i ≡ Some n)
  place = child-place ns sound n q above element

  rest : ChildCounts
  rest = counts_of (map (record_at old.records.slots) (remove inner place.0))

  rest-now : rest ≡ counts_of (map (record_at new.records.slots) (remove inner place.0))
  unfolding rest
  rest-now =
      ap counts_of (map-same (record_at old.records.slots) (record_at new.records.slots) (remove inner place.0)
      (λ j m e. let among = place-among inner place.0 j m e in sym (others among.0 m among.1 (others-differ inner place.0 n place.1 (children-differ ns sound q) j m e))))

  -- where all that is kept of its child elements is right but for the counts, and these were right before
  pub nearly : AreChildren c ns new q (pair_at new.records.slots q) (record (children_at new.records.slots q) { counts = counts_of (map (record_at new.records.slots) inner) }) →
      (kept_at new.records.slots q).counts ≡ counts_of (map (record_at old.records.slots) inner) → IsJudgedBy (set_of c) ns new q (children_at new.records.slots q) →
      IsNearly c ns new q n (outcome_at old.records.slots n)
  unfolding rest
  nearly below counts judged = record {
    others = rest;
    counted = counts ∙ counts-at (record_at old.records.slots) inner place.0 n place.1;
    children = subst (λ (counts : ChildCounts). AreChildren c ns new q (pair_at new.records.slots q) (record (children_at new.records.slots q) { counts = counts }))
        (counts-at (record_at new.records.slots) inner place.0 n place.1 ∙ ap (with_outcome (outcome_at new.records.slots n)) (sym rest-now)) below;
    judged = judged;
  }

-- ---- an element that fits is kept otherwise

module _ (c : Compiled) (ns : Nodes) (old new : KeptState) (beside : IsBeside c ns old) (n : ℕ) (made : IsMade old.records.slots n) (kept : KeptElement) (rewrites : Rewrites old new n (Some kept))
    (pair : kept.found.governing ≡ pair_at old.records.slots n) where
  sound : IsSound ns
  sound = beside.over.1.stands.links

  element : is_element_at ns n ≡ true
  element = beside.over.1.only n made

  other-same : (m : ℕ) → m ≢ n → kept_at new.records.slots m ≡ kept_at old.records.slots m
  other-same m other = ap (λ o. unwrap_or o blank) (rewrites.slots.others m other)

  pub pair-stays : (m : ℕ) → pair_at new.records.slots m ≡ pair_at old.records.slots m
  pair-stays m = elim (cases_eq m n) [
    | inl e ↦ ap (pair_at new.records.slots) e ∙ ap (λ (x : KeptElement). x.found.governing) (kept-there new.records.slots n kept rewrites.slots.here) ∙ pair ∙ ap (pair_at old.records.slots) (sym e)
    | inr other ↦ ap (λ (x : KeptElement). x.found.governing) (other-same m other)
  ]

  pub made-now : (m : ℕ) → IsMade old.records.slots m → IsMade new.records.slots m
  made-now m was = elim (cases_eq m n) [
    | inl e ↦ (kept, ap (at new.records.slots) e ∙ rewrites.slots.here)
    | inr other ↦ (was.0, rewrites.slots.others m other ∙ was.1)
  ]

  pub made-before : (m : ℕ) → IsMade new.records.slots m → IsMade old.records.slots m
  made-before m now = elim (cases_eq m n) [
    | inl e ↦ (made.0, ap (at old.records.slots) e ∙ made.1)
    | inr other ↦ (now.0, sym (rewrites.slots.others m other) ∙ now.1)
  ]

  module _ (fits : FitBut c ns old (n ∷ [])) (q : ℕ) (above : parent_at ns n ≡ Some q) (was : IsMade old.records.slots q) where
    off : q ≢ n
    off e = let own = by-node ns n (node ns n) refl element in not-own-parent ns sound n own.0 own.1 (above ∙ ap Some e)

    fit-above : IsFit (set_of c) (models_of c) ns old.records.slots old.lists old.root_ids q
    fit-above = fits q was ((λ e. off (sym e)), tt)

    abbrev counts-now : ChildCounts
    counts-now = counts_of (map (record_at new.records.slots) (element_children ns q))

    below-above : AreChildren c ns new q (pair_at old.records.slots q) (record (children_at old.records.slots q) { counts = counts-now })
    below-above = record {
      given = λ i x e. record { made = made-now x (fit-above.gathered.given i x e).made; pair_is = pair-stays x ∙ (fit-above.gathered.given i x e).pair_is };
      list_is = subst (λ (v : ListsView). IsListed v (models_of c (pair_at old.records.slots q).of) (kept_at old.records.slots q).list (symbols_by c ns (pair_at old.records.slots q).of q)) (sym rewrites.lists) fit-above.gathered.list_is;
      stuck_is = fit-above.gathered.stuck_is;
      counts_are = refl;
    }

    pub nearly-above : IsNearly c ns new q n (outcome_at old.records.slots n)
    nearly-above =
        nearly c ns old new sound n q element above (λ i m e other. ap (λ (x : KeptElement). x.found.element) (other-same m other))
        (subst (λ (x : KeptElement). AreChildren c ns new q x.found.governing (record (children_of x) { counts = counts-now })) (sym (other-same q off)) below-above)
        (ap (λ (x : KeptElement). x.counts) (other-same q off) ∙ fit-above.gathered.counts_are)
        (subst (λ (x : KeptElement). IsJudgedBy (set_of c) ns new q (children_of x)) (sym (other-same q off))
        (judged-kept (set_of c) ns old new q (children_at old.records.slots q) (ap (λ (x : KeptElement). x.found) (other-same q off)) (ap (λ (x : KeptElement). x.text) (other-same q off))
        (ap (λ (x : KeptElement). x.identity) (other-same q off)) rewrites.ids (fit-judged c ns old q fit-above)))

  -- it climbs
  pub begun : ((m : ℕ) → is_element_at ns m ≡ true → IsMade old.records.slots m) → FitBut c ns old (n ∷ []) → IsFit (set_of c) (models_of c) ns new.records.slots new.lists new.root_ids n →
      IsClimbing c ns new n (outcome_at old.records.slots n)
  begun all fits fit = record {
    element = element;
    all = λ m is. made-now m (all m is);
    root = λ e. rewritten-fit c ns old new n (Some kept) rewrites beside [] fits (λ q above. absurd (none-some q (sym e ∙ above))) fit;
    parent = λ q above. (
      rewritten-fit c ns old new n (Some kept) rewrites beside (q ∷ []) (λ m was lacks. fits m was (lacks.0, tt)) (λ r higher. inl (same_Some q r (sym above ∙ higher))) fit,
      nearly-above fits q above (all q (parent-element c.names ns beside.over.0 beside.over.1.stands n q above)),
    );
  }

-- ---- one level

-- something is kept of the parent
pub parent-made : (c : Compiled) (ns : Nodes) (k : KeptState) (child p : ℕ) (was : Outcome) → IsBeside c ns k → parent_at ns child ≡ Some p → IsClimbing c ns k child was → IsMade k.records.slots p
parent-made c ns k child p was beside up h = h.all p (parent-element c.names ns beside.over.0 beside.over.1.stands child p up)

-- what a child element comes to now is counted in the place of what it came to
pub recounted-by : (c : Compiled) (ns : Nodes) (old mid : KeptState) (child p : ℕ) (was now : Outcome) (up : parent_at ns child ≡ Some p) (h : IsClimbing c ns old child was) (k : KeptElement) →
    IsKept old.records.slots p k → now ≡ outcome_at old.records.slots child →
    ((x : KeptElement) (others : ChildCounts) → IsKept old.records.slots p x → x.counts ≡ with_outcome was others → Rewrites old mid p (Some (record x { counts = with_outcome now others }))) →
    Rewrites old mid p (Some (record k { counts = with_outcome (outcome_at old.records.slots child) (h.parent p up).1.others }))
recounted-by c ns old mid child p was now up h k is same change =
    let near = (h.parent p up).1 in
    subst (λ (o : Outcome). Rewrites old mid p (Some (record k { counts = with_outcome o near.others }))) same
    (change k near.others is (ap (λ (x : KeptElement). x.counts) (sym (kept-there old.records.slots p k is)) ∙ near.counted))

-- the parent is counted again
module _ (c : Compiled) (ns : Nodes) (old mid : KeptState) (beside : IsBeside c ns old) (child p : ℕ) (was : Outcome) (up : parent_at ns child ≡ Some p) (h : IsClimbing c ns old child was)
    (k : KeptElement) (is : IsKept old.records.slots p k)
    (recounted : Rewrites old mid p (Some (record k { counts = with_outcome (outcome_at old.records.slots child) (h.parent p up).1.others }))) where
  abbrev counted : ChildCounts
  counted = with_outcome (outcome_at old.records.slots child) (h.parent p up).1.others

  abbrev again : KeptElement
  again = record k { counts = counted }

  kept-old : kept_at old.records.slots p ≡ k
  kept-old = kept-there old.records.slots p k is

  kept-mid : kept_at mid.records.slots p ≡ again
  kept-mid = kept-there mid.records.slots p again recounted.slots.here

  -- it is judged as before
  pub judged-mid : IsJudgedBy (set_of c) ns mid p (children_at old.records.slots p)
  judged-mid =
      judged-kept (set_of c) ns old mid p (children_at old.records.slots p) (ap (λ (x : KeptElement). x.found) kept-mid ∙ ap (λ (x : KeptElement). x.found) (sym kept-old))
      (ap (λ (x : KeptElement). x.text) kept-mid ∙ ap (λ (x : KeptElement). x.text) (sym kept-old)) (ap (λ (x : KeptElement). x.identity) kept-mid ∙ ap (λ (x : KeptElement). x.identity) (sym kept-old))
      recounted.ids (h.parent p up).1.judged

  children-mid : record (children_at old.records.slots p) { counts = counted } ≡ children_at mid.records.slots p
  children-mid = ap (λ (x : KeptElement). record (children_of x) { counts = counted }) kept-old ∙ sym (ap children_of kept-mid)

  pair-mid : pair_at old.records.slots p ≡ pair_at mid.records.slots p
  pair-mid = ap (λ (x : KeptElement). x.found.governing) kept-old ∙ sym (ap (λ (x : KeptElement). x.found.governing) kept-mid)

  below-mid : AreChildren c ns mid p (pair_at mid.records.slots p) (children_at mid.records.slots p)
  below-mid =
      subst (λ (g : Governing). AreChildren c ns mid p g (children_at mid.records.slots p)) pair-mid
      (subst (AreChildren c ns mid p (pair_at old.records.slots p)) children-mid
      (children-stay c ns old mid p (Some again) recounted beside (beside.over.1.only p (k, is)) (pair_at old.records.slots p) (record (children_at old.records.slots p) { counts = counted }) (h.parent p up).1.children))

  -- and judged by that
  module _ (new : KeptState) (between : IsBeside c ns mid) (after : IsBeside c ns new) (anew : IsJudgedAnew c ns mid new p (pair_at mid.records.slots p) (children_at mid.records.slots p)) where
    whole : Rewrites old new p (Some anew.kept)
    whole = rewrites-again old mid new p (Some again) (Some anew.kept) recounted anew.rewrites

    pair-same : anew.kept.found.governing ≡ pair_at old.records.slots p
    pair-same = anew.pair_is ∙ sym pair-mid

    pub climbed : IsClimbing c ns new p (outcome_at old.records.slots p)
    climbed =
        begun c ns old new beside p (k, is) anew.kept whole pair-same h.all (h.parent p up).0
        (anew-fits c ns mid new p (pair_at mid.records.slots p) (children_at mid.records.slots p) anew between after below-mid)

    rest-here : kept_at new.records.slots p ≡ record (kept_at old.records.slots p) { counts = (kept_at new.records.slots p).counts; found = (kept_at new.records.slots p).found }
    rest-here =
        let now = kept-there new.records.slots p anew.kept whole.slots.here in
        let children = ap children_of now ∙ anew.children_are ∙ sym children-mid in
        let text = anew.judged.text_is ∙ sym (h.parent p up).1.judged.text_is in
        let identity = ap (λ (x : KeptElement). x.identity) now ∙ anew.identity_is ∙ ap (λ (x : KeptElement). x.identity) kept-mid ∙ ap (λ (x : KeptElement). x.identity) (sym kept-old) in
        λ i. record {
          found = (kept_at new.records.slots p).found;
          text = text i;
          stuck = (children i).stuck;
          counts = (kept_at new.records.slots p).counts;
          list = (children i).list;
          identity = identity i;
        }

    pub kept-rest : KeepsRest old new
    kept-rest = record {
      made = λ n. (made-now c ns old new beside p (k, is) anew.kept whole pair-same n, made-before c ns old new beside p (k, is) anew.kept whole pair-same n);
      pairs = pair-stays c ns old new beside p (k, is) anew.kept whole pair-same;
      rest = λ n. elim (cases_eq n p) [
        | inl e ↦ subst (λ m. kept_at new.records.slots m ≡ record (kept_at old.records.slots m) { counts = (kept_at new.records.slots m).counts; found = (kept_at new.records.slots m).found }) (sym e) rest-here
        | inr other ↦ ap (λ (x : KeptElement). record x { counts = (kept_at new.records.slots n).counts; found = (kept_at new.records.slots n).found }) (ap (λ o. unwrap_or o blank) (whole.slots.others n other))
      ];
      lists = whole.lists;
      ids = whole.ids;
    }
