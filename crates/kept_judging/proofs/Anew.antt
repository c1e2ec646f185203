-- An element that is judged anew fits by its child elements, and the others as before.
use Rattle.std.proofs.Common.{◌≡◌, ◌≢◌, ℕ, List, [], ◌∷◌, map, true, Option, Some, refl, sym, ap, ◌∙◌, subst, inl, inr, arith}
use Rattle.std.specs.Prelude.{slice_get, unwrap_or}
use Rattle.std.specs.Option.{option_and_then}
use Rattle.std.proofs.lemmas.Bool.{cases_eq}
use Rattle.std.proofs.lemmas.Option.{same_Some}
use Rattle.xs_codes.specs.declared.fault.Found.{Found}
use Rattle.xs_components.specs.declared.particle.Particle.{Particle}
use Rattle.assess_records.specs.Counts.{with_child, counts_of}
use Rattle.assess_records.specs.declared.record.ElementRecord.{ElementRecord}
use Rattle.elem_governing.specs.Governing.{child_mode, particle_declaration, accepting_particle, governed}
use Rattle.elem_governing.specs.declared.pairs.Governing.{Governing}
use Rattle.elem_governing.specs.declared.pairs.Mode.{Mode}
use Rattle.elem_governing.specs.declared.pairs.Mode.TheVariants.{Strict, Lax, Skip}
use Rattle.compiled_schema.specs.Usable.{set_of}
use Rattle.compiled_schema.specs.declared.compiled.Compiled.{Compiled}
use Rattle.model_terms.specs.Terms.{stuck_in, term_in}
use Rattle.model_lists.specs.Lists.{ListsView}
use Rattle.doc_nodes.specs.Nodes.{Node, Nodes, node, IsNode, IsSound, is_element_at, element_children}
use Rattle.doc_changes.specs.Held.{parent_at}
use Rattle.kept_state.specs.from_kept_records.KeptElement.{KeptElement}
use Rattle.kept_state.specs.from_kept_records.Slots.{IsMade, blank, kept_at, pair_at, record_at}
use Rattle.kept_state.specs.from_kept_records.Fit.{models_of, head_at, IsListed, IsGathered, IsFit, AllFitBut, AboveIn}
use Rattle.kept_slots.specs.Slots.{at}
use Rattle.kept_state.proofs.from_kept_records.Frames.{map-same, SeesChild, sees-same, fit-same, rest-fit, put-fit}
use Rattle.kept_state.proofs.from_kept_records.Nodes.{by-node, child-parent}
use Rattle.kept_state.specs.Kept.{CanGovern, FitBut, IsBeside, Rewrites, children_of, children_at, outcome_of, outcome_at}
use Rattle.kept_state.specs.declared.children.KeptChildren.{KeptChildren}
use Rattle.kept_state.specs.declared.element.Outcome.{Outcome}
use Rattle.kept_state.specs.declared.state.KeptState.{KeptState}
use Rattle.kept_state.proofs.Beside.{kept-there}
use Rattle.kept_judging.specs.Judged.{symbols_by, pair_by, AreChildren, IsJudgedBy, IsJudgedAnew}

-- ---- nodes

-- no node is its own parent
pub not-own-parent : (ns : Nodes) → IsSound ns → (n : ℕ) (it : Node) → IsNode ns n it → parent_at ns n ≡ Some n → ⊥
not-own-parent ns sound n it is up =
    let above = sound.up n n it is (sym (ap (option_and_then (λ (x : Node). x.parent)) is) ∙ up) in
    let below = sound.down n n above.parent above.is above.has in
    let same : below.child.depth ≡ above.parent.depth = ap (λ (x : Node). x.depth) (same_Some below.child above.parent (sym below.is ∙ above.is)) in
    let deeper = below.below in
    omega (arith, same, deeper)

-- a child element is another node
pub child-other : (ns : Nodes) → IsSound ns → (n : ℕ) → is_element_at ns n ≡ true → (place child : ℕ) → slice_get (element_children ns n) place ≡ Some child → child ≢ n
child-other ns sound n element place child e q =
    let own = by-node ns n (node ns n) refl element in
    not-own-parent ns sound n own.0 own.1 (subst (λ m. parent_at ns m ≡ Some n) q (child-parent ns sound n own.0 own.1 place child e))

-- ---- what is kept of child elements

module _ (c : Compiled) (ns : Nodes) where
  -- of an element that is gathered it is this
  pub gathered-children : (k : KeptState) (n : ℕ) → IsGathered (set_of c) (models_of c) ns k.records.slots k.lists n →
      AreChildren c ns k n (pair_at k.records.slots n) (children_at k.records.slots n)
  gathered-children k n g = record {
    given = λ place child e. record { made = (g.given place child e).made; pair_is = (g.given place child e).pair_is };
    list_is = g.list_is;
    stuck_is = g.stuck_is;
    counts_are = g.counts_are;
  }

  -- an element that fits is judged by it
  pub fit-judged : (k : KeptState) (n : ℕ) → IsFit (set_of c) (models_of c) ns k.records.slots k.lists k.root_ids n → IsJudgedBy (set_of c) ns k n (children_at k.records.slots n)
  fit-judged k n f = record { number_is = f.gathered.number_is; bearer_is = f.gathered.bearer_is; text_is = f.gathered.text_is; known = f.known }

  -- and the other way round
  pub judged-fit : (k : KeptState) (n : ℕ) → AreChildren c ns k n (pair_at k.records.slots n) (children_at k.records.slots n) → IsJudgedBy (set_of c) ns k n (children_at k.records.slots n) →
      IsFit (set_of c) (models_of c) ns k.records.slots k.lists k.root_ids n
  judged-fit k n below judged = record {
    gathered = record {
      number_is = judged.number_is;
      bearer_is = judged.bearer_is;
      text_is = judged.text_is;
      given = λ place child e. record { made = (below.given place child e).made; pair_is = (below.given place child e).pair_is };
      list_is = below.list_is;
      stuck_is = below.stuck_is;
      counts_are = below.counts_are;
    };
    known = judged.known;
  }

-- ---- its type stays

-- child elements are assessed as strictly below both, where both are skipped or neither is
below-mode : (was now : Mode) → (was ≡ Skip → now ≡ Skip) → (now ≡ Skip → was ≡ Skip) → (part : Option Particle) → child_mode now part ≡ child_mode was part
below-mode Strict Strict on back part = refl
below-mode Strict Lax on back part = refl
below-mode Strict Skip on back part = ap (λ (m : Mode). child_mode m part) (sym (back refl))
below-mode Lax Strict on back part = refl
below-mode Lax Lax on back part = refl
below-mode Lax Skip on back part = ap (λ (m : Mode). child_mode m part) (sym (back refl))
below-mode Skip Strict on back part = ap (λ (m : Mode). child_mode m part) (on refl)
below-mode Skip Lax on back part = ap (λ (m : Mode). child_mode m part) (on refl)
below-mode Skip Skip on back part = refl

module _ (c : Compiled) (ns : Nodes) (k : KeptState) (n : ℕ) (was now : Governing) (same : now.of ≡ was.of) (can : CanGovern c.parts was) (may : CanGovern c.parts now) where
  pair-same : (place child : ℕ) → pair_by c ns now n place child ≡ pair_by c ns was n place child
  pair-same place child =
      let h = head_at (set_of c) ns child in
      let term = term_in (models_of c was.of) (symbols_by c ns was.of n) place in
      let part = accepting_particle c.parts term in
      ap (λ of. pair_by c ns (record now { of = of }) n place child) same
      ∙ ap (λ (m : Mode). governed c.names c.parts m (particle_declaration c.parts h.name part) h.xsi h.scope)
      (below-mode was.mode now.mode (λ skip. may.typed.0 (same ∙ can.typed.1 skip)) (λ skip. can.typed.0 (sym same ∙ may.typed.1 skip)) part)

  -- an element that is governed otherwise, but by the same type, gives its child elements the same
  pub same-type-children : (children : KeptChildren) → AreChildren c ns k n was children → AreChildren c ns k n now children
  same-type-children children a = record {
    given = λ place child e. record { made = (a.given place child e).made; pair_is = (a.given place child e).pair_is ∙ sym (pair-same place child) };
    list_is = subst (λ of. IsListed k.lists (models_of c of) children.list (symbols_by c ns of n)) (sym same) a.list_is;
    stuck_is = a.stuck_is ∙ ap (λ of. stuck_in (models_of c of) (symbols_by c ns of n)) (sym same);
    counts_are = a.counts_are;
  }

-- ---- an element is kept anew

module _ (c : Compiled) (ns : Nodes) (old new : KeptState) (n : ℕ) (pair : Governing) (children : KeptChildren) (anew : IsJudgedAnew c ns old new n pair children) where
  pub anew-made : IsMade new.records.slots n
  anew-made = (anew.kept, anew.rewrites.slots.here)

  anew-kept : kept_at new.records.slots n ≡ anew.kept
  anew-kept = kept-there new.records.slots n anew.kept anew.rewrites.slots.here

  pub anew-pair : pair_at new.records.slots n ≡ pair
  anew-pair = ap (λ (k : KeptElement). k.found.governing) anew-kept ∙ anew.pair_is

  pub anew-children : children_at new.records.slots n ≡ children
  anew-children = ap children_of anew-kept ∙ anew.children_are

  -- it is judged by what is kept of its child elements
  pub anew-judged : IsJudgedBy (set_of c) ns new n (children_at new.records.slots n)
  anew-judged = subst (IsJudgedBy (set_of c) ns new n) (sym anew-children) anew.judged

  -- it fits where that is so
  pub anew-fit : AreChildren c ns new n pair children → IsFit (set_of c) (models_of c) ns new.records.slots new.lists new.root_ids n
  anew-fit below =
      judged-fit c ns new n
      (subst (λ (g : Governing). AreChildren c ns new n g (children_at new.records.slots n)) (sym anew-pair) (subst (AreChildren c ns new n pair) (sym anew-children) below))
      anew-judged

-- ---- one element is kept otherwise, and the others fit as before

module _ (c : Compiled) (ns : Nodes) (old new : KeptState) (n : ℕ) (x : Option KeptElement) (rewrites : Rewrites old new n x) (beside : IsBeside c ns old) where
  sound : IsSound ns
  sound = beside.over.1.stands.links

  -- what is kept of its child elements stays
  pub children-stay : is_element_at ns n ≡ true → (pair : Governing) (children : KeptChildren) → AreChildren c ns old n pair children → AreChildren c ns new n pair children
  children-stay element pair children a = record {
    given = λ place child e.
        let sees = sees-same old.records.slots new.records.slots child (stays place child e) in
        record { made = sees.made (a.given place child e).made; pair_is = sees.pair_stays ∙ (a.given place child e).pair_is };
    list_is = subst (λ (v : ListsView). IsListed v (models_of c pair.of) children.list (symbols_by c ns pair.of n)) (sym rewrites.lists) a.list_is;
    stuck_is = a.stuck_is;
    counts_are =
        a.counts_are
        ∙ ap counts_of (map-same (record_at old.records.slots) (record_at new.records.slots) (element_children ns n)
        (λ place child e. ap (λ o. (unwrap_or o blank).found.element) (sym (stays place child e))));
  }
    where
      stays : (place child : ℕ) → slice_get (element_children ns n) place ≡ Some child → at new.records.slots child ≡ at old.records.slots child
      stays place child e = rewrites.slots.others child (child-other ns sound n element place child e)

  -- with the lists and the codes of IDs as they are now
  fit-now : (waiting : List ℕ) → FitBut c ns old waiting → AllFitBut (set_of c) (models_of c) ns old.records.slots new.lists new.root_ids waiting
  fit-now waiting all =
      subst (λ (ids : List Found). AllFitBut (set_of c) (models_of c) ns old.records.slots new.lists ids waiting) (sym rewrites.ids)
      (subst (λ (v : ListsView). AllFitBut (set_of c) (models_of c) ns old.records.slots v old.root_ids waiting) (sym rewrites.lists) all)

  -- all fit but those that wait, where it fits itself and its parent waits
  pub rewritten-fit : (waiting : List ℕ) → FitBut c ns old (n ∷ waiting) → AboveIn ns n waiting → IsFit (set_of c) (models_of c) ns new.records.slots new.lists new.root_ids n → FitBut c ns new waiting
  rewritten-fit waiting all above fit =
      put-fit (set_of c) (models_of c) ns old.records.slots new.records.slots new.lists new.root_ids sound beside.over.1.only n x rewrites.slots waiting (fit-now (n ∷ waiting) all) above fit

  -- where it waits itself, all others fit but those that wait
  pub rewritten-waits : (waiting : List ℕ) → FitBut c ns old (n ∷ waiting) → AboveIn ns n waiting → FitBut c ns new (n ∷ waiting)
  rewritten-waits waiting all above m made lacks =
      rest-fit (set_of c) (models_of c) ns old.records.slots new.records.slots new.lists new.root_ids sound beside.over.1.only n x rewrites.slots waiting (fit-now (n ∷ waiting) all) above m made
      (λ e. lacks.0 (sym e)) lacks.1

  -- ---- its parent sees what it saw

  module _ (made : IsMade old.records.slots n) (made-now : IsMade new.records.slots n) (pair : pair_at new.records.slots n ≡ pair_at old.records.slots n)
      (outcome : outcome_at new.records.slots n ≡ outcome_at old.records.slots n) where
    abbrev seen : ElementRecord → Outcome
    seen r = record { validity = r.validity; attempted = r.attempted }

    seen-same : (m : ℕ) → seen (record_at new.records.slots m) ≡ seen (record_at old.records.slots m)
    seen-same m = elim (cases_eq m n) [
      | inl e ↦ ap (outcome_at new.records.slots) e ∙ outcome ∙ ap (outcome_at old.records.slots) (sym e)
      | inr other ↦ ap (λ o. outcome_of (unwrap_or o blank)) (rewrites.slots.others m other)
    ]

    counts-seen : (xs : List ℕ) → counts_of (map (record_at new.records.slots) xs) ≡ counts_of (map (record_at old.records.slots) xs)
    counts-seen [] = refl
    counts-seen (m ∷ xs) =
        let one = seen-same m in
        let rest = counts-seen xs in
        λ i. with_child (one i).validity (one i).attempted (rest i)

    sees : (m : ℕ) → SeesChild old.records.slots new.records.slots m
    sees m = elim (cases_eq m n) [
      | inl e ↦ subst (SeesChild old.records.slots new.records.slots) (sym e) (record { made = λ was. made-now; pair_stays = pair })
      | inr other ↦ sees-same old.records.slots new.records.slots m (rewrites.slots.others m other)
    ]

    -- all others fit as before
    pub seen-fit : (waiting : List ℕ) → FitBut c ns old (n ∷ waiting) → IsFit (set_of c) (models_of c) ns new.records.slots new.lists new.root_ids n → FitBut c ns new waiting
    seen-fit waiting all fit m there lacks = elim (cases_eq m n) [
      | inl e ↦ subst (IsFit (set_of c) (models_of c) ns new.records.slots new.lists new.root_ids) (sym e) fit
      | inr other ↦
          fit-same (set_of c) (models_of c) ns old.records.slots new.records.slots new.lists new.root_ids m (rewrites.slots.others m other) (λ place child e. sees child)
          (counts-seen (element_children ns m)) (fit-now (n ∷ waiting) all m (there.0, sym (rewrites.slots.others m other) ∙ there.1) ((λ e. other (sym e)), lacks))
    ]

-- ---- an element is kept anew, and its parent waits

module _ (c : Compiled) (ns : Nodes) (old new : KeptState) (n : ℕ) (pair : Governing) (children : KeptChildren) (anew : IsJudgedAnew c ns old new n pair children) (before : IsBeside c ns old)
    (after : IsBeside c ns new) (below : AreChildren c ns old n pair children) where
  pub anew-fits : IsFit (set_of c) (models_of c) ns new.records.slots new.lists new.root_ids n
  anew-fits =
      let element = after.over.1.only n (anew-made c ns old new n pair children anew) in
      anew-fit c ns old new n pair children anew (children-stay c ns old new n (Some anew.kept) anew.rewrites before element pair children below)

  -- all fit but those that wait
  pub anew-all-fit : (waiting : List ℕ) → FitBut c ns old (n ∷ waiting) → AboveIn ns n waiting → FitBut c ns new waiting
  anew-all-fit waiting all above = rewritten-fit c ns old new n (Some anew.kept) anew.rewrites before waiting all above anew-fits
