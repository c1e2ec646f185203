use Rattle.std.proofs.Common.{◌≡◌, ◌+◌, ◌*◌, ◌≤◌, ℕ, List, [], ◌∷◌, map, take, drop, length, Some, false, refl, sym, ap, subst, ◌∙◌, add-one, arith}
use Rattle.std.specs.Prelude.{slice_get, unwrap_or}
use Rattle.std.specs.Option.{option_map}
use Rattle.std.proofs.lemmas.Bool.{false≢true}
use Rattle.std.proofs.lemmas.List.{take_all}
use Rattle.std.proofs.lemmas.Option.{slice_get-get_or, slice_get-map}
use Rattle.tree_rows.specs.Forest.{Forest}
use Rattle.assess_records.specs.Counts.{with_child, counts_of}
use Rattle.elem_governing.specs.declared.pairs.Governing.{Governing}
use Rattle.compiled_schema.specs.declared.compiled.Compiled.{Compiled}
use Rattle.doc_nodes.specs.Nodes.{Nodes, Has, element_children}
use Rattle.doc_changes.specs.Readers.{element_numbers}
use Rattle.kept_slots.specs.Slots.{at}
use Rattle.child_listing.specs.from_kept_records.Slots.{blank}
use Rattle.child_listing.specs.from_kept_state.Kept.{CanGovern, FitBut, IsBeside, children_at}
use Rattle.child_listing.specs.from_kept_state.Governed.{Governed}
use Rattle.child_listing.specs.from_kept_state.KeptState.{KeptState}
use Rattle.child_listing.specs.from_kept_judging.Judged.{pair_by}
use Rattle.child_listing.specs.Children.{AreGoverned}
use Rattle.kept_forgetting.specs.Below.{IsBelow}
use Rattle.kept_below.specs.Below.{IsMadeAnew}
use Rattle.kept_below.specs.Moved.{moved, is_typed, AreGivenDown}
use Rattle.kept_below.proofs.Again.{on-both, on-one, above-lacks, settled-same, typed-settled, typed-fit, anew-settled, anew-fits}
use Rattle.kept_below.proofs.Children.{number, record-of, child-element, child-above, all-above, one-less, all-less, governed-next, counts-next, keeps-next, steps-next, steps-stopped, are-children}
use Rattle.kept_below.proofs.Counts.{room-for-one}
use Rattle.kept_forgetting.proofs.Depths.{element-depth}
use Rattle.child_listing.proofs.Distinct.{has-place, place-has}
use Rattle.kept_below.proofs.Fits.{more-fit, more-beside}
use Rattle.kept_forgetting.proofs.Keeping.{keeps-same, keeps-lists, keeps-then}
use Rattle.kept_below.proofs.Identity.{identity-then, identity-lists, identity-judged, identity-made}
use Rattle.kept_below.proofs.Keeping.{spare-kept}
use Rattle.kept_below.proofs.Moving.{counts-own, not-typed, room-first, room-ended, HasRoom}
use Rattle.kept_below.proofs.below.+below.Goals as goal

-- ---- all child elements

pub settle_all-settle_below-requires : goal.settle_all-settle_below-requires
settle_all-settle_below-requires g t c κs within =
    let set = c.args.set.now in
    let ns = c.args.doc.now in
    let cs = c.args.children.now in
    let i = c.loop-child.child-index in
    let inv = c.loop-child.invariant in
    let r = c.requires.fit in
    let sound = c.requires.beside.over.1.stands.links in
    let child = c.child-item.result in
    let here = slice_get-get_or cs i child c.loop-child-test.true ∙ ap Some (sym c.child-item.is) in (
      (let less = one-less set ns sound r.0 cs r.2 i child here in omega (arith, c.decreases, less)),
      (
        within,
        (
          subst (λ (s : Compiled). IsBeside s ns c.loop-child.kept) (sym inv.same) inv.beside,
          (
            child-element set ns sound r.0 cs r.2 i child here,
            (
              subst (λ (s : Compiled). CanGovern s.parts child.pair) (sym inv.same) (r.2.may i child here),
              (
                r.0.node ∷ r.1,
                subst (λ (s : Compiled). FitBut s ns c.loop-child.kept (r.0.node ∷ r.1)) (sym inv.same) (inv.fit r.0 r.1 r.2 r.4),
                child-above set ns sound r.0 cs r.2 i child here r.1,
                all-above set ns sound r.0 cs r.2 i child here r.1 r.5,
              ),
            ),
          ),
        ),
      ),
    )

pub settle_all-offset_bounds-children-child-index : goal.settle_all-offset_bounds-children-child-index
settle_all-offset_bounds-children-child-index g t c = let few = c.requires.fit.2.few in omega (arith, c.loop-child-test.true, few)

pub settle_all-outcome-outcome-requires : goal.settle_all-outcome-outcome-requires
settle_all-outcome-outcome-requires g t c = c.in_ok-settle_below.ensures.settled.made

pub settle_all-add-requires-clause-few : goal.settle_all-add-requires-clause-few
settle_all-add-requires-clause-few g t c =
    (room-for-one (record-of c.loop-child.kept) c.args.children.now c.loop-child.child-index c.loop-child.counts c.loop-child.invariant.counts c.loop-child-test.true c.requires.fit.2.few).0

pub settle_all-add-requires-clause-fewer : goal.settle_all-add-requires-clause-fewer
settle_all-add-requires-clause-fewer g t c =
    (room-for-one (record-of c.loop-child.kept) c.args.children.now c.loop-child.child-index c.loop-child.counts c.loop-child.invariant.counts c.loop-child-test.true c.requires.fit.2.few).1

pub settle_all-loop-child-init : goal.settle_all-loop-child-init
settle_all-loop-child-init g t c = record {
  same = refl;
  beside = c.requires.beside;
  governed = λ child h. absurd h;
  counts = c.new-counts.ensures;
  fit = λ parent waiting are all. all;
  identity = λ n. refl;
  rest = λ parent are. keeps-same (IsBelow c.args.doc.now parent.node) c.args.kept.now;
  least = omega arith;
  steps = λ siblings governs down are so. room-first c.args.set.now c.args.doc.now governs c.args.kept.now.records.slots siblings (map number c.args.children.now) c.args.steps.now down are;
}

pub settle_all-loop-child-preserved : goal.settle_all-loop-child-preserved
settle_all-loop-child-preserved g t c =
    let set = c.args.set.now in
    let ns = c.args.doc.now in
    let cs = c.args.children.now in
    let i = c.loop-child.child-index in
    let inv = c.loop-child.invariant in
    let r = c.requires.fit in
    let sound = c.requires.beside.over.1.stands.links in
    let child = c.child-item.result in
    let here = slice_get-get_or cs i child c.loop-child-test.true ∙ ap Some (sym c.child-item.is) in
    let a = c.loop-child.kept in
    let b = c.settle_below.new.kept in
    let done = c.in_ok-settle_below.ensures in
    record {
      same = done.same ∙ inv.same;
      beside = subst (λ (s : Compiled). IsBeside s ns b) inv.same done.beside;
      governed = λ d h. governed-next set ns sound r.0 cs r.2 a b i child here done.settled inv.governed d (subst (λ k. Has d (take k cs)) (add-one i) h);
      counts =
          c.add.ensures ∙ (λ k. with_child (c.outcome-outcome.ensures k).validity (c.outcome-outcome.ensures k).attempted c.loop-child.counts)
          ∙ counts-next set ns sound r.0 cs r.2 a b i child here done.settled c.loop-child.counts inv.counts
          ∙ ap (λ k. counts_of (map (record-of b) (take k cs))) (sym (add-one i));
      fit = λ parent waiting are all.
          subst (λ (s : Compiled). FitBut s ns b (parent.node ∷ waiting)) inv.same
          (done.fit (parent.node ∷ waiting) (subst (λ (s : Compiled). FitBut s ns a (parent.node ∷ waiting)) (sym inv.same) (inv.fit parent waiting are all)) (child-above set ns sound parent cs are i child here waiting));
      identity = identity-then c.args.kept.now a b inv.identity done.identity;
      rest = λ parent are. keeps-next set ns sound parent cs are a b i child here done.settled c.args.kept.now (inv.rest parent are);
      least = omega (arith, inv.least, done.least);
      steps = λ siblings governs down are so.
          subst (λ k. HasRoom set ns b.records.slots governs (map number (drop k cs)) c.settle_below.new.steps (c.args.steps.now + 3 * moved c.args.kept.now.records.slots governs siblings)) (sym (add-one i))
          (steps-next set ns sound r.0 cs r.2 governs i child here a.records.slots b.records.slots c.loop-child.steps c.settle_below.new.steps (c.args.steps.now + 3 * moved c.args.kept.now.records.slots governs siblings)
          (inv.steps siblings governs down are so)
          (λ f given numbers. done.steps f governs (subst (λ (s : Compiled). AreGivenDown s ns governs f) (sym inv.same) given) numbers (so child (has-place number cs i child here)))
          done.settled.rest.slots);
    }

pub settle_all-returns-in_err-settle_below-clause-same : goal.settle_all-returns-in_err-settle_below-clause-same
settle_all-returns-in_err-settle_below-clause-same g t c = c.in_err-settle_below.ensures.same ∙ c.loop-child.invariant.same

pub settle_all-returns-in_err-settle_below-clause-steps : goal.settle_all-returns-in_err-settle_below-clause-steps
settle_all-returns-in_err-settle_below-clause-steps g t c = λ siblings governs down are so.
    let set = c.args.set.now in
    let ns = c.args.doc.now in
    let cs = c.args.children.now in
    let i = c.loop-child.child-index in
    let inv = c.loop-child.invariant in
    let r = c.requires.fit in
    let child = c.child-item.result in
    let here = slice_get-get_or cs i child c.loop-child-test.true ∙ ap Some (sym c.child-item.is) in
    steps-stopped set ns c.requires.beside.over.1.stands.links r.0 cs r.2 governs i child here c.loop-child.kept.records.slots c.loop-child.kept.records.slots c.loop-child.steps c.settle_below.new.steps
    (c.args.steps.now + 3 * moved c.args.kept.now.records.slots governs siblings) (inv.steps siblings governs down are so)
    (λ f given numbers. c.in_err-settle_below.ensures.steps f governs (subst (λ (s : Compiled). AreGivenDown s ns governs f) (sym inv.same) given) numbers (so child (has-place number cs i child here)))

all-taken : (cs : List Governed) (i : ℕ) → length cs ≤ i → take i cs ≡ cs
all-taken cs i past = take_all i cs past

pub settle_all-returns-clause-governed : goal.settle_all-returns-clause-governed
settle_all-returns-clause-governed g t c = λ child h.
    c.loop-child.invariant.governed child (subst (Has child) (sym (all-taken c.args.children.now c.loop-child.child-index c.loop-child-test.false)) h)

pub settle_all-returns-clause-counts : goal.settle_all-returns-clause-counts
settle_all-returns-clause-counts g t c =
    c.loop-child.invariant.counts ∙ ap (λ xs. counts_of (map (record-of c.loop-child.kept) xs)) (all-taken c.args.children.now c.loop-child.child-index c.loop-child-test.false)

pub settle_all-returns-clause-steps : goal.settle_all-returns-clause-steps
settle_all-returns-clause-steps g t c = λ siblings governs down are so.
    room-ended c.args.set.now c.args.doc.now governs c.loop-child.kept.records.slots (map number (drop c.loop-child.child-index c.args.children.now)) c.loop-child.steps _ (c.loop-child.invariant.steps siblings governs down are so)

-- ---- the child elements of one

-- they are governed as their parent gives it
settled-given : (set : Compiled) (ns : Nodes) (parent : Governed) (governs : ℕ → Governing) (cs : List Governed) (are : AreGoverned set ns parent cs) →
    ((place child : ℕ) → slice_get (element_children ns parent.node) place ≡ Some child → governs child ≡ pair_by set ns parent.pair parent.node place child) →
    (map number cs ≡ element_children ns parent.node) × ((child : Governed) → Has child cs → governs child.node ≡ child.pair)
settled-given set ns parent governs cs are given = (
  are.nodes,
  λ child h.
      let at = place-has number cs child h in
      given at.0 child.node (ap (λ xs. slice_get xs at.0) (sym are.nodes) ∙ slice_get-map number cs at.0 ∙ ap (option_map number) at.1) ∙ sym (are.pairs at.0 child at.1),
)

pub settle_children-settle_all-requires : goal.settle_children-settle_all-requires
settle_children-settle_all-requires g t c κs within =
    let set = c.args.set.now in
    let ns = c.args.doc.now in
    let old = c.args.kept.now in
    let mid = c.list_children.new.kept in
    let parent = c.args.parent.now in
    let over = c.requires.beside.over in
    let sound = over.1.stands.links in
    let done = c.in_ok-listing.ensures in
    let cs = c.in_ok-listing.listing.children.items in
    let are : AreGoverned set ns parent c.as_slice.result.now = subst (AreGoverned set ns parent) (sym c.as_slice.ensures.value) done.listing.children_are in (
      (
          let less = all-less set ns sound parent c.as_slice.result.now are (λ i child e. element-depth set.names ns over.0 over.1.stands child.node (child-element set ns sound parent c.as_slice.result.now are i child e)) in
          omega (arith, c.decreases, less)
          ),
      (
        within,
        (
          more-beside set ns old mid done.rest done.others c.requires.beside,
          (parent, c.requires.fit.0, are, c.requires.element, more-fit set ns old mid done.rest done.others (parent.node ∷ c.requires.fit.0) c.requires.fit.1, c.requires.fit.2),
        ),
      ),
    )

pub settle_children-returns-in_err-listing-clause-steps : goal.settle_children-returns-in_err-listing-clause-steps
settle_children-returns-in_err-listing-clause-steps g t c = λ siblings governs down are given.
    let many = ap length are in
    omega (arith, many, c.list_children.ensures.steps)

pub settle_children-returns-in_err-counts-clause-steps : goal.settle_children-returns-in_err-counts-clause-steps
settle_children-returns-in_err-counts-clause-steps g t c = λ siblings governs down are given.
    let all = settled-given c.args.set.now c.args.doc.now c.args.parent.now governs c.as_slice.result.now (subst (AreGoverned c.args.set.now c.args.doc.now c.args.parent.now) (sym c.as_slice.ensures.value) c.in_ok-listing.ensures.listing.children_are) given in
    let more = c.in_err-counts.ensures.steps siblings governs down (are ∙ sym all.0) all.1 in
    let many = ap length are in
    let same = ap (λ (k : KeptState). moved k.records.slots governs siblings) c.in_ok-listing.ensures.rest in
    let first = c.list_children.ensures.steps in
    omega (arith, many, first, more, same)

pub settle_children-returns : goal.settle_children-returns
settle_children-returns g t c =
    let set = c.args.set.now in
    let ns = c.args.doc.now in
    let old = c.args.kept.now in
    let mid = c.list_children.new.kept in
    let new = c.settle_all.new.kept in
    let parent = c.args.parent.now in
    let listed = c.in_ok-listing.ensures in
    let done = c.in_ok-counts.ensures in
    let listing = c.in_ok-listing.listing in
    let are : AreGoverned set ns parent c.as_slice.result.now = subst (AreGoverned set ns parent) (sym c.as_slice.ensures.value) listed.listing.children_are in
    let below = done.rest parent are in
    record {
      children = are-children set ns old mid new parent listing listed.listing below
          (λ d h. done.governed d (subst (Has d) (sym c.as_slice.ensures.value) h)) c.in_ok-counts.counts (done.counts ∙ ap (λ xs. counts_of (map (record-of new) xs)) c.as_slice.ensures.value);
      spare = spare-kept (IsBelow ns parent.node) mid new below listing.list listed.listing.spare;
      fresh = listed.listing.fresh;
      fit = λ waiting all. done.fit parent waiting are (more-fit set ns old mid listed.rest listed.others (parent.node ∷ waiting) all);
      rest = keeps-then (IsBelow ns parent.node) old mid new (keeps-lists (IsBelow ns parent.node) old mid listed.rest listed.others) below;
      identity = identity-then old mid new (identity-lists old mid listed.rest) done.identity;
      beside = done.beside;
      same = done.same;
      least = omega (arith, c.list_children.ensures.least, done.least);
      steps = λ siblings governs down numbers given.
          let all = settled-given set ns parent governs c.as_slice.result.now are given in
          let more = done.steps siblings governs down (numbers ∙ sym all.0) all.1 in
          let many = ap length numbers in
          let same = ap (λ (k : KeptState). moved k.records.slots governs siblings) listed.rest in
          let first = c.list_children.ensures.steps in
          omega (arith, many, first, more, same);
    }

-- ---- one element

pub settle_below-settle_again-requires : goal.settle_below-settle_again-requires
settle_below-settle_again-requires g t c κs within =
    let r = c.requires.fit in
    let n = c.args.element.now.node in (
      omega (arith, c.decreases),
      (
        within,
        (
          c.requires.beside,
          (
            c.requires.element,
            (
              c.requires.governed,
              (
                λ made same. (r.1 n made (above-lacks c.args.doc.now n r.0 r.3)).gathered,
                (r.0, λ m made lacks. r.1 m made lacks.1, r.2, r.3),
              ),
            ),
          ),
        ),
      ),
    )

pub settle_below-returns-then-is_governed-clause-settled : goal.settle_below-returns-then-is_governed-clause-settled
settle_below-returns-then-is_governed-clause-settled g t c =
    let so = c.if-is_governed.ensures.0 refl in
    settled-same c.args.doc.now c.args.kept.now c.args.element.now so.0 so.1

pub settle_below-returns-then-is_governed-clause-identity : goal.settle_below-returns-then-is_governed-clause-identity
settle_below-returns-then-is_governed-clause-identity g t c = λ n. refl

pub settle_below-returns-clause-fit : goal.settle_below-returns-clause-fit
settle_below-returns-clause-fit g t c =
    on-one c.settle_again.result _ _ (λ fit waiting all above. fit waiting (λ m made lacks. all m made lacks.1) above) c.settle_again.ensures.fit

pub settle_again-settle_children-requires : goal.settle_again-settle_children-requires
settle_again-settle_children-requires g t c κs within =
    let r = c.requires.fit in
    (omega (arith, c.decreases), (within, (c.requires.beside, (c.requires.element, (r.0, r.1, r.3)))))

pub settle_again-returns-then-is_typed-clause-settled : goal.settle_again-returns-then-is_typed-clause-settled
settle_again-returns-then-is_typed-clause-settled g t c =
    on-one c.judge.result _ _ (λ anew. typed-settled c.args.set.now c.args.doc.now c.args.element.now c.args.kept.now c.judge.new.kept anew) c.judge.ensures.judged

pub settle_again-returns-then-is_typed-clause-fit : goal.settle_again-returns-then-is_typed-clause-fit
settle_again-returns-then-is_typed-clause-fit g t c =
    let typed = c.if-is_typed.ensures.0 refl in
    on-both c.judge.result _ _ _
    (λ anew beside. typed-fit c.args.set.now c.args.doc.now c.args.element.now c.args.kept.now c.judge.new.kept anew c.requires.beside c.requires.governed typed.0 typed.1 (c.requires.gathered typed.0 typed.1) beside)
    c.judge.ensures.judged c.judge.ensures.beside

pub settle_again-returns-clause-settled : goal.settle_again-returns-clause-settled
settle_again-returns-clause-settled g t c =
    let done = c.in_ok-children.ensures in
    on-one c.keep_anew.result _ _
    (λ made. anew-settled c.args.set.now c.args.doc.now c.args.element.now c.in_ok-children.children c.args.kept.now c.settle_children.new.kept c.keep_anew.new.kept done.rest
    (subst (λ (s : Compiled). IsMadeAnew s c.args.doc.now c.settle_children.new.kept c.keep_anew.new.kept c.args.element.now c.in_ok-children.children) done.same made) done.fresh)
    c.keep_anew.ensures.made

pub settle_again-returns-clause-fit : goal.settle_again-returns-clause-fit
settle_again-returns-clause-fit g t c =
    let done = c.in_ok-children.ensures in
    on-one c.keep_anew.result _ _
    (λ made. anew-fits c.args.set.now c.args.doc.now c.args.element.now c.in_ok-children.children c.args.kept.now c.settle_children.new.kept c.keep_anew.new.kept done.rest
    (subst (λ (s : Compiled). IsMadeAnew s c.args.doc.now c.settle_children.new.kept c.keep_anew.new.kept c.args.element.now c.in_ok-children.children) done.same made) done.beside done.spare done.children done.fit)
    c.keep_anew.ensures.made

pub settle_again-returns-then-is_typed-clause-identity : goal.settle_again-returns-then-is_typed-clause-identity
settle_again-returns-then-is_typed-clause-identity g t c =
    on-one c.judge.result _ _
    (λ anew. identity-judged c.args.set.now c.args.doc.now c.args.kept.now c.judge.new.kept c.args.element.now.node c.args.element.now.pair (children_at c.args.kept.now.records.slots c.args.element.now.node) anew)
    c.judge.ensures.judged

pub settle_again-returns-clause-identity : goal.settle_again-returns-clause-identity
settle_again-returns-clause-identity g t c =
    let done = c.in_ok-children.ensures in
    on-one c.keep_anew.result _ _
    (λ made. identity-then c.args.kept.now c.settle_children.new.kept c.keep_anew.new.kept done.identity
    (identity-made c.args.set.now c.args.doc.now c.settle_children.new.kept c.keep_anew.new.kept c.args.element.now c.in_ok-children.children
    (subst (λ (s : Compiled). IsMadeAnew s c.args.doc.now c.settle_children.new.kept c.keep_anew.new.kept c.args.element.now c.in_ok-children.children) done.same made)))
    c.keep_anew.ensures.made

pub settle_again-returns-clause-beside : goal.settle_again-returns-clause-beside
settle_again-returns-clause-beside g t c = on-one c.keep_anew.result _ _ (λ w. subst (λ (s : Compiled). IsBeside s c.args.doc.now c.keep_anew.new.kept) c.in_ok-children.ensures.same w) c.keep_anew.ensures.beside

-- an element that is not of the type counts its own child elements
other-steps : (set : Compiled) (ns : Nodes) (k : KeptState) (element : Governed) (old new : ℕ) → is_typed (at k.records.slots element.node) element.pair.of ≡ false →
    ((siblings : Forest) (governs : ℕ → Governing) → AreGivenDown set ns governs siblings → element_numbers siblings ≡ element_children ns element.node →
    ((place child : ℕ) → slice_get (element_children ns element.node) place ≡ Some child → governs child ≡ pair_by set ns element.pair element.node place child) →
    new ≤ old + 3 * (length (element_numbers siblings) + moved k.records.slots governs siblings)) →
    (siblings : Forest) (governs : ℕ → Governing) → AreGivenDown set ns governs siblings → element_numbers siblings ≡ element.node ∷ [] → governs element.node ≡ element.pair →
    new ≤ old + 3 * moved k.records.slots governs siblings
other-steps set ns k element old new other steps siblings governs down are so =
    let own = counts-own set ns k.records.slots governs element.node siblings down are (subst (λ (g : Governing). is_typed (at k.records.slots element.node) g.of ≡ false) (sym so) other) in
    let more = steps own.below governs own.down own.are (λ place child e. own.given place child e ∙ ap (λ (g : Governing). pair_by set ns g element.node place child) so) in
    let fewer = own.fewer in
    omega (arith, more, fewer)

pub settle_again-judge-requires-clause-made : goal.settle_again-judge-requires-clause-made
settle_again-judge-requires-clause-made g t c = (c.if-is_typed.ensures.0 refl).0

pub settle_again-judge-requires-clause-text : goal.settle_again-judge-requires-clause-text
settle_again-judge-requires-clause-text g t c = let typed = c.if-is_typed.ensures.0 refl in (c.requires.gathered typed.0 typed.1).text_is

pub settle_again-keep_anew-requires-clause-beside : goal.settle_again-keep_anew-requires-clause-beside
settle_again-keep_anew-requires-clause-beside g t c =
    let done = c.in_ok-children.ensures in
    subst (λ (s : Compiled). IsBeside s c.args.doc.now c.settle_children.new.kept) (sym done.same) done.beside

pub settle_again-keep_anew-requires-clause-governed : goal.settle_again-keep_anew-requires-clause-governed
settle_again-keep_anew-requires-clause-governed g t c = subst (λ (s : Compiled). CanGovern s.parts c.args.element.now.pair) (sym c.in_ok-children.ensures.same) c.requires.governed

pub settle_again-returns-clause-same : goal.settle_again-returns-clause-same
settle_again-returns-clause-same g t c = c.keep_anew.ensures.same ∙ c.in_ok-children.ensures.same

pub settle_again-returns-in_err-children-clause-steps : goal.settle_again-returns-in_err-children-clause-steps
settle_again-returns-in_err-children-clause-steps g t c =
    other-steps c.args.set.now c.args.doc.now c.args.kept.now c.args.element.now c.args.steps.now c.settle_children.new.steps
    (not-typed (at c.args.kept.now.records.slots c.args.element.now.node) c.args.element.now.pair.of
    (λ k e q. false≢true (c.if-is_typed.ensures.1 ((k, e), ap (λ o. (unwrap_or o blank).found.governing.of) e ∙ q))))
    c.in_err-children.ensures.steps

pub settle_again-returns-clause-steps : goal.settle_again-returns-clause-steps
settle_again-returns-clause-steps g t c =
    other-steps c.args.set.now c.args.doc.now c.args.kept.now c.args.element.now c.args.steps.now c.settle_children.new.steps
    (not-typed (at c.args.kept.now.records.slots c.args.element.now.node) c.args.element.now.pair.of
    (λ k e q. false≢true (c.if-is_typed.ensures.1 ((k, e), ap (λ o. (unwrap_or o blank).found.governing.of) e ∙ q))))
    c.in_ok-children.ensures.steps
