use Rattle.std.proofs.Common.{◌≡◌, ◌+◌, ◌*◌, [], ◌∷◌, drop, None, Some, refl, sym, ap, ◌∙◌, subst, inl, arith}
use Rattle.std.specs.Prelude.{slice_get}
use Rattle.std.proofs.lemmas.Option.{slice_get_within}
use Rattle.elem_governing.specs.declared.pairs.Governing.{Governing}
use Rattle.compiled_schema.specs.declared.compiled.Compiled.{Compiled}
use Rattle.child_lists.specs.from_kept_records.Slots.{pair_at}
use Rattle.kept_below.specs.Moved.{moved}
use Rattle.child_lists.specs.Family.{AreGivenBut, IsAttributed, IsListedBy, IsMidway, symbols_of}
use Rattle.kept_children.specs.Steps.{GovernsBelow, digits, marked_count, places_of, width}
use Rattle.kept_below.proofs.Identity.{identity-then}
use Rattle.kept_children.proofs.Asking.{places-stay, places-next, places-ended, places-past, few-marked-children, asked-next, asked-all, asked-stopped}
use Rattle.kept_children.proofs.marked.settle_all_marked.Goals as goal

pub loop-number-init : goal.loop-number-init
loop-number-init g c = record {
  same = refl;
  midway = λ was m. m;
  attributed = c.requires.attributed;
  counted = c.requires.counted;
  given = c.requires.given;
  identity = λ n. refl;
  pair = refl;
  most = omega arith;
  least = omega arith;
  steps = λ siblings governs below. omega arith;
}

pub marked_at-requires-clause-made : goal.marked_at-requires-clause-made
marked_at-requires-clause-made g c = (c.loop-number.invariant.midway c.requires.midway.0 c.requires.midway.1).made

pub marked_at-requires-clause-listed : goal.marked_at-requires-clause-listed
marked_at-requires-clause-listed g c =
    let ns = c.args.doc.now in
    let k = c.loop-number.kept in
    let p = c.args.parent in
    let inv = c.loop-number.invariant in
    subst (λ (s : Compiled). IsListedBy s k p (symbols_of s ns k p)) (sym inv.same) inv.attributed.listed

pub settle_marked-requires-clause-place : goal.settle_marked-requires-clause-place
settle_marked-requires-clause-place g c = c.in-Some.ensures.0

pub settle_marked-requires-clause-midway : goal.settle_marked-requires-clause-midway
settle_marked-requires-clause-midway g c =
    let inv = c.loop-number.invariant in
    let was = c.requires.midway.0 in
    (was, subst (λ (s : Compiled). IsMidway s c.args.doc.now c.loop-number.kept c.args.parent was []) (sym inv.same) (inv.midway was c.requires.midway.1))

pub settle_marked-requires-clause-attributed : goal.settle_marked-requires-clause-attributed
settle_marked-requires-clause-attributed g c =
    let inv = c.loop-number.invariant in
    subst (λ (s : Compiled). IsAttributed s c.args.doc.now c.loop-number.kept c.args.parent) (sym inv.same) inv.attributed

pub settle_marked-requires-clause-counted : goal.settle_marked-requires-clause-counted
settle_marked-requires-clause-counted g c = c.loop-number.invariant.counted

pub loop-number-preserved : goal.loop-number-preserved
loop-number-preserved g c =
    let set = c.args.set.now in
    let ns = c.args.doc.now in
    let old = c.args.kept.now in
    let p = c.args.parent in
    let k = c.loop-number.kept in
    let new = c.settle_marked.new.kept in
    let number = c.loop-number.number in
    let inv = c.loop-number.invariant in
    let done = c.in_ok-settle_marked.ensures in
    let places = places_of set ns old p in
    let place = c.in-Some.place in
    let d = digits (width ns p) in
    let here : slice_get places number ≡ Some place =
    ap (λ xs. slice_get xs number) (sym (places-stay set ns old k p inv.pair)) ∙ subst (λ (s : Compiled). slice_get (places_of s ns k p) number ≡ Some place) inv.same c.in-Some.ensures.1 in
    let within = slice_get_within places number place here in
    record {
      same = done.same ∙ inv.same;
      midway = λ was m.
          subst (λ (s : Compiled). IsMidway s ns new p was []) inv.same (done.midway was (subst (λ (s : Compiled). IsMidway s ns k p was []) (sym inv.same) (inv.midway was m)));
      attributed = subst (λ (s : Compiled). IsAttributed s ns new p) inv.same done.attributed;
      counted = done.counted;
      given = subst (λ (s : Compiled). AreGivenBut s ns new p (drop (number + 1) places)) inv.same
          (done.given (drop (number + 1) places) (subst (λ (s : Compiled). AreGivenBut s ns k p (place ∷ drop (number + 1) places)) (sym inv.same) (places-next set ns k p places number place here inv.given)));
      identity = identity-then old k new inv.identity done.identity;
      pair = done.pair ∙ inv.pair;
      most = omega (arith, within);
      least = omega (arith, inv.least, done.least);
      steps = λ siblings governs below.
          let so =
          subst (λ (s : Compiled). GovernsBelow s ns (pair_at k.records.slots p) p governs siblings) (sym inv.same)
          (subst (λ (pair : Governing). GovernsBelow set ns pair p governs siblings) (sym inv.pair) below) in
          asked-next d number c.args.steps.now c.loop-number.steps c.settle_marked.new.steps (moved old.records.slots governs siblings) (moved k.records.slots governs siblings) (moved new.records.slots governs siblings)
          (inv.steps siblings governs below) (done.left (8 * d) siblings governs (inl (omega arith)) so);
    }

pub returns-in_default-clause-given : goal.returns-in_default-clause-given
returns-in_default-clause-given g c =
    let set = c.args.set.now in
    let ns = c.args.doc.now in
    let old = c.args.kept.now in
    let p = c.args.parent in
    let k = c.loop-number.kept in
    let number = c.loop-number.number in
    let inv = c.loop-number.invariant in
    let none : slice_get (places_of set ns old p) number ≡ None =
    ap (λ xs. slice_get xs number) (sym (places-stay set ns old k p inv.pair)) ∙ subst (λ (s : Compiled). slice_get (places_of s ns k p) number ≡ None) inv.same c.in_default.ensures in
    places-ended set ns k p (places_of set ns old p) number none inv.given

pub returns-in_default-clause-steps : goal.returns-in_default-clause-steps
returns-in_default-clause-steps g c = λ siblings governs below.
    let set = c.args.set.now in
    let ns = c.args.doc.now in
    let old = c.args.kept.now in
    let inv = c.loop-number.invariant in
    asked-all (digits (width ns c.args.parent)) c.loop-number.number (marked_count set ns old c.args.parent) c.args.steps.now c.loop-number.steps (moved old.records.slots governs siblings)
    (moved c.loop-number.kept.records.slots governs siblings) inv.most (inv.steps siblings governs below)

pub returns-in_err-settle_marked-clause-same : goal.returns-in_err-settle_marked-clause-same
returns-in_err-settle_marked-clause-same g c = c.in_err-settle_marked.ensures.same ∙ c.loop-number.invariant.same

pub returns-in_err-settle_marked-clause-steps : goal.returns-in_err-settle_marked-clause-steps
returns-in_err-settle_marked-clause-steps g c = λ siblings governs below.
    let set = c.args.set.now in
    let ns = c.args.doc.now in
    let old = c.args.kept.now in
    let p = c.args.parent in
    let k = c.loop-number.kept in
    let number = c.loop-number.number in
    let inv = c.loop-number.invariant in
    let d = digits (width ns p) in
    let here : slice_get (places_of set ns old p) number ≡ Some c.in-Some.place =
    ap (λ xs. slice_get xs number) (sym (places-stay set ns old k p inv.pair)) ∙ subst (λ (s : Compiled). slice_get (places_of s ns k p) number ≡ Some c.in-Some.place) inv.same c.in-Some.ensures.1 in
    let so =
    subst (λ (s : Compiled). GovernsBelow s ns (pair_at k.records.slots p) p governs siblings) (sym inv.same)
    (subst (λ (pair : Governing). GovernsBelow set ns pair p governs siblings) (sym inv.pair) below) in
    asked-stopped d number (marked_count set ns old p) c.args.steps.now c.loop-number.steps c.settle_marked.new.steps (moved old.records.slots governs siblings) (moved k.records.slots governs siblings)
    (slice_get_within (places_of set ns old p) number c.in-Some.place here) (inv.steps siblings governs below) (c.in_err-settle_marked.ensures.steps (8 * d) siblings governs (inl (omega arith)) so)

pub returns-clause-given : goal.returns-clause-given
returns-clause-given g c =
    let set = c.args.set.now in
    let ns = c.args.doc.now in
    let old = c.args.kept.now in
    let p = c.args.parent in
    let few = few-marked-children set ns old p in
    let many = c.child_count-number-end.ensures.count in
    let past = c.loop-number-test.false in
    places-past set ns c.loop-number.kept p (places_of set ns old p) c.loop-number.number (omega (arith, few, many, past)) c.loop-number.invariant.given

pub returns-clause-steps : goal.returns-clause-steps
returns-clause-steps g c = λ siblings governs below.
    let set = c.args.set.now in
    let ns = c.args.doc.now in
    let old = c.args.kept.now in
    let inv = c.loop-number.invariant in
    asked-all (digits (width ns c.args.parent)) c.loop-number.number (marked_count set ns old c.args.parent) c.args.steps.now c.loop-number.steps (moved old.records.slots governs siblings)
    (moved c.loop-number.kept.records.slots governs siblings) inv.most (inv.steps siblings governs below)
