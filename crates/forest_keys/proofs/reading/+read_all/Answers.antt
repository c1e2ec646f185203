use Rattle.std.proofs.Common.{rules, ◌≡◌, ◌+◌, ◌++◌, ℕ, length, refl, sym, ap, ◌∙◌, subst, arith}
use Rattle.identity_constraints.specs.Seen.{KeyForest}
use Rattle.path_walk.specs.Sight.{below_first, seen}
use Rattle.path_walk.specs.inside.Walk.{size}
use Rattle.forest_keys.specs.Codes.{all_codes}
use Rattle.forest_keys.specs.inside.Records.{AreFilled, AreFilledAt}
use Rattle.forest_keys.proofs.Siblings.{size_first}
use Rattle.forest_keys.proofs.Filling.{filled-first, filled-below, filled-next}
use Rattle.forest_keys.proofs.Codes.{all-next, all-end}
use Rattle.forest_keys.proofs.reading.+read_all.Goals as goal

pub left-init : goal.left-init
left-init g t c = record {
  fewer = omega arith;
  many = refl;
  filled = λ h. h;
  so_far = λ h. refl;
}

pub read_all-requires : goal.read_all-requires
read_all-requires g t c κs within =
    let l = c.left in
    let f = g.T.KeySiblings.forest l.left in
    let sizes = size_first f (seen c.in-Some.own) c.in-Some.ensures in
    let fewer = l.invariant.fewer in
    let many = l.invariant.many in
    let few = c.requires.few in
    let long = c.in_ok-push.ensures.len in
    let under = ap size c.below.ensures in (
      omega (arith, c.decreases, sizes, fewer, under),
      (within, (c.requires.references, omega (arith, sizes, many, few, long, under))),
    )

pub left-preserved : goal.left-preserved
left-preserved g t c =
    let forest = g.T.KeySiblings.forest in
    let set = c.args.by.now.set in
    let tree = c.args.by.now.tree in
    let r = c.args.records.now in
    let l = c.left in
    let f = forest l.left in
    let first = seen c.in-Some.own in
    let is = c.in-Some.ensures in
    let sizes = size_first f first is in
    let fewer = l.invariant.fewer in
    let many = l.invariant.many in
    let next_size = ap size c.next-left.ensures in
    let under = ap size c.below.ensures in
    let long = c.in_ok-push.ensures.len in
    let step = c.in_ok-read_all.ensures in
    let more = step.many in
    let q = length l.codes.items in
    let middle : length c.push.new.self.items ≡ q + 1 = omega (arith, long) in
    let last : length c.read_all.new.codes.items ≡ q + 1 + size (below_first f) = omega (arith, more, long, under) in
    record {
      fewer = omega (arith, sizes, fewer, next_size);
      many = omega (arith, sizes, many, next_size, under, more, long);
      filled = λ h.
          subst (λ (n : ℕ). AreFilled set.names.now set.parts.now set.identities.now tree r n (forest c.next-left.result)) (sym last)
          (subst (λ (x : KeyForest). AreFilled set.names.now set.parts.now set.identities.now tree r (q + 1 + size (below_first f)) x) (sym c.next-left.ensures)
          (filled-next set.names.now set.parts.now set.identities.now tree r q f first is (l.invariant.filled h)));
      so_far = λ h.
          let filled = l.invariant.filled h in
          let place : c.len-place.result ≡ q = search rules in
          let code = c.in_ok-found.ensures (below_first f)
          (subst (λ (n : ℕ). AreFilledAt set.names.now set.parts.now set.identities.now tree r n first (below_first f)) (sym place) (filled-first set.names.now set.parts.now set.identities.now tree r q f first is filled)) in
          let below = step.codes
          (subst (λ (n : ℕ). AreFilled set.names.now set.parts.now set.identities.now tree r n (forest c.below.result)) (sym middle)
          (subst (λ (x : KeyForest). AreFilled set.names.now set.parts.now set.identities.now tree r (q + 1) x) (sym c.below.ensures)
          (filled-below set.names.now set.parts.now set.identities.now tree r q f first is filled))) in
          ap (λ (x : KeyForest). c.read_all.new.codes.items ++ all_codes set.names.now set.parts.now set.identities.now x) c.next-left.ensures
          ∙ all-next set.names.now set.parts.now set.identities.now f first _ l.codes.items c.push.new.self.items c.read_all.new.codes.items c.in_ok-found.found _ is (l.invariant.so_far h) code c.in_ok-push.ensures.items
          (below ∙ ap (λ (x : KeyForest). c.push.new.self.items ++ all_codes set.names.now set.parts.now set.identities.now x) c.below.ensures);
    }

pub returns : goal.returns
returns g t c =
    let forest = g.T.KeySiblings.forest in
    let set = c.args.by.now.set in
    let none = ap size c.in_default.ensures in
    let many = c.left.invariant.many in
    record {
      many = omega (arith, none, many);
      codes = λ h. all-end set.names.now set.parts.now set.identities.now (forest c.left.left) (forest c.args.siblings) _ c.left.codes.items c.in_default.ensures (c.left.invariant.so_far h);
    }
