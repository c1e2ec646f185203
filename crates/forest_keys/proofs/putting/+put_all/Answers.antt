use Rattle.std.proofs.Common.{refl, sym, ap, subst, arith}
use Rattle.path_walk.specs.Sight.{AreNamed, below_first, behind_first, seen}
use Rattle.path_walk.specs.inside.Walk.{size}
use Rattle.forest_keys.specs.inside.Found.{targets_along}
use Rattle.forest_keys.proofs.Siblings.{opened, size_first, named_below, named_behind}
use Rattle.forest_keys.proofs.Growing.{begun, all-in, reached-alike}
use Rattle.forest_keys.proofs.Along.{element-in}
use Rattle.forest_keys.proofs.putting.+put_all.Goals as goal

pub left-init : goal.left-init
left-init g t c =
    let set = c.args.by.now.set in
    record {
      named = c.requires.named;
      fewer = omega arith;
      place_is = refl;
      can = c.requires.linked;
      reached = begun c.args.by.now.tree (targets_along set.names.now set.parts.now set.identities.now c.args.place (g.T.KeySiblings.forest c.args.siblings)) c.args.records.now;
    }

pub put_element-requires-clause-named : goal.put_element-requires-clause-named
put_element-requires-clause-named g t c = c.left.invariant.named

pub put_element-requires-clause-linked : goal.put_element-requires-clause-linked
put_element-requires-clause-linked g t c = c.left.invariant.can

pub put_all-requires : goal.put_all-requires
put_all-requires g t c κs within =
    let names = c.args.by.now.set.names.now in
    let l = c.left in
    let f = g.T.KeySiblings.forest l.left in
    let sizes = size_first f (seen c.in-Some.field-0) c.in-Some.ensures in
    let fewer = l.invariant.fewer in
    let place_is = l.invariant.place_is in
    let few = c.requires.few in
    let under = ap size c.below.ensures in (
      omega (arith, c.decreases, sizes, fewer, under),
      (within, (c.requires.contents, (subst (AreNamed names) (sym c.below.ensures) (named_below names f l.invariant.named), (c.requires.sound, (omega (arith, sizes, place_is, few, under), c.in_ok-put_element.ensures.can))))),
    )

pub left-preserved : goal.left-preserved
left-preserved g t c =
    let forest = g.T.KeySiblings.forest in
    let set = c.args.by.now.set in
    let tree = c.args.by.now.tree in
    let l = c.left in
    let f = forest l.left in
    let first = seen c.in-Some.field-0 in
    let is = c.in-Some.ensures in
    let sizes = size_first f first is in
    let fewer = l.invariant.fewer in
    let place_is = l.invariant.place_is in
    let next_size = ap size c.next-left.ensures in
    let under = ap size c.below.ensures in
    let step = c.in_ok-next.ensures in
    let next_is = step.next in
    record {
      named = subst (AreNamed set.names.now) (sym c.next-left.ensures) (named_behind set.names.now f l.invariant.named);
      fewer = omega (arith, sizes, fewer, next_size);
      place_is = omega (arith, sizes, place_is, next_size, under, next_is);
      can = step.can;
      reached = element-in set.names.now set.parts.now set.identities.now tree (targets_along set.names.now set.parts.now set.identities.now c.args.place (forest c.args.siblings)) f first l.next c.in_ok-next.next (forest c.below.result) (forest c.next-left.result)
          c.args.records.now l.records c.put_element.new.records c.put_all.new.records is c.below.ensures c.next-left.ensures next_is l.invariant.reached
          (c.in_ok-put_element.ensures.grown first (below_first f) (behind_first f) (opened f first is)) step.grown;
    }

pub returns : goal.returns
returns g t c =
    let forest = g.T.KeySiblings.forest in
    let set = c.args.by.now.set in
    let tree = c.args.by.now.tree in
    let all = targets_along set.names.now set.parts.now set.identities.now c.args.place (forest c.args.siblings) in
    let none = ap size c.in_default.ensures in
    let place_is = c.left.invariant.place_is in
    record {
      can = c.left.invariant.can;
      next = omega (arith, none, place_is);
      grown = all-in tree all c.args.records.now c.left.records
          (reached-alike tree all _ _ c.args.records.now c.left.records (ap (targets_along set.names.now set.parts.now set.identities.now c.left.next) c.in_default.ensures) c.left.invariant.reached);
    }
