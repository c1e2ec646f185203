use Rattle.std.proofs.Common.{rules, ◌≡◌, length, refl, ap, arith}
use Rattle.path_walk.specs.Sight.{seen}
use Rattle.path_walk.specs.inside.Walk.{size}
use Rattle.forest_keys.proofs.Siblings.{size_first}
use Rattle.forest_keys.proofs.Parents.{parents-next, parents-end}
use Rattle.forest_keys.proofs.placing.+add_parents.Goals as goal

pub left-init : goal.left-init
left-init g t c = record {
  fewer = omega arith;
  few = c.requires.few;
  so_far = refl;
}

pub add_parents-requires : goal.add_parents-requires
add_parents-requires g t c κs within =
    let l = c.left in
    let f = g.T.KeySiblings.forest l.left in
    let sizes = size_first f (seen c.in-Some.field-0) c.in-Some.ensures in
    let fewer = l.invariant.fewer in
    let under = ap size c.below.ensures in
    let long = c.in_ok-push.ensures.len in
    let few = c.if-place.false in (
      omega (arith, c.decreases, sizes, fewer, under),
      (within, omega (arith, long, few)),
    )

pub left-preserved : goal.left-preserved
left-preserved g t c =
    let forest = g.T.KeySiblings.forest in
    let l = c.left in
    let f = forest l.left in
    let first = seen c.in-Some.field-0 in
    let is = c.in-Some.ensures in
    let sizes = size_first f first is in
    let fewer = l.invariant.fewer in
    let next_size = ap size c.next-left.ensures in
    let place : c.len-place.result ≡ length l.parents.items = search rules in
    record {
      fewer = omega (arith, sizes, fewer, next_size);
      few = c.in_ok-add_parents.ensures.few;
      so_far = parents-next f (forest c.below.result) (forest c.next-left.result) first c.args.parent c.len-place.result l.parents.items c.push.new.self.items c.add_parents.new.parents.items _ is c.below.ensures c.next-left.ensures place c.in_ok-push.ensures.items c.in_ok-add_parents.ensures.parents l.invariant.so_far;
    }

pub returns : goal.returns
returns g t c = record {
  few = c.left.invariant.few;
  parents = parents-end (g.T.KeySiblings.forest c.left.left) c.args.parent c.left.parents.items _ c.in_default.ensures c.left.invariant.so_far;
}
