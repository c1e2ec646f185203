use Rattle.std.proofs.Common.{◌≡◌, ◌++◌, ◌∷◌, [], ℕ, List, map, refl, sym, ap, ◌∙◌, subst, arith, rules, append_assoc, append-nil}
use Rattle.identity_constraints.specs.Seen.{KeyForest}
use Rattle.path_walk.specs.Outcomes.{outcome_of}
use Rattle.path_walk.specs.Sight.{AreNamed, below_first, behind_first, seen}
use Rattle.path_walk.specs.inside.Walk.{size}
use Rattle.path_walk.specs.inside.Extended.{outcome_here, outcome_if, outcomes_along}
use Rattle.path_walk.proofs.Walking.{opened, walk_first, walk_none, way_back, way_down, way_all, named_first, named_below, named_behind, size_first}
use Rattle.path_walk.proofs.targets.+add_targets.Goals as goal

pub left-init : goal.left-init
left-init g t c = record {
  named = c.requires.named;
  way = refl;
  depth = search rules;
  fewer = omega arith;
  found = refl;
}

pub add_target-requires-clause-way : goal.add_target-requires-clause-way
add_target-requires-clause-way g t c =
    let names = c.args.set.now.names.now in
    let l = c.left in
    let own = seen c.in-Some.own in
    way_all names c.args.way.now.items l.way.items c.as_slice.result.now own.name l.invariant.way (c.as_slice.ensures.value ∙ c.in_ok-push.ensures.items) c.requires.way (named_first names (g.T.KeySiblings.forest l.left) own c.in-Some.ensures l.invariant.named).name

pub add_target-requires-clause-named : goal.add_target-requires-clause-named
add_target-requires-clause-named g t c = c.left.invariant.named

pub add_targets-requires : goal.add_targets-requires
add_targets-requires g t c κs within =
    let names = c.args.set.now.names.now in
    let l = c.left in
    let f = g.T.KeySiblings.forest l.left in
    let own = seen c.in-Some.own in
    let sizes = size_first f own c.in-Some.ensures in
    let fewer = l.invariant.fewer in
    let under = ap size c.below.ensures in (
      omega (arith, c.decreases, sizes, fewer, under),
      (within, (c.requires.contents, (way_all names c.args.way.now.items l.way.items c.push.new.self.items own.name l.invariant.way c.in_ok-push.ensures.items c.requires.way (named_first names f own c.in-Some.ensures l.invariant.named).name, subst (AreNamed names) (sym c.below.ensures) (named_below names f l.invariant.named)))),
    )

pub left-preserved : goal.left-preserved
left-preserved g t c =
    let forest = g.T.KeySiblings.forest in
    let l = c.left in
    let own = seen c.in-Some.own in
    let f = forest l.left in
    let names = c.args.set.now.names.now in
    let parts = c.args.set.now.parts.now in
    let paths = c.args.paths.now in
    let first = c.args.way.now.items in
    let is = c.in-Some.ensures in
    let down = first ++ own.name ∷ [] in
    let old = map outcome_of l.found.items in
    let here = outcome_here names parts paths down own (below_first f) in
    let under = outcomes_along names parts paths down (below_first f) in
    let sizes = size_first f own is in
    let fewer = l.invariant.fewer in
    let next_size = ap size c.next-left.ensures in
    let pushed = c.in_ok-push.ensures.items in
    let led : c.push.new.self.items ≡ down = way_down first l.way.items c.push.new.self.items own.name l.invariant.way pushed in
    let added : map outcome_of c.add_targets.new.found.items ≡ (old ++ here) ++ under =
    c.in_ok-add_targets.ensures.found
    ∙ ap (λ xs. xs ++ outcomes_along names parts paths c.push.new.self.items (forest c.below.result)) (c.in_ok-add_target.ensures own (below_first f) (behind_first f) (opened f own is))
    ∙ ap (λ (w : List ℕ). (old ++ outcome_here names parts paths w own (below_first f)) ++ outcomes_along names parts paths c.push.new.self.items (forest c.below.result)) (c.as_slice.ensures.value ∙ led)
    ∙ ap (λ (w : List ℕ). (old ++ here) ++ outcomes_along names parts paths w (forest c.below.result)) led
    ∙ ap (λ (x : KeyForest). (old ++ here) ++ outcomes_along names parts paths down x) c.below.ensures in
    let rest = outcomes_along names parts paths first (behind_first f) in
    record {
      named = subst (AreNamed names) (sym c.next-left.ensures) (named_behind names f l.invariant.named);
      way = way_back first l.way.items c.push.new.self.items c.add_targets.new.way.items c.truncate.new.self.items own.name c.len-depth.result l.invariant.way pushed c.in_ok-add_targets.ensures.way l.invariant.depth c.truncate.ensures.items;
      depth = l.invariant.depth;
      fewer = omega (arith, sizes, fewer, next_size);
      found =
          l.invariant.found ∙ ap (λ xs. old ++ xs) (walk_first (outcome_if names parts paths) first f own is ∙ sym (append_assoc here under rest))
          ∙ sym (append_assoc old (here ++ under) rest) ∙ ap (λ xs. xs ++ rest) (sym (append_assoc old here under) ∙ sym added)
          ∙ ap (λ (x : KeyForest). map outcome_of c.add_targets.new.found.items ++ outcomes_along names parts paths first x) (sym c.next-left.ensures);
    }

pub returns-clause-way : goal.returns-clause-way
returns-clause-way g t c = c.left.invariant.way

pub returns-clause-found : goal.returns-clause-found
returns-clause-found g t c =
    let names = c.args.set.now.names.now in
    let parts = c.args.set.now.parts.now in
    let old = map outcome_of c.left.found.items in
    sym (c.left.invariant.found ∙ ap (λ xs. old ++ xs) (walk_none (outcome_if names parts c.args.paths.now) c.args.way.now.items (g.T.KeySiblings.forest c.left.left) c.in_default.ensures) ∙ append-nil old)
