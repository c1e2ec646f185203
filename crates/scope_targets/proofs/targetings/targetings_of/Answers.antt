use Rattle.std.proofs.Common.{◌≡◌, ◌≤◌, ◌+◌, ◌∷◌, drop, length, map, arith}
use Rattle.std.proofs.lemmas.List.{drop_all}
use Rattle.path_walk.specs.Sight.{seen}
use Rattle.scope_targets.specs.Found.{targeting_of}
use Rattle.scope_targets.proofs.Upwards.{left-more, named-first, named-above, ways-more, up-one, up-all}
use Rattle.scope_targets.proofs.targetings.targetings_of.Goals as goal

pub loop-scope-preserved : goal.loop-scope-preserved
loop-scope-preserved g c =
    let set = c.args.set.now in
    let l = c.loop-scope in
    let all = c.args.scopes.now in
    let s = c.scope-item.result in
    let left = drop l.scope-index all in
    let above = drop (l.scope-index + 1) all in
    let is : left ≡ s ∷ above = left-more all l.scope-index s c.loop-scope-test.true c.scope-item.is in
    record {
      ways = ways-more set.names.now l.way.items c.add_scope.new.way.items (seen s).name c.in_ok-add_scope.ensures.way (named-first set.names.now left above s is l.invariant.named) l.invariant.ways;
      named = named-above set.names.now left above s is l.invariant.named;
      so_far = λ own below next at.
          up-one set.names.now set.parts.now set.identities.now own below l.way.items c.add_scope.new.way.items left above s (map targeting_of l.found.items) _ _ is c.in_ok-add_scope.ensures.way
          (c.in_ok-add_scope.ensures.found own below next at) (l.invariant.so_far own below next at);
    }

pub returns : goal.returns
returns g c = λ own below next at.
    let set = c.args.set.now in
    let all = c.args.scopes.now in
    let l = c.loop-scope in
    let ended : length all ≤ l.scope-index = omega (arith, c.loop-scope-test.false) in
    up-all set.names.now set.parts.now set.identities.now own below l.way.items (drop l.scope-index all) (map targeting_of l.found.items) _ (drop_all l.scope-index all ended) (l.invariant.so_far own below next at)
