use Rattle.std.proofs.Common.{◌≡◌, rules, subst, arith}
use Rattle.std.proofs.Math.Pow.{pow_mono}
use Rattle.attr_uses.specs.Nodes.{find}
use Rattle.attr_uses.specs.Maps.{ArePut}
use Rattle.attr_uses.proofs.NeededLaws.{whole-needed}
use Rattle.attr_uses.proofs.maps.UseMaps.needed.Goals as goal

pub needed_under-requires-clause-within : goal.needed_under-requires-clause-within
needed_under-requires-clause-within c = omega (arith, pow_mono c.self.invariant.0)

pub returns : goal.returns
returns c =
    let m = c.args.self.now in
    let same : c.deref.result.now ≡ m.nodes = search rules in
    let deep : c.self.inside.depth ≡ m.depth = search rules in
    let old = c.new-needed.result.items in
    let new = c.needed_under.new.needed.items in
    let put = subst (λ d. ArePut (find m.nodes d c.args.map.top) d 0 old new) deep
    (subst (λ ns. ArePut (find ns c.self.inside.depth c.args.map.top) c.self.inside.depth 0 old new) same c.in_ok-needed_under.ensures.put) in
    record { needed = λ has is. whole-needed m c.args.map.top has is old new c.new-needed.ensures.items put }
