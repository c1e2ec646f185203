use Rattle.std.proofs.Common.{◌≡◌, rules, subst}
use Rattle.attr_uses.specs.Nodes.{find}
use Rattle.attr_uses.specs.Maps.{IsNextUnlike}
use Rattle.attr_uses.proofs.UnlikeLaws.{unlike-of}
use Rattle.attr_uses.proofs.maps.UseMaps.next_unlike.Goals as goal

pub returns : goal.returns
returns c =
    let m = c.args.self.now in
    let same : c.deref.result.now ≡ m.nodes = search rules in
    let deep : c.self.inside.depth ≡ m.depth = search rules in
    let found = subst (λ d. IsNextUnlike d (find m.nodes d c.args.one.top) (find m.nodes d c.args.other.top) c.args.from c.unlike_under.result) deep
    (subst (λ ns. IsNextUnlike c.self.inside.depth (find ns c.self.inside.depth c.args.one.top) (find ns c.self.inside.depth c.args.other.top) c.args.from c.unlike_under.result) same c.unlike_under.ensures.next) in
    record {
      next = λ has also one other. unlike-of m.depth (find m.nodes m.depth c.args.one.top) (find m.nodes m.depth c.args.other.top) has also one.finds other.finds c.args.from c.unlike_under.result found;
    }
