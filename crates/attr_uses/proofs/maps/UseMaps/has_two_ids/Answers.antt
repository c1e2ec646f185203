use Rattle.std.proofs.Common.{◌≡◌, rules, ap, ◌∙◌}
use Rattle.attr_uses.specs.Nodes.{node_at, node_sum}
use Rattle.attr_uses.proofs.CallLaws.{two-told}
use Rattle.attr_uses.proofs.maps.UseMaps.has_two_ids.Goals as goal

pub returns : goal.returns
returns c =
    let same : c.deref.result.now ≡ c.args.self.now.nodes = search rules in
    record {
      two = λ has map. two-told c.args.self.now (rw (← c.self.view_is) c.self.invariant.1) c.args.map.top has map c.sum.result.two_ids
          (ap (λ s. s.two_ids) (c.sum.ensures ∙ ap node_sum (c.node_of.ensures ∙ ap (λ ns. node_at ns c.args.map.top) same)));
    }
