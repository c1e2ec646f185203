use Rattle.std.proofs.Common.{◌≡◌, rules, refl, ap, ◌∙◌}
use Rattle.attr_uses.specs.Nodes.{node_at, node_sum}
use Rattle.attr_uses.proofs.SumLaws.{told}
use Rattle.attr_uses.proofs.maps.UseMaps.has_double.Goals as goal

pub returns : goal.returns
returns c =
    let same : c.deref.result.now ≡ c.args.self.now.nodes = search rules in
    record {
      double = λ has map. told c.args.self.now.nodes (rw (← c.self.view_is) c.self.invariant.1) (λ e. e.double) (λ s. s.double) refl (λ e. refl) (λ a b. refl)
          c.args.self.now refl c.args.map.top has map c.sum.result.double (ap (λ s. s.double) (c.sum.ensures ∙ ap node_sum (c.node_of.ensures ∙ ap (λ ns. node_at ns c.args.map.top) same)));
    }
