use Rattle.std.proofs.Common.{ap, ◌∙◌}
use Rattle.std.specs.Option.{option_and_then}
use Rattle.doc_nodes.specs.Nodes.{Node}
use Rattle.doc_changes.proofs.Reading.{scope_below, scope_root, depth_below}
use Rattle.doc_changes.proofs.laws.scopes_go_down.Goals as goal

pub returns : goal.returns
returns c = record {
  below = λ t ns d p n s up. scope_below ns p n up (depth_below ns p n s.links up);
  root = λ t ns d it s there. let r = s.root it there in
      scope_root ns 1 (ap (option_and_then (λ (x : Node). x.parent)) there ∙ r.0);
}
