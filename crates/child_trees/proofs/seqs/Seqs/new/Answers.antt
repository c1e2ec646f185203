use Rattle.std.proofs.Common.{ap}
use Rattle.child_trees.specs.Cells.{map_at}
use Rattle.child_trees.specs.Kept.{lists_of}
use Rattle.child_trees.proofs.Viewing.{kept_none, none_used}
use Rattle.child_trees.proofs.seqs.Seqs.new.Goals as goal

pub invariant_of-result : goal.invariant_of-result
invariant_of-result g c =
    let M = g.M.Summary in let nodes = ap (λ s. s.nodes) c.new-2.ensures in let spare = ap (λ s. s.spare) c.new-2.ensures in
    record {
      lists = kept_none M.unit M.join c.new.result c.new-2.result.nodes c.new-3.result nodes c.new-3.ensures;
      slots = none_used (map_at M.unit c.new.result) c.new-2.result.nodes c.new-3.result c.new-2.result.spare nodes spare c.new-3.ensures;
    }

pub returns : goal.returns
returns g c = let M = g.M.Summary in λ i. record { shape = (c.new.ensures i).shape; lists = lists_of (map_at M.unit (c.new.ensures i)) (c.new-2.ensures i).nodes (c.new-3.ensures i) }
