use Rattle.std.proofs.Common.{◌≡◌, map, take}
use Rattle.tree_rows.specs.Forest.{Document}
use Rattle.what_is_found.specs.Identity.{seen}
use Rattle.doc_nodes.specs.Nodes.{Nodes}
use Rattle.kept_above.specs.from_kept_records.Found.{IsOver, found_in}
use Rattle.kept_keys.specs.Keys.{AreTargets, IsWhole, codes_at}
use Rattle.kept_keys.proofs.codes.codes_each.Given as goal

abbrev pub invariant-loop-node : goal.invariant-loop-node
invariant-loop-node l =
    (ns : Nodes) (d : Document) → IsWhole l.set ns l.kept → AreTargets l.set ns l.kept.records.slots l.keys → IsOver l.set ns l.kept.records.slots d
    → l.codes.items ≡ map (codes_at l.set (seen (found_in ns l.kept.records.slots d.forest))) (take l.node-index l.numbers)
