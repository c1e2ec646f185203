use Rattle.std.proofs.Common.{refl}
use Rattle.kept_targets.specs.Counting.{IsNoTarget}
use Rattle.kept_targets.proofs.Counts.{can-keep, counting-still, finds-all, finds-next, finds-none, no-target-goes}
use Rattle.kept_targets.proofs.finding.take_each.Goals as goal

pub loop-node-init : goal.loop-node-init
loop-node-init c = record {
  counting = c.requires;
  finds = finds-none IsNoTarget c.args.keys.now;
}

pub take_targets-requires : goal.take_targets-requires
take_targets-requires c = record { kept = can-keep c.loop-node.keys.counted c.loop-node.invariant.counting }

pub loop-node-preserved : goal.loop-node-preserved
loop-node-preserved c =
    let old = c.loop-node.keys in
    let taken = c.in_ok-take_targets.ensures in
    let inv = c.loop-node.invariant in
    record {
      counting = counting-still old.counted c.take_targets.new.self taken.taken.parents taken.kept inv.counting;
      finds = finds-next IsNoTarget no-target-goes c.args.keys.now old (record old { counted = c.take_targets.new.self }) c.args.nodes.now c.loop-node.node-index c.loop-node-test.true inv.finds
          taken.taken.here taken.taken.others taken.taken.parents refl taken.taken.references;
    }

pub returns-clause-counting : goal.returns-clause-counting
returns-clause-counting c = c.loop-node.invariant.counting

pub returns-clause-takes : goal.returns-clause-takes
returns-clause-takes c = finds-all IsNoTarget c.args.keys.now c.loop-node.keys c.args.nodes.now c.loop-node.node-index c.loop-node-test.false c.loop-node.invariant.finds
