use Rattle.std.proofs.Common.{None}
use Rattle.kept_targets.proofs.Counts.{assigns-all, assigns-next, assigns-none, drop-kept}
use Rattle.kept_targets.proofs.finding.drop_each.Goals as goal

pub loop-node-init : goal.loop-node-init
loop-node-init c = record {
  counting = c.requires.counting;
  drops = assigns-none (λ n. None) (λ n. None) c.args.keys.now;
}

pub loop-node-preserved : goal.loop-node-preserved
loop-node-preserved c =
    let first = c.args.keys.now in
    let old = c.loop-node.keys in
    let nodes = c.args.nodes.now in
    let i = c.loop-node.node-index in
    let within = c.loop-node-test.true in
    let moves = c.in_ok-set_parent.ensures.parent in
    let inv = c.loop-node.invariant in
    record {
      counting = drop-kept first old nodes i within inv.drops c.requires.none c.requires.whole c.set_parent.new.self moves inv.counting;
      drops = assigns-next (λ n. None) (λ n. None) first old (record old { counted = c.set_parent.new.self; signs = c.take.new.self }) nodes i within inv.drops moves c.take.ensures.change.here c.take.ensures.change.others;
    }

pub returns-clause-counting : goal.returns-clause-counting
returns-clause-counting c = c.loop-node.invariant.counting

pub returns-clause-drops : goal.returns-clause-drops
returns-clause-drops c = assigns-all (λ n. None) (λ n. None) c.args.keys.now c.loop-node.keys c.args.nodes.now c.loop-node.node-index c.loop-node-test.false c.loop-node.invariant.drops
