use Rattle.std.proofs.Common.{◌≡◌, take}
use Rattle.xs_positions.specs.Nodes.{trees_of}
use Rattle.xs_positions.proofs.expr.Expr.try_clone.Given as goal

-- the copies so far
abbrev pub invariant-loop-node : goal.invariant-loop-node
invariant-loop-node l = l.copy ≡ trees_of (take l.node-index l.nodes)
