use Rattle.std.proofs.Common.{◌+◌, ◌^◌, ◌<◌, ◌≡◌, length, arith}
use Rattle.leaf_trees.proofs.FreeSlots.{grow_fits, grown_free}
use Rattle.leaf_trees.proofs.trees.Trees.grow.Goals as goal

pub overflow_add-self : goal.overflow_add-self
overflow_add-self c =
    let s = c.self.inside in
    record { fits = grow_fits s.nodes.items s.free s.spare c.self.invariant (omega (arith, c.if-len.false, c.len.ensures, s.nodes.ok.0)) }

pub invariant_of-self-2 : goal.invariant_of-self-2
invariant_of-self-2 c =
    let s = c.self.inside in
    let few : length s.nodes.items + 1 < 2 ^ 32 = omega (arith, c.if-len.false, c.len.ensures, s.nodes.ok.0) in
    let at_end : c.len-slot.result ≡ length s.nodes.items = omega (arith, c.len-slot.ensures, s.nodes.ok.0) in
    rw (c.in_ok-push.ensures.items, at_end) (grown_free s.nodes.items s.free s.spare c.free.result c.self.invariant few c.free.ensures)
