use Rattle.std.proofs.Common.{◌<◌, ◌-◌, ◌^◌, length, None, arith}
use Rattle.child_trees.proofs.Chains.{linked_push}
use Rattle.child_trees.proofs.tops.Tops.grow.Goals as goal

pub invariant_of-self-2 : goal.invariant_of-self-2
invariant_of-self-2 c =
    let s = c.self.inside in
    let room : length s.slots.items < 2 ^ 32 - 1 = omega (arith, c.if-len.false, c.len.ensures, s.slots.ok.0) in
    rw c.in_ok-push.ensures.items (linked_push s.slots.items s.free c.self.invariant None room)
