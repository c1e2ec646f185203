use Rattle.std.proofs.Common.{◌≡◌, ◌<◌, false, length, get_or, ap, arith, vec_capacity}
use Rattle.xs_regex.specs.Listed.{flagged}
use Rattle.xs_regex.proofs.SetLaws.{flagged_below, listed_push, at_false}
use Rattle.xs_regex.proofs.set.PositionSet.insert.Goals as goal

pub push_reserved-requires : goal.push_reserved-requires
push_reserved-requires c =
    let flags = c.self.inside.flags.items in
    let free : get_or flags c.args.p false ≡ false = at_false flags c.args.p c.index.result.now c.index.ensures c.if-not-index.true in
    let size : length flags ≡ length c.args.self.now = ap length c.self.view_is in
    let l : flagged flags < length flags = flagged_below flags c.args.p (omega (arith, c.requires, size)) free in
    let count = c.self.invariant.count in
    let len = c.self.inside.members.ok.0 in
    let room = c.self.invariant.room in
    omega (arith, l, count, len, room)

pub invariant_of-self : goal.invariant_of-self
invariant_of-self c =
    let flags = c.self.inside.flags.items in
    let free : get_or flags c.args.p false ≡ false = at_false flags c.args.p c.index.result.now c.index.ensures c.if-not-index.true in
    let size : length flags ≡ length c.args.self.now = ap length c.self.view_is in
    listed_push flags c.self.inside.members.items c.push_reserved.new.self.items (vec_capacity c.self.inside.members) (vec_capacity c.push_reserved.new.self) c.args.p
    c.self.invariant (omega (arith, c.requires, size)) free c.push_reserved.ensures.items c.push_reserved.ensures.capacity
