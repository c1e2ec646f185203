use Rattle.std.proofs.Common.{rules, ◌≡◌, ◌-◌, [], ◌∷◌, ◌++◌, arith}
use Rattle.doc_nodes.proofs.Unrolling.{put_begun, some_left, within_hung, room_left, number_within, number_unused, put_next, put_ended}
use Rattle.doc_nodes.proofs.families.put_slots.Goals as goal

pub left-init : goal.left-init
left-init c = put_begun c.args.slots.now.slots c.args.slots.now.room c.args.parent c.args.depth c.args.children.items c.args.hung.now _ (search rules) c.requires.many c.requires.room

pub overflow_sub-n : goal.overflow_sub-n
overflow_sub-n c =
    let old = c.args.slots.now.slots in let now = c.left.slots.slots in let room = c.left.slots.room in let all = c.args.children.items in let hung = c.args.hung.now in let left = c.left.left.items in
    let rest = c.pop.new.self.items in let child = c.in-Some.child in let popped : left ≡ rest ++ child ∷ [] = search rules in
    let some = some_left old now room c.args.parent c.args.depth all hung left c.left.n c.left.invariant c.requires.many rest child popped in omega (arith, some)

pub bounds-hung-n : goal.bounds-hung-n
bounds-hung-n c =
    let old = c.args.slots.now.slots in let now = c.left.slots.slots in let room = c.left.slots.room in let all = c.args.children.items in let hung = c.args.hung.now in let left = c.left.left.items in
    let rest = c.pop.new.self.items in let child = c.in-Some.child in let popped : left ≡ rest ++ child ∷ [] = search rules in
    let some = some_left old now room c.args.parent c.args.depth all hung left c.left.n c.left.invariant c.requires.many rest child popped in let lt = within_hung old now room c.args.parent c.args.depth all hung left c.left.n c.left.invariant c.requires.many rest child popped in omega (arith, some, lt)

pub put-requires-clause-within : goal.put-requires-clause-within
put-requires-clause-within c =
    let old = c.args.slots.now.slots in let now = c.left.slots.slots in let room = c.left.slots.room in let all = c.args.children.items in let hung = c.args.hung.now in let left = c.left.left.items in
    let rest = c.pop.new.self.items in let child = c.in-Some.child in let popped : left ≡ rest ++ child ∷ [] = search rules in
    number_within old now room c.args.parent c.args.depth all hung left c.left.n c.left.invariant c.requires.many rest child popped c.requires.free c.requires.distinct

pub put-requires-clause-free : goal.put-requires-clause-free
put-requires-clause-free c =
    let old = c.args.slots.now.slots in let now = c.left.slots.slots in let room = c.left.slots.room in let all = c.args.children.items in let hung = c.args.hung.now in let left = c.left.left.items in
    let rest = c.pop.new.self.items in let child = c.in-Some.child in let popped : left ≡ rest ++ child ∷ [] = search rules in
    number_unused old now room c.args.parent c.args.depth all hung left c.left.n c.left.invariant c.requires.many rest child popped c.requires.free c.requires.distinct

pub put-requires-clause-room : goal.put-requires-clause-room
put-requires-clause-room c =
    let old = c.args.slots.now.slots in let now = c.left.slots.slots in let room = c.left.slots.room in let all = c.args.children.items in let hung = c.args.hung.now in let left = c.left.left.items in
    let rest = c.pop.new.self.items in let child = c.in-Some.child in let popped : left ≡ rest ++ child ∷ [] = search rules in
    room_left old now room c.args.parent c.args.depth all hung left c.left.n c.left.invariant c.requires.many rest child popped

pub left-preserved : goal.left-preserved
left-preserved c =
    let old = c.args.slots.now.slots in let now = c.left.slots.slots in let room = c.left.slots.room in let all = c.args.children.items in let hung = c.args.hung.now in let left = c.left.left.items in
    let rest = c.pop.new.self.items in let child = c.in-Some.child in let popped : left ≡ rest ++ child ∷ [] = search rules in
    let some = some_left old now room c.args.parent c.args.depth all hung left c.left.n c.left.invariant c.requires.many rest child popped in
    put_next old now room c.args.parent c.args.depth all hung left c.left.n c.left.invariant c.requires.many rest child popped
    c.put.new.self.slots c.put.new.self.room (c.left.n - 1) c.index-hung-n.result c.index-hung-n.result (omega (arith, some)) c.index-hung-n.is c.put.ensures.change c.put.ensures.room

pub returns : goal.returns
returns c =
    let empty : c.left.left.items ≡ [] = search rules in
    put_ended c.args.slots.now.slots c.left.slots.slots c.left.slots.room c.args.parent c.args.depth c.args.children.items c.args.hung.now c.left.left.items c.left.n c.left.invariant empty
