use Rattle.std.proofs.Common.{vec_capacity}
use Rattle.xs_regex.proofs.SetLaws.{listed_new}
use Rattle.xs_regex.proofs.set.PositionSet.new.Goals as goal

pub invariant_of-result : goal.invariant_of-result
invariant_of-result c =
    listed_new c.in_ok-vec.field-0.items c.in_ok-with_capacity.field-0.items (vec_capacity c.in_ok-with_capacity.field-0) c.args.count
    (c.in_ok-vec.ensures.items_if_clones_equal (λ y e. e)) c.in_ok-with_capacity.ensures.items c.in_ok-with_capacity.ensures.capacity
