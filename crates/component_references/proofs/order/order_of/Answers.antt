use Rattle.std.proofs.Common.{rules, slice_index}
use Rattle.std.proofs.lemmas.List.Sorted.{IsNonDecreasingBy-from_sort_by_key}
use Rattle.component_references.proofs.OrderLaws.{order-sorted}
use Rattle.component_references.proofs.order.order_of.Goals as goal

pub returns : goal.returns
returns c = record {
  order = order-sorted c.args.ranks.now c.in_ok-order.order.items _ _ c.in_ok-order.ensures c.in_ok-sort_by_key.ensures.permutation
      (IsNonDecreasingBy-from_sort_by_key (slice_index c.args.ranks.now) _ c.in_ok-sort_by_key.ensures.sorted (λ a r q k. search rules));
}
