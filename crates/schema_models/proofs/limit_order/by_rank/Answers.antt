use Rattle.std.proofs.Common.{slice_index, rules}
use Rattle.std.proofs.lemmas.List.Sorted.{IsNonDecreasingBy-from_sort_by_key}
use Rattle.schema_models.proofs.MarkLaws.{by-rank}
use Rattle.schema_models.proofs.limit_order.by_rank.Goals as goal

pub returns : goal.returns
returns c =
    by-rank c.args.parts.now c.in_ok-order.order.items c.sort_by_key.new.self.items c.in_ok-order.ensures.count c.in_ok-order.ensures.counted c.sort_by_key.ensures.permutation
    (IsNonDecreasingBy-from_sort_by_key (slice_index c.args.parts.now.particles.ranks) _ c.in_ok-sort_by_key.ensures.sorted (λ a r q k. search rules))
