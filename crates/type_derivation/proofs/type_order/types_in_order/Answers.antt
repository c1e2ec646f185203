use Rattle.std.proofs.Common.{◌+◌, ◌*◌, slice_index, rules}
use Rattle.std.proofs.lemmas.List.Sorted.{IsNonDecreasingBy-from_sort_by_key}
use Rattle.type_derivation.proofs.TypeOrderLaws.{in-order}
use Rattle.type_derivation.proofs.type_order.types_in_order.Goals as goal

pub returns : goal.returns
returns c =
    let ranks = c.args.ranks.now in
    in-order ranks c.in_ok-order.order.items c.sort_by_key.new.self.items _ c.requires.few c.in_ok-order.ensures c.in_ok-sort_by_key.ensures.permutation
    (IsNonDecreasingBy-from_sort_by_key (λ n. 4_294_967_296 * slice_index ranks n + n) _ c.in_ok-sort_by_key.ensures.sorted (λ a r q k. search rules))
