use Rattle.std.proofs.Common.{map, subst, rules}
use Rattle.std.specs.List.Sorted.{IsPermutation}
use Rattle.std.proofs.lemmas.List.Sorted.{IsNonDecreasingBy-from_sort_by_key, IsPermutation-map}
use Rattle.redefine_faults.proofs.numbered.Numbered.new.Goals as goal

pub invariant_of-result : goal.invariant_of-result
invariant_of-result c = IsNonDecreasingBy-from_sort_by_key (λ r. r.now.item) _ c.in_ok-sort_by_key.ensures.sorted (λ a r q k. search rules)

pub returns : goal.returns
returns c =
    subst (λ l. IsPermutation l (map (λ r. r.now) c.sort_by_key.new.self.items)) c.in_ok-sorted.ensures
    (IsPermutation-map (λ r. r.now) c.in_ok-sorted.sorted.items c.sort_by_key.new.self.items c.sort_by_key.ensures.permutation)
