use Rattle.std.proofs.Common.{◌≡◌, ◌^◌, ◌<◌, length, sym, subst, rules}
use Rattle.std.specs.Prelude.{All}
use Rattle.std.specs.List.Sorted.{IsPermutation, IsNonDecreasingBy}
use Rattle.std.proofs.lemmas.List.Sorted.{IsNonDecreasingBy-from_sort_by_key, length_permutation}
use Rattle.reference_faults.specs.Limit.{component_places}
use Rattle.reference_faults.specs.declared.limit.TheConstants.{MAX_COMPONENTS}
use Rattle.reference_faults.proofs.LimitLaws.{place_key, limit-place}
use Rattle.reference_faults.proofs.limit.past_limit.Goals as goal

pub returns : goal.returns
returns c =
    let found = c.in_ok-places.places.items in
    let sorted = c.sort_by_key.new.self.items in
    let all : All (λ at. at.item < 2 ^ 32) found = c.in_ok-places.ensures.within in
    let perm : IsPermutation found sorted = c.sort_by_key.ensures.permutation in
    let up : IsNonDecreasingBy place_key sorted = IsNonDecreasingBy-from_sort_by_key place_key _ c.in_ok-sort_by_key.ensures.sorted (λ a r q k. search rules) in
    let same : found ≡ component_places c.args.reps.now = c.in_ok-places.ensures.places in
    let long : MAX_COMPONENTS < length sorted = (let k : MAX_COMPONENTS < length found = search rules in subst (λ n. MAX_COMPONENTS < n) (sym (length_permutation found sorted perm)) k) in
    record {
      limit = limit-place (component_places c.args.reps.now) sorted (subst (λ ps. IsPermutation ps sorted) same perm) up (subst (All (λ at. at.item < 2 ^ 32)) same all) c.index.result.now long c.index.ensures;
    }
