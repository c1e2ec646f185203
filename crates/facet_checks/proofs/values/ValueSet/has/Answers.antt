use Rattle.std.proofs.Common.{◌≡◌, ◌<◌, [], length, arith, ap, ◌∙◌}
use Rattle.std.specs.Prelude.{◌%◌}
use Rattle.std.proofs.lemmas.List.{get_or_read}
use Rattle.facet_checks.specs.inside.Buckets.{value_number}
use Rattle.facet_checks.proofs.Buckets.{in_bucket}
use Rattle.facet_checks.proofs.values.ValueSet.has.Goals as goal

pub returns : goal.returns
returns c =
    let value = c.args.value.now in
    let buckets = c.self.inside.buckets.items in
    let at = c.bucket_of-at.result in
    let count : c.len.result ≡ length buckets = omega (arith, c.self.inside.buckets.ok.0) in
    let is : at ≡ value_number value % length buckets = c.bucket_of-at.ensures.bucket ∙ ap (λ n. value_number value % n) count in
    let there : at < length buckets = omega arith in
    let read = get_or_read buckets at c.index.result.now there c.index.ensures [] in
    let found = in_bucket c.self.inside.values buckets value at c.self.invariant is there in
    cc
