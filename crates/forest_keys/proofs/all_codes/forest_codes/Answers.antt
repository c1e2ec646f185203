use Rattle.std.proofs.Common.{length, None, ap, ◌∙◌, arith}
use Rattle.forest_keys.proofs.Places.{parents-length}
use Rattle.forest_keys.proofs.all_codes.forest_codes.Goals as goal

pub codes_by-requires-clause-parents : goal.codes_by-requires-clause-parents
codes_by-requires-clause-parents g c = c.as_slice.ensures.value ∙ c.in_ok-parents.ensures.parents

pub codes_by-requires-clause-few : goal.codes_by-requires-clause-few
codes_by-requires-clause-few g c =
    let long = ap length c.in_ok-parents.ensures.parents in
    let size_is = parents-length 0 None (g.T.KeySiblings.forest c.args.siblings) in
    let few = c.in_ok-parents.ensures.few in
    omega (arith, long, size_is, few)
