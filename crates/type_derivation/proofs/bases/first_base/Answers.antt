use Rattle.std.proofs.Common.{subst}
use Rattle.xs_codes.specs.Least.{IsLeast}
use Rattle.type_derivation.specs.inside.Kinds.{IsFaultIn}
use Rattle.type_derivation.proofs.FaultLaws.{wrong-bases}
use Rattle.type_derivation.proofs.bases.first_base.Goals as goal

pub returns : goal.returns
returns c =
    let table = c.in_ok-known.known.items in
    let of_slice : IsLeast (IsFaultIn c.complexes.result.now table) c.first_of.result = subst (λ l. IsLeast (IsFaultIn c.complexes.result.now l) c.first_of.result) c.as_slice.ensures.value c.first_of.ensures.least in
    record {
      least = wrong-bases c.args.parts.now table (λ x kind. (c.in_ok-known.ensures.exact x kind).0) (λ x kind. (c.in_ok-known.ensures.exact x kind).1) c.first_of.result
          (subst (λ l. IsLeast (IsFaultIn l table) c.first_of.result) c.complexes.ensures.parts of_slice);
    }
