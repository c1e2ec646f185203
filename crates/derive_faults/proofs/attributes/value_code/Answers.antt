use Rattle.std.proofs.Common.{sym, subst}
use Rattle.xs_codes.specs.declared.code.Code.TheVariants.{APropsCorrect3}
use Rattle.derive_faults.specs.TypeFaults.{IsFirstCode}
use Rattle.derive_faults.proofs.FaultLaws.{when-first, both-first}
use Rattle.derive_faults.specs.Ids.{IsIdType}
use Rattle.derive_faults.specs.Attributes.{IsNotValid, IsOnId}
use Rattle.derive_faults.proofs.attributes.value_code.Goals as goal

pub returns-clause-first : goal.returns-clause-first
returns-clause-first c =
    let t = c.args.set.now.parts.now in
    let of = c.args.of.now in
    both-first (IsNotValid t of c.args.constraint.now) (IsOnId t of) c.in_ok-refused.refused c.when.result c.earlier.result c.earlier.ensures
    (c.in_ok-refused.ensures.first t c.requires.found.given.ranked c.requires.read.judged c.requires.whole)
    (subst (IsFirstCode (IsOnId t of)) (sym c.when.ensures) (when-first (IsIdType t of) c.is_id_type-of_id.result APropsCorrect3 c.is_id_type-of_id.ensures.id))
