use Rattle.std.proofs.Common.{◌≡◌, true, false, rules}
use Rattle.schema_models.specs.inside.Marks.{marked}
use Rattle.schema_models.proofs.FaultLaws.{stands, not-standing}
use Rattle.schema_models.proofs.limits.first_in.Goals as goal

pub returns-then-not-marks-number : goal.returns-then-not-marks-number
returns-then-not-marks-number c =
    let told : marked c.args.marks.now c.args.p ≡ false = search rules in
    not-standing c.args.parts.now c.args.marks.now c.requires.marks c.args.p c.repeated_empty.result told c.repeated_empty.ensures

pub returns : goal.returns
returns c =
    let told : marked c.args.marks.now c.args.p ≡ true = search rules in
    stands c.args.parts.now c.args.marks.now c.requires.marks c.args.p c.first_at.result told c.first_at.ensures
