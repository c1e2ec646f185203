use Rattle.std.proofs.Common.{◌≡◌, false}
use Rattle.derive_restriction.specs.Restrictions.{BreaksAny}
use Rattle.derive_restriction.proofs.RestrictionLaws.{given-in}
use Rattle.derive_restriction.proofs.restrictions.restriction_code.Goals as goal

pub returns-else-part-clause-first : goal.returns-else-part-clause-first
returns-else-part-clause-first c =
    given-in (c.args.part.now.by_extension ≡ false) (BreaksAny c.args.set.now.parts.now c.args.set.now.names.now c.args.id c.args.part.now) c.if-part.false c.first_code.result c.first_code.ensures.first
