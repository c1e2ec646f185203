use Rattle.std.proofs.Common.{◌≡◌, true}
use Rattle.derive_faults.proofs.FaultLaws.{given-first}
use Rattle.derive_faults.specs.Extensions.{BreaksAny}
use Rattle.derive_faults.proofs.extensions.extension_code.Goals as goal

pub returns-then-part : goal.returns-then-part
returns-then-part c =
    record { first = given-first (c.args.part.now.by_extension ≡ true) (BreaksAny c.args.parts.now c.args.part.now) c.if-part.true c.first_code.result c.first_code.ensures.first }
