use Rattle.std.proofs.Common.{refl}
use Rattle.derive_faults.proofs.FaultLaws.{coded-least}
use Rattle.derive_restriction.specs.Restrictions.{Breaks}
use Rattle.derive_restriction.proofs.restrictions.fault_of.Goals as goal

pub returns : goal.returns
returns c =
    let t = c.args.set.now.parts.now in
    record {
      least = coded-least 7 t (Breaks t c.args.set.now.names.now) refl c.args.id c.complex-part.result.now c.complex-part.ensures.part c.in_ok-code.code c.coded.result c.coded.ensures c.in_ok-code.ensures.first;
      same = c.restriction_code.ensures.same;
    }
