use Rattle.schema_models.specs.SetModels.{AreContentsLimited}
use Rattle.derive_restriction.proofs.SumLaws.{none-of-two, least-placing}
use Rattle.derive_restriction.proofs.faults.placing_fault.Goals as goal

pub returns : goal.returns
returns c =
    let t = c.args.set.now.parts.now in
    record {
      least = least-placing t c.in_ok-excluded.excluded c.in_ok-unlimited.unlimited c.sooner.result c.sooner.ensures.sooner c.in_ok-excluded.ensures.least c.in_ok-unlimited.ensures.least;
      limited = none-of-two (AreContentsLimited t) c.in_ok-excluded.excluded c.in_ok-unlimited.unlimited c.sooner.result c.sooner.ensures.sooner c.in_ok-unlimited.ensures.limited;
    }
