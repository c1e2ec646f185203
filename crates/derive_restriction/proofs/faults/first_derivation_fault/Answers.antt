use Rattle.schema_models.specs.SetModels.{AreContentsLimited}
use Rattle.derive_restriction.proofs.SumLaws.{none-of-two, least-derivation}
use Rattle.derive_restriction.proofs.faults.first_derivation_fault.Goals as goal

pub returns : goal.returns
returns c =
    let t = c.args.set.now.parts.now in
    let limited = AreContentsLimited t in
    record {
      least = least-derivation t c.args.set.now.names.now c.args.set.now.redefined.now c.first_extension-extension.result c.in_ok-comparison.comparison c.in_ok-placing.placing c.sooner.result c.sooner-2.result c.sooner.ensures.sooner
          c.sooner-2.ensures.sooner c.first_extension-extension.ensures.least c.in_ok-comparison.ensures.least c.in_ok-placing.ensures.least;
      limited = none-of-two limited c.first_extension-extension.result c.sooner.result c.sooner-2.result c.sooner-2.ensures.sooner
          (none-of-two limited c.in_ok-comparison.comparison c.in_ok-placing.placing c.sooner.result c.sooner.ensures.sooner c.in_ok-placing.ensures.limited);
      same = c.comparison_fault.ensures.same;
    }
