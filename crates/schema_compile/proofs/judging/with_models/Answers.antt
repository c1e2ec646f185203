use Rattle.std.proofs.Common.{refl, subst}
use Rattle.schema_compile.specs.inside.Finding.{AreModelsOf}
use Rattle.schema_compile.proofs.PhaseLaws.{broken-model}
use Rattle.schema_compile.proofs.judging.with_models.Goals as goal

pub with_restrictions-requires : goal.with_restrictions-requires
with_restrictions-requires c =
    let made = c.args.set.now in
    record {
      fit = c.requires.fit;
      found = c.requires.found;
      there = c.requires.there;
      none = c.requires.none;
      models = subst (AreModelsOf made c.args.found) c.in-Ok.is c.in_ok-models.ensures.models;
    }

pub returns-in-Ok : goal.returns-in-Ok
returns-in-Ok c = record { judged = c.with_restrictions.ensures.judged; same = c.with_restrictions.ensures.same }

pub returns-in-Err : goal.returns-in-Err
returns-in-Err c =
    let made = c.args.set.now in
    record {
      judged = broken-model made c.args.found c.requires.found c.requires.none c.in-Err.fault (subst (AreModelsOf made c.args.found) c.in-Err.is c.in_ok-models.ensures.models);
      same = refl;
    }
