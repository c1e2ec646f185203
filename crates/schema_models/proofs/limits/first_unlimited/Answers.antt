use Rattle.schema_models.proofs.LimitLaws.{limited-where}
use Rattle.schema_models.proofs.limits.first_unlimited.Goals as goal

pub returns-clause-limited : goal.returns-clause-limited
returns-clause-limited c = limited-where c.args.parts.now c.requires.ranked c.requires.contents c.first_marked.result c.first_marked.ensures
