use Rattle.model_summaries.specs.Lawful.{maps_laws}
use Rattle.model_summaries.proofs.Keeping.{now-live}
use Rattle.model_summaries.proofs.summary.RowSummarySummary.set_unit.Goals as goal

pub returns-clause-live : goal.returns-clause-live
returns-clause-live c = now-live _ _ _ _ c.set_identity.ensures.row (maps_laws.unit_is _)
