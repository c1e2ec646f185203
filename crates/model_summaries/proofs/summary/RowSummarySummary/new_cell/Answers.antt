use Rattle.model_summaries.specs.Lawful.{maps_laws}
use Rattle.model_summaries.proofs.Keeping.{now-live}
use Rattle.model_summaries.proofs.summary.RowSummarySummary.new_cell.Goals as goal

pub returns-clause-made : goal.returns-clause-made
returns-clause-made c = now-live _ _ _ _ c.set_identity.ensures.row (maps_laws.unit_is _)
