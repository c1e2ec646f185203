use Rattle.std.proofs.Common.{sym, subst}
use Rattle.map_rows.specs.Rows.{RowMap}
use Rattle.model_summaries.specs.Maps.{IsMap, leaf_of}
use Rattle.model_summaries.specs.Lawful.{leaf_maps}
use Rattle.model_summaries.proofs.Keeping.{now-live}
use Rattle.model_summaries.proofs.summary.RowSummarySummary.set_leaf.Goals as goal

pub returns-clause-live : goal.returns-clause-live
returns-clause-live g c =
    now-live _ _ _ _ c.leaf_row.ensures.row
    (subst (λ (v : RowMap). IsMap v.width (leaf_of c.args.source.now c.args.letter)) (sym c.self.view_is) (leaf_maps c.args.self.now.width c.args.source.now c.args.letter c.requires.fits))
