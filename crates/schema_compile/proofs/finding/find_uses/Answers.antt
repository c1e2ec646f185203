use Rattle.schema_compile.proofs.PhaseLaws.{attr-uses}
use Rattle.schema_compile.proofs.finding.find_uses.Goals as goal

pub returns : goal.returns
returns c = record { uses = attr-uses c.args.set.now.parts c.in_ok-ids.ids _ c.as_slice.ensures c.in_ok-ids.ensures.marks c.of.result c.of.ensures.tables }
