use Rattle.component_tables.proofs.bases.lines_of.Goals as goal

pub returns : goal.returns
returns c = record { lines = record { nexts = c.as_slice.result.now; are = c.in_ok-lines.ensures.lines } }
