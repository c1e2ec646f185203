use Rattle.schema_compile.proofs.FitLaws.{compiled-fit}
use Rattle.schema_compile.proofs.laws.compiled_parts_are_fit.Goals as goal

pub returns : goal.returns
returns c =
    let closed = c.tables_are_closed.ensures in
    let types = c.compiled_types_are_simple.ensures in
    record { fit = compiled-fit closed.closed closed.there types.set c.simple_contents_are_read.ensures.read c.simple_types_are_simple_trees.ensures.simple types.shaped }
