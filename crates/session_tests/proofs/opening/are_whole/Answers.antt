use Rattle.std.proofs.Common.{All, subst}
use Rattle.std.proofs.lemmas.List.{take_all}
use Rattle.std.proofs.lemmas.List.Elements.{All-more}
use Rattle.tree_rows.specs.Whole.{IsTree}
use Rattle.schema_set.specs.declared.inputs.SchemaInput.{SchemaInput}
use Rattle.session_tests.proofs.opening.are_whole.Goals as goal

abbrev IsWhole : SchemaInput → Type 0
IsWhole input = IsTree input.tree

pub loop-input-preserved : goal.loop-input-preserved
loop-input-preserved c =
    All-more IsWhole c.args.documents.now c.loop-input.input-index c.input-item.result c.loop-input-test.true c.loop-input.invariant
    (subst IsWhole c.input-item.is c.next_free-next.ensures.tree)

pub returns : goal.returns
returns c = subst (All IsWhole) (take_all c.loop-input.input-index c.args.documents.now c.loop-input-test.false) c.loop-input.invariant
