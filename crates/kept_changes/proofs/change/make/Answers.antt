use Rattle.std.proofs.Common.{ap, subst}
use Rattle.std.specs.Prelude.{OnOk}
use Rattle.xs_names.specs.Names.{NameTable}
use Rattle.tree_rows.specs.Forest.{Document}
use Rattle.doc_changes.specs.Stands.{StandsFor}
use Rattle.doc_edits.specs.Changes.{IsMade, changed}
use Rattle.kept_changes.proofs.change.make.Goals as goal

pub returns-clause-made : goal.returns-clause-made
returns-clause-made c =
    subst (λ (t : NameTable). OnOk c.make_change.result ((d : Document) → StandsFor c.args.set.now.names c.args.doc.now d → StandsFor t c.make_change.new.doc (changed t d c.args.change))) c.make_change.ensures.names
    c.make_change.ensures.made

pub returns-clause-nodes : goal.returns-clause-nodes
returns-clause-nodes c = subst (λ (t : NameTable). OnOk c.make_change.result (IsMade t c.args.doc.now c.make_change.new.doc c.args.change)) c.make_change.ensures.names c.make_change.ensures.nodes

pub returns-clause-same : goal.returns-clause-same
returns-clause-same c = ap (λ (t : NameTable). record c.args.set.now { names = t }) c.make_change.ensures.names
