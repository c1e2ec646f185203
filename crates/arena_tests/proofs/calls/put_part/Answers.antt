use Rattle.std.proofs.Common.{sym, subst}
use Rattle.tree_rows.specs.Forest.{Forest}
use Rattle.doc_nodes.specs.Nodes.{Nodes}
use Rattle.doc_changes.specs.Stands.{StandsFor}
use Rattle.doc_changes.proofs.Inserting.{stands_grown}
use Rattle.tree_edits.specs.Tests.{with_nodes}
use Rattle.tree_edits.specs.declared.edit.Edit.TheVariants as edits
use Rattle.arena_tests.proofs.Fitting.{stands_by}
use Rattle.arena_tests.proofs.calls.put_part.Goals as goal

pub returns-in-Ok-clause-made : goal.returns-in-Ok-clause-made
returns-in-Ok-clause-made g c =
    let q = c.requires in let t = c.insert.new.names in let ns = c.insert.new.self in
    stands_by t ns q.0 c.args.tree.now (edits.Insert c.args.parent c.args.index c.args.items.now) q.2
    (subst (λ (f : Forest). StandsFor t ns (with_nodes q.0 c.args.parent c.args.index f)) (c.in_ok-part.ensures q.0 q.1) (c.in-Ok.ensures.tree q.0 q.1))

pub returns-clause-kept : goal.returns-clause-kept
returns-clause-kept g c = λ d z.
    subst (λ (ns : Nodes). StandsFor c.insert.new.names ns d) (sym c.in-Err.ensures.err)
    (stands_grown c.args.names.now c.insert.new.names c.args.doc.now d c.insert.ensures.grown c.insert.ensures.names z)
