use Rattle.std.proofs.Common.{ℕ, List, subst}
use Rattle.doc_changes.specs.Stands.{StandsFor}
use Rattle.tree_edits.specs.Tests.{made}
use Rattle.tree_edits.specs.declared.edit.Edit.TheVariants as edits
use Rattle.arena_tests.proofs.Fitting.{stands_by}
use Rattle.arena_tests.proofs.calls.write_text.Goals as goal

pub returns-clause-made : goal.returns-clause-made
returns-clause-made g c =
    let q = c.requires in let t = c.args.names.now in let ns = c.set_text.new.self in
    stands_by t ns q.0 c.args.tree.now (edits.SetText c.args.node c.args.text.now) q.2
    (subst (λ (x : List ℕ). StandsFor t ns (made q.0 (edits.SetText c.args.node x))) c.in_ok-text.ensures (c.set_text.ensures.tree t q.0 q.1))
