use Rattle.std.proofs.Common.{ℕ, List, subst}
use Rattle.doc_changes.specs.Stands.{StandsFor}
use Rattle.tree_edits.specs.Tests.{made}
use Rattle.tree_edits.specs.declared.edit.Edit.TheVariants as edits
use Rattle.arena_tests.proofs.Fitting.{stands_by}
use Rattle.arena_tests.proofs.calls.put_text.Goals as goal

pub returns-in-Ok-clause-made : goal.returns-in-Ok-clause-made
returns-in-Ok-clause-made c =
    let q = c.requires in let t = c.args.names.now in let ns = c.add_text.new.self in
    stands_by t ns q.0 c.args.tree.now (edits.AddText c.args.parent c.args.index c.args.text.now) q.2
    (subst (λ (x : List ℕ). StandsFor t ns (made q.0 (edits.AddText c.args.parent c.args.index x))) c.in_ok-text.ensures (c.in-Ok.ensures.tree t q.0 q.1))
