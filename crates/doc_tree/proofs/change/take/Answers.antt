use Rattle.std.proofs.Common.{sym, ◌∙◌}
use Rattle.std.proofs.lemmas.Option.{none-some}
use Rattle.tree_edits.specs.Sites.{site_of}
use Rattle.doc_tree.proofs.Seated.{is_at}
use Rattle.doc_tree.proofs.change.take.Goals as goal

pub remove_node-requires-clause-node : goal.remove_node-requires-clause-node
remove_node-requires-clause-node c = λ gone.
    let q = c.requires in let a = is_at q.0 c.args.links.now q.1 c.args.node q.2 q.3 in none-some (site_of c.args.node q.1.forest).parent (sym gone ∙ a.parent)
