use Rattle.std.proofs.Common.{sym, ◌∙◌, subst}
use Rattle.tree_rows.specs.Whole.{IsTree}
use Rattle.doc_changes.specs.inside.Growing.{one_of}
use Rattle.plain_tree.specs.Found.{HasNames}
use Rattle.doc_changes.proofs.Rooting.{same_tree, one_root}
use Rattle.doc_changes.proofs.trees.nodes_of.Goals as goal

pub plant_root-requires : goal.plant_root-requires
plant_root-requires c =
    let s = c.in-Some.field-0 in let tree = c.in_ok-index.ensures.tree in
    let same = same_tree c.args.tree.now tree s.row.now s.children s.next (sym (c.top.ensures ∙ c.in_ok-index.ensures.index) ∙ c.in-Some.ensures) in
    subst (λ n. IsTree (record { forest = one_of s.row.now s.children; next_free = n })) (sym c.next_free.ensures.next) (subst IsTree same tree)

pub returns-clause-known : goal.returns-clause-known
returns-clause-known c = λ sound h.
    let s = c.in-Some.field-0 in
    let one = one_root c.args.tree.now c.in_ok-index.ensures.tree s.row.now s.children s.next (sym (c.top.ensures ∙ c.in_ok-index.ensures.index) ∙ c.in-Some.ensures) in
    c.plant_root.ensures.known sound (subst (HasNames c.args.names.now) one h)
