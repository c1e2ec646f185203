use Rattle.std.proofs.Common.{List, [], ◌∷◌, ◌++◌, sym, ap, ◌∙◌, subst}
use Rattle.tree_edits.specs.Sites.{node_of}
use Rattle.doc_tree.specs.declared.part.PartRow.{PartRow}
use Rattle.doc_tree.specs.Parts.{AreRows}
use Rattle.doc_tree.proofs.Seated.{is_at}
use Rattle.doc_tree.proofs.change.part_of.Goals as goal

pub read_row-requires : goal.read_row-requires
read_row-requires c = let q = c.requires in let a = is_at q.0 c.args.links.now q.1 c.args.node q.2 q.3 in (a.it, a.is)

pub read_below-requires-clause-over : goal.read_below-requires-clause-over
read_below-requires-clause-over c = let q = c.requires in let a = is_at q.0 c.args.links.now q.1 c.args.node q.2 q.3 in (q.0, a.below, a.over)

pub read_below-requires-clause-depth : goal.read_below-requires-clause-depth
read_below-requires-clause-depth c = let q = c.requires in (is_at q.0 c.args.links.now q.1 c.args.node q.2 q.3).deep

pub returns : goal.returns
returns c = λ t d z fits.
    let a = is_at t c.args.links.now d c.args.node z fits in
    let r = c.in_ok-read_below.ensures t a.below a.over in
    let first =
    ◌∙◌ {A = List PartRow} c.in_ok-push.ensures.items
    (◌∙◌ {A = List PartRow} (ap (λ (l : List PartRow). l ++ (c.in_ok-read_row.field-0 ∷ [])) c.new-rows.ensures.items) (ap (λ (x : PartRow). x ∷ []) (c.in_ok-read_row.ensures a.it a.is))) in
    subst (λ (rows : List PartRow). AreRows t 1 rows (node_of c.args.node d.forest) []) (sym (c.from_vec.ensures ∙ r.are ∙ ap (λ (l : List PartRow). l ++ r.more) first)) (a.rows r.more r.rows)
