use Rattle.std.proofs.Common.{[], sym, ap, ◌∙◌}
use Rattle.doc_tree.specs.declared.part.PartRow.{PartRow}
use Rattle.doc_tree.proofs.Grafting.{grafted}
use Rattle.doc_tree.proofs.Grafts.{holds, within, grafts}
use Rattle.doc_tree.proofs.InverseRows.{row_number}
use Rattle.doc_tree.proofs.change.put.Goals as goal

pub put_one-requires-clause-holds : goal.put_one-requires-clause-holds
put_one-requires-clause-holds c =
    let q = c.requires in (q.0, 1, q.2, [], holds q.0 c.args.links.now q.1 c.args.parent c.args.index q.2 q.3 q.5 c.args.part.now q.4)

pub put_one-requires-clause-within : goal.put_one-requires-clause-within
put_one-requires-clause-within c = let q = c.requires in within q.0 c.args.links.now q.1 c.args.parent c.args.index q.2 q.3 q.5

pub returns-clause-tree : goal.returns-clause-tree
returns-clause-tree c = λ t d f z are fits.
    let old = c.args.links.now in let new = c.put_one.new.links in let p = c.args.parent in let k = c.args.index in
    let planted = c.in_ok-put_one.ensures.planted t 1 f [] (holds t old d p k f z fits c.args.part.now are) in
    grafted t old new d p k f z fits (grafts t old d p k f z fits new planted) planted.sound

pub returns-clause-inverse : goal.returns-clause-inverse
returns-clause-inverse c = λ t d f are fits. ap (λ (r : PartRow). r.number) (sym c.index-part-0.is) ∙ (row_number t 1 c.args.part.now f [] c.index-part-0.result are fits.one c.index-part-0.is).0

pub returns-clause-nodes : goal.returns-clause-nodes
returns-clause-nodes c = λ t d f z are fits.
    let old = c.args.links.now in let new = c.put_one.new.links in let p = c.args.parent in let k = c.args.index in
    grafts t old d p k f z fits new (c.in_ok-put_one.ensures.planted t 1 f [] (holds t old d p k f z fits c.args.part.now are))

pub returns-clause-sound : goal.returns-clause-sound
returns-clause-sound c =
    let q = c.requires in (c.in_ok-put_one.ensures.planted q.0 1 q.2 [] (holds q.0 c.args.links.now q.1 c.args.parent c.args.index q.2 q.3 q.5 c.args.part.now q.4)).sound
