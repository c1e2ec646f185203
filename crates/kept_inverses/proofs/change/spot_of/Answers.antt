use Rattle.std.proofs.Common.{subst}
use Rattle.doc_tree.specs.Changes.{Means}
use Rattle.doc_tree.specs.declared.change.Change.{Change}
use Rattle.kept_changes.proofs.Under.{text-below}
use Rattle.kept_inverses.proofs.Following.{put-row, take-fits, take-below, reword-kind}
use Rattle.kept_inverses.proofs.change.spot_of.Goals as goal

pub returned-requires : goal.returned-requires
returned-requires c =
    let q = c.requires in
    put-row q.0 c.args.doc.now q.1 q.3 q.2 c.in-PutBack.parent c.in-PutBack.index c.in-PutBack.part (subst (λ (x : Change). Means q.0 x q.2) c.in-PutBack.is q.4) q.5

pub removal-requires : goal.removal-requires
removal-requires c =
    let q = c.requires in
    take-below q.0 c.args.doc.now q.1 q.3 c.in-Take.node (take-fits q.0 c.args.doc.now q.1 q.3 q.2 c.in-Take.node (subst (λ (x : Change). Means q.0 x q.2) c.in-Take.is q.4) q.5)

pub owner_of-requires : goal.owner_of-requires
owner_of-requires c =
    let q = c.requires in
    text-below q.0 c.args.doc.now q.1 q.3 c.in-Chars.node
    (reword-kind q.0 c.args.doc.now q.1 q.3 q.2 c.in-Chars.node c.in-Chars.text (subst (λ (x : Change). Means q.0 x q.2) c.in-Chars.is q.4) q.5)
