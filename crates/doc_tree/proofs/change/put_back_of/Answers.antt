use Rattle.std.proofs.Common.{sym, ◌∙◌}
use Rattle.std.proofs.lemmas.Option.{same_Some, none-some}
use Rattle.tree_edits.specs.Sites.{site_of}
use Rattle.doc_tree.proofs.Seated.{is_at}
use Rattle.doc_tree.proofs.change.put_back_of.Goals as goal

pub unreachable-requires : goal.unreachable-requires
unreachable-requires c =
    let q = c.requires in let a = is_at q.0 c.args.links.now q.1 c.args.node q.2 q.3 in
    none-some (site_of c.args.node q.1.forest).parent (sym c.in-None.is ∙ c.parent.ensures.parent ∙ a.parent)

pub unreachable-requires-in-None-place : goal.unreachable-requires-in-None-place
unreachable-requires-in-None-place c =
    let q = c.requires in let a = is_at q.0 c.args.links.now q.1 c.args.node q.2 q.3 in let s = site_of c.args.node q.1.forest in
    none-some s.place (sym c.in-None-place.is ∙ c.place.ensures.place s.parent s.place a.child)

pub returns : goal.returns
returns c = λ t d z fits.
    let a = is_at t c.args.links.now d c.args.node z fits in let s = site_of c.args.node d.forest in (
      same_Some c.in-Some.parent s.parent (sym c.in-Some.is ∙ c.parent.ensures.parent ∙ a.parent),
      same_Some c.in-Some-place.index s.place (sym c.in-Some-place.is ∙ c.place.ensures.place s.parent s.place a.child),
      c.in_ok-part.ensures t d z fits,
    )
