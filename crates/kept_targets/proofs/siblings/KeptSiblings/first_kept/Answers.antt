use Rattle.std.proofs.Common.{sym}
use Rattle.kept_targets.specs.Seen.{elements_under}
use Rattle.kept_targets.proofs.Firsts.{no-first, not-kept}
use Rattle.kept_targets.proofs.siblings.KeptSiblings.first_kept.Goals as goal

pub returns-in_default : goal.returns-in_default
returns-in_default c =
    let s = c.args.self.now in
    no-first s.records.now.slots s.doc.now s.levels (elements_under s.doc.now s.parent) s.place (sym c.in_default.ensures.node)

pub returns-in-None : goal.returns-in-None
returns-in-None c =
    let s = c.args.self.now in
    not-kept s.records.now.slots s.doc.now s.levels (elements_under s.doc.now s.parent) s.place c.in-Some.node (sym c.in-Some.ensures.node) (sym c.in-None.ensures)
