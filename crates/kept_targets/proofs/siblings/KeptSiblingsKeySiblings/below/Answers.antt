use Rattle.std.proofs.Common.{sym, ap}
use Rattle.path_walk.specs.Sight.{below_first}
use Rattle.kept_targets.specs.Seen.{elements_under}
use Rattle.kept_targets.proofs.Firsts.{first-is}
use Rattle.kept_targets.proofs.siblings.KeptSiblingsKeySiblings.below.Goals as goal

pub returns-in-Some : goal.returns-in-Some
returns-in-Some c =
    let s = c.args.self.now in
    let first = c.in-Some.ensures in
    let parts = first-is s.records.now.slots s.doc.now s.levels (elements_under s.doc.now s.parent) s.place c.in-Some.first.node c.in-Some.first.kept.now first.levels first.there first.kept in
    sym (ap below_first parts)
