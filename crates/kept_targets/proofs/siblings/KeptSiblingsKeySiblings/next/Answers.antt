use Rattle.std.proofs.Common.{sym, ap}
use Rattle.path_walk.specs.Sight.{behind_first}
use Rattle.kept_targets.specs.Seen.{elements_under}
use Rattle.kept_targets.proofs.Firsts.{first-is}
use Rattle.kept_targets.proofs.siblings.KeptSiblingsKeySiblings.next.Goals as goal

pub returns-in-Some : goal.returns-in-Some
returns-in-Some c =
    let s = c.args.self.now in
    let first = c.in-Some.ensures in
    let parts = first-is s.records.now.slots s.doc.now s.levels (elements_under s.doc.now s.parent) s.place c.in-Some.field-0.node c.in-Some.field-0.kept.now first.levels first.there first.kept in
    sym (ap behind_first parts)
