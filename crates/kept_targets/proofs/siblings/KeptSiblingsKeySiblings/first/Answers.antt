use Rattle.std.proofs.Common.{sym, subst}
use Rattle.identity_constraints.specs.Seen.{KeyForest}
use Rattle.path_walk.specs.Sight.{IsFirst, seen}
use Rattle.kept_targets.specs.Seen.{elements_under}
use Rattle.kept_targets.proofs.Firsts.{first-is}
use Rattle.kept_targets.proofs.siblings.KeptSiblingsKeySiblings.first.Goals as goal

pub returns-in-Some : goal.returns-in-Some
returns-in-Some c =
    let s = c.args.self.now in
    let first = c.in-Some.ensures in
    let parts = first-is s.records.now.slots s.doc.now s.levels (elements_under s.doc.now s.parent) s.place c.in-Some.first.node c.in-Some.first.kept.now first.levels first.there first.kept in
    subst (λ (f : KeyForest). IsFirst f (seen c.sight_of.result)) (sym parts) (sym c.sight_of.ensures)
