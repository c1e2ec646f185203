use Rattle.forest_keys.proofs.Stepping.{none_below, seen_below}
use Rattle.forest_keys.proofs.entry_siblings.EntrySiblingsKeySiblings.below.Goals as goal

pub returns-in-None : goal.returns-in-None
returns-in-None c = none_below c.args.self.now.entries.now c.in-None.ensures

pub returns-in-Some : goal.returns-in-Some
returns-in-Some c = let es = c.args.self.now.entries.now in seen_below es c.in-Some.parts c.in-Some.ensures
