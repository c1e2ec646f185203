use Rattle.forest_keys.proofs.Stepping.{none_behind, seen_behind}
use Rattle.forest_keys.proofs.entry_siblings.EntrySiblingsKeySiblings.next.Goals as goal

pub returns-in-None : goal.returns-in-None
returns-in-None c = none_behind c.args.self.now.entries.now c.in-None.ensures

pub returns-in-Some : goal.returns-in-Some
returns-in-Some c = let es = c.args.self.now.entries.now in seen_behind es c.in-Some.parts c.in-Some.ensures
