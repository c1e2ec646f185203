use Rattle.forest_keys.proofs.Stepping.{seen_none, seen_first}
use Rattle.forest_keys.proofs.entry_siblings.EntrySiblingsKeySiblings.first.Goals as goal

pub returns-in-None : goal.returns-in-None
returns-in-None c = seen_none c.args.self.now.entries.now c.in-None.ensures

pub returns-in-Some : goal.returns-in-Some
returns-in-Some c = let es = c.args.self.now.entries.now in seen_first es c.in-Some.parts c.in-Some.ensures _ c.sight_of.ensures
