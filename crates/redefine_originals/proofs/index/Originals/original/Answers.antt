use Rattle.std.proofs.Common.{sym, []}
use Rattle.redefine_originals.specs.Versions.{nowhere}
use Rattle.redefine_originals.proofs.index.Originals.original.Goals as goal

pub returns-in-None : goal.returns-in-None
returns-in-None c = record { original = rw (sym c.in_ok-find.ensures.found, c.in-None.is) (nowhere []) }
