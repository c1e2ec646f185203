use Rattle.attr_uses.proofs.MapLaws.{nothing-is}
use Rattle.attr_uses.proofs.maps.UseMaps.nothing.Goals as goal

pub returns : goal.returns
returns c = record { map = nothing-is c.args.self.now (rw (← c.self.view_is) c.self.invariant.1) }
