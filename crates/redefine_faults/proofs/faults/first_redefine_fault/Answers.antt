use Rattle.std.proofs.Common.{◌∙◌}
use Rattle.redefine_faults.proofs.FaultLaws.{set-least}
use Rattle.redefine_faults.proofs.faults.first_redefine_fault.Goals as goal

pub returns : goal.returns
returns c = record { least = λ start is. set-least c.args.available.now start c.args.set.now is c.in_ok-first.first (rw (c.in_ok-originals.ensures.same ∙ c.in_ok-sources.ensures.same) at c.in_ok-first.ensures) }
