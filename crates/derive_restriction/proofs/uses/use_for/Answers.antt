use Rattle.std.proofs.Common.{ap, ◌∙◌}
use Rattle.derive_restriction.specs.Uses.{declared_at}
use Rattle.derive_restriction.proofs.uses.use_for.Goals as goal

pub returns : goal.returns
returns c = record { found = λ ids value s. c.declared_at.ensures.found ∙ ap (declared_at c.args.parts.now) (c.use_numbered.ensures.named c.args.parts.now ids value s) }
