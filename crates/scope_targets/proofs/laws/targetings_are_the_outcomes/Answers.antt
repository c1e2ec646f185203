use Rattle.std.proofs.Common.{[]}
use Rattle.scope_targets.proofs.Scopes.{scoped}
use Rattle.scope_targets.proofs.laws.targetings_are_the_outcomes.Goals as goal

pub returns : goal.returns
returns c = λ names t identities f own below k few has. scoped names t identities own k [] f below tt few has
