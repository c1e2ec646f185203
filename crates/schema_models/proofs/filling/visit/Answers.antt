use Rattle.std.proofs.Common.{ap}
use Rattle.std.specs.Option.{option_and_then}
use Rattle.schema_models.proofs.filling.visit.Goals as goal

pub build_next-requires-clause-there : goal.build_next-requires-clause-there
build_next-requires-clause-there c = (c.requires.contents c.args.id c.in-Some.p (ap (option_and_then (λ x. x)) c.in-Some.ensures.content)).0

pub build_next-requires-clause-limited : goal.build_next-requires-clause-limited
build_next-requires-clause-limited c = (c.requires.contents c.args.id c.in-Some.p (ap (option_and_then (λ x. x)) c.in-Some.ensures.content)).1
