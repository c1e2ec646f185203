use Rattle.std.proofs.Common.{sym}
use Rattle.std.proofs.lemmas.Option.{slice_get_within}
use Rattle.derive_models.proofs.AnyLaws.{part-there}
use Rattle.derive_models.proofs.any_type.any_particle.Goals as goal

pub first_member-requires-clause-there : goal.first_member-requires-clause-there
first_member-requires-clause-there c =
    part-there c.args.parts.now c.requires.ranked c.args.part.now.content c.in_ok-content.content c.in_ok-base.base
    (c.requires.contents c.args.id c.in_ok-content.content c.in_ok-content.ensures.content (slice_get_within c.args.parts.now.complexes.parts c.args.id c.args.part.now c.requires.part))
    (sym c.in_ok-base.ensures)
