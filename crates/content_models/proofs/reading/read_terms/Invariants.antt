use Rattle.std.proofs.Common.{◌≡◌, map, take}
use Rattle.content_models.specs.Terms.{accepts_of}
use Rattle.content_models.proofs.reading.read_terms.Given as goal

abbrev pub invariant-loop-id : goal.invariant-loop-id
invariant-loop-id l = l.terms.items ≡ map (accepts_of l.source.members.now l.source.parts.now l.source.classes.now) (take l.id-index l.ids)
