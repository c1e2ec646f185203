use Rattle.std.proofs.Common.{◌≡◌, map, take}
use Rattle.xs_components.specs.Heads.{names_of}
use Rattle.content_models.specs.Terms.{given_by}
use Rattle.content_models.proofs.reading.read_names.Given as goal

abbrev pub invariant-loop-name : goal.invariant-loop-name
invariant-loop-name l = l.given ≡ map (given_by l.source.parts.now l.source.classes.now l.element) (take l.name-index (names_of l.source.members.now l.element))
