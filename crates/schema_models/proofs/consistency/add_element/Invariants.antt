use Rattle.std.proofs.Common.{◌≡◌, ◌++◌, map, take}
use Rattle.xs_components.specs.Heads.{names_of}
use Rattle.schema_models.specs.Consistency.{typed_name}
use Rattle.schema_models.proofs.consistency.add_element.Given as goal

abbrev pub invariant-loop-name : goal.invariant-loop-name
invariant-loop-name l = l.given.items ≡ l.fn.given.items ++ map (typed_name l.members l.parts l.element) (take l.name-index (names_of l.members l.element))
