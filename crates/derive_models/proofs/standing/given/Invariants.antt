use Rattle.std.proofs.Common.{◌≡◌, map, take}
use Rattle.component_tables.specs.Types.{given_declaration}
use Rattle.derive_models.proofs.standing.given.Given as goal

abbrev pub invariant-loop-name : goal.invariant-loop-name
invariant-loop-name l = l.of ≡ map (given_declaration l.parts l.element) (take l.name-index l.names)
