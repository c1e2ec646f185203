use Rattle.std.proofs.Common.{◌≡◌, ◌≤◌, ◌-◌, length}
use Rattle.schema_models.specs.inside.Steps.{AreNone}
use Rattle.schema_models.proofs.models.Models.none_yet.Given as goal

abbrev pub invariant-types : goal.invariant-types
invariant-types l = (length l.automata.items ≡ l.number) × (l.number ≤ length l.parts.complexes.parts) × AreNone l.automata.items

abbrev pub decreases-types : goal.decreases-types
decreases-types l = length l.parts.complexes.parts - l.number
