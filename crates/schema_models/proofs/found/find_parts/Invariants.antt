use Rattle.particle_forms.specs.Made.{work}
use Rattle.schema_models.proofs.FoundLaws.{IsMeeting}
use Rattle.schema_models.proofs.found.find_parts.Given as goal

abbrev pub invariant-loop-id : goal.invariant-loop-id
invariant-loop-id l = IsMeeting l.parts l.fn.root l.found.keys l.todo.items

abbrev pub decreases-loop-id : goal.decreases-loop-id
decreases-loop-id l = work l.parts l.todo.items
