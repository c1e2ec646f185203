use Rattle.particle_forms.specs.Made.{work}
use Rattle.particle_forms.proofs.MadeLaws.{IsMeeting}
use Rattle.particle_forms.proofs.node_made.find_parts.Given as goal

abbrev pub invariant-loop-id : goal.invariant-loop-id
invariant-loop-id l = IsMeeting l.parts l.fn.root l.found.keys l.todo.items

abbrev pub decreases-loop-id : goal.decreases-loop-id
decreases-loop-id l = work l.parts l.todo.items
