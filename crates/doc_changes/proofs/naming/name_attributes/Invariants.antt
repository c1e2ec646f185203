use Rattle.std.proofs.Common.{take}
use Rattle.doc_changes.proofs.PlantedNames.{AttributesSoFar}
use Rattle.doc_changes.proofs.naming.name_attributes.Given as goal

abbrev pub invariant-loop-attribute : goal.invariant-loop-attribute
invariant-loop-attribute l = AttributesSoFar l.initial.names l.names l.made (take l.attribute-index l.attributes)
