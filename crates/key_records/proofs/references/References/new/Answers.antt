use Rattle.key_records.proofs.ReferenceLaws.{no_references}
use Rattle.key_records.proofs.references.References.new.Goals as goal

pub returns-clause-sound : goal.returns-clause-sound
returns-clause-sound c = no_references (record { alloc = c.args.alloc; keys = c.new-keys.result; keyrefs = c.new-keyrefs.result }) c.new-keys.ensures.items
