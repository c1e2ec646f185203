use Rattle.std.proofs.Common.{ap, ◌∙◌}
use Rattle.key_records.specs.References.{has_any}
use Rattle.key_records.proofs.ReferenceLaws.{referred-is}
use Rattle.key_records.proofs.references.References.is_referred.Goals as goal

pub returns : goal.returns
returns c = referred-is c.keyrefs_of.result.now c.is_empty.result c.is_empty.ensures ∙ ap has_any c.keyrefs_of.ensures
