use Rattle.std.proofs.Common.{◌↔◌}
use Rattle.component_references.specs.Heights.{IsType}
use Rattle.derive_faults.specs.Ids.{HasIdContent, content_height}
use Rattle.derive_faults.proofs.value_ids.has_id_content.Given as goal

abbrev pub invariant-up : goal.invariant-up
invariant-up l = record {
  there : IsType l.set.parts.now l.at;
  same : HasIdContent l.set.parts.now l.at ↔ HasIdContent l.set.parts.now l.fn.of;
}

abbrev pub decreases-up : goal.decreases-up
decreases-up l = content_height l.set.parts.now l.at
