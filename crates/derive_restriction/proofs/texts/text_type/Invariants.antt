use Rattle.component_references.specs.Heights.{IsType, type_height}
use Rattle.derive_restriction.proofs.TextLaws.{Goes}
use Rattle.derive_restriction.proofs.texts.text_type.Given as goal

abbrev pub invariant-up : goal.invariant-up
invariant-up l = record {
  there : IsType l.parts l.at;
  same : Goes l.parts l.is_restricted l.at l.fn.of;
}

abbrev pub decreases-up : goal.decreases-up
decreases-up l = type_height l.parts l.at
