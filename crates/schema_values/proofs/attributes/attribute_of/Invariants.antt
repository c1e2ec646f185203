use Rattle.std.proofs.Common.{◌≡◌, drop}
use Rattle.schema_values.specs.Attributes.{attribute_of}
use Rattle.schema_values.proofs.attributes.attribute_of.Given as goal

abbrev pub invariant-loop-attribute : goal.invariant-loop-attribute
invariant-loop-attribute l = attribute_of l.name (drop l.attribute-index l.attributes) ≡ attribute_of l.name l.attributes
