-- What contracts see of the components of a schema set.
use Rattle.std.specs.Prelude.{ℕ, List, [], Option}
use Rattle.xs_components.specs.Table.{TableOf, no_parts}
use Rattle.xs_components.specs.declared.common.Rules.{Rules}
use Rattle.xs_components.specs.declared.common.Rules.TheVariants.{V10}
use Rattle.xs_components.specs.declared.simple.SimpleType.{SimpleType}
use Rattle.xs_components.specs.declared.complex.ComplexType.{ComplexType}
use Rattle.xs_components.specs.declared.element.ElementDecl.{ElementDecl}
use Rattle.xs_components.specs.declared.attribute.AttributeDecl.{AttributeDecl}
use Rattle.xs_components.specs.declared.group.GroupDef.{GroupDef}
use Rattle.xs_components.specs.declared.attr_group.AttrGroupDef.{AttrGroupDef}
use Rattle.xs_components.specs.declared.constraint.Constraint.{Constraint}
use Rattle.xs_components.specs.declared.particle.Particle.{Particle}

-- The rules, the components of each kind in the order of adding, and by complex type number the particle of the type's
-- content, where it is known.
pub record Tables : Type 0 where
  pub rules : Rules
  pub simples : TableOf SimpleType
  pub complexes : TableOf ComplexType
  pub contents : List (Option ℕ)
  pub elements : TableOf ElementDecl
  pub attributes : TableOf AttributeDecl
  pub groups : TableOf GroupDef
  pub attr_groups : TableOf AttrGroupDef
  pub constraints : TableOf Constraint
  pub particles : TableOf Particle

abbrev pub no_tables : Tables
no_tables = record {
  rules = V10;
  simples = no_parts;
  complexes = no_parts;
  contents = [];
  elements = no_parts;
  attributes = no_parts;
  groups = no_parts;
  attr_groups = no_parts;
  constraints = no_parts;
  particles = no_parts;
}
