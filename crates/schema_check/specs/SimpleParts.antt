-- Types that are simple where they must be.
use Rattle.xs_components.specs.Tables.{Tables}
use Rattle.type_derivation.specs.Within.{AreSimple}
use Rattle.schema_check.specs.Simple.{AreTypesSimple}

-- Structures 3.14.2: what a simple type is made of is simple. 3.2.1, 3.4.2: so are the types of attributes and those that stand in
-- simple content.
pub record HasSimpleTypes (t : Tables) : Type 0 where
  pub made : AreSimple t
  pub used : AreTypesSimple t
