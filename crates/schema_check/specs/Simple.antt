-- Types that are simple where they must be.
use Rattle.std.specs.Prelude.{◌≡◌, true, IfSome}
use Rattle.xs_components.specs.Tables.{Tables}
use Rattle.component_references.specs.References.{Each}
use Rattle.type_derivation.specs.Derives.{is_simple}
use Rattle.build_components.specs.There.{own_type}

-- Structures 3.2.1: the type of an attribute is simple. 3.4.2: so is the type that stands in simple content.
pub record AreTypesSimple (t : Tables) : Type 0 where
  pub attributes : Each t.attributes (λ part. is_simple part.of ≡ true)
  pub contents : Each t.complexes (λ part. IfSome (own_type part.content) (λ of. is_simple of ≡ true))
