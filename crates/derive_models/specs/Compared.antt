-- What the comparison of content models asks of a schema set.
use Rattle.std.specs.Prelude.{Bool, true, false, ◌&&◌, not, List, Option, None, Some, Result, Ok, Err, All as Each}
use Rattle.xs_codes.specs.declared.code.Code.{Code}
use Rattle.xs_components.specs.Tables.{Tables}
use Rattle.xs_components.specs.declared.common.TypeId.{TypeId}
use Rattle.xs_components.specs.declared.complex.ComplexType.{ComplexType}
use Rattle.component_references.specs.Ranked.{IsRanked}
use Rattle.component_tables.specs.ContentTypes.{AreContentsOf}
use Rattle.component_tables.specs.declared.content_types.ContentType.{ContentType}
use Rattle.component_tables.specs.declared.content_types.ContentType.TheVariants.{SimpleType, Empty, SimpleContent, ElementOnly, Mixed}
use Rattle.particle_restrict.specs.Tables.{HasType}
use Rattle.particle_restrict.specs.declared.restriction.RestrictFault.{RestrictFault}
use Rattle.particle_restrict.specs.declared.restriction.RestrictFault.TheVariants.{Broken, Memory}
use Rattle.particle_restrict.specs.declared.terms.Term.{Term}
use Rattle.derive_models.specs.AnyType.{is_any_type, AreContentsThere}
use Rattle.derive_models.specs.ModelRestrictions.{has_model}

-- References go to lower ranks, the particles of contents are there, these are the content types, and the types of the terms are there.
pub record IsCompared (IsType : TypeId → Type 0) (t : Tables) (contents : List ContentType) (terms : List Term) : Type 0 where
  pub ranked : IsRanked t
  pub there : AreContentsThere t
  pub kinds : AreContentsOf t contents
  pub types : Each (HasType IsType) terms

-- ---- for proofs

-- content of a simple type
abbrev pub is_simple : ContentType → Bool
is_simple SimpleType = true
is_simple Empty = false
is_simple SimpleContent = true
is_simple ElementOnly = false
is_simple Mixed = false

-- the code that an answer tells; none where memory ran out
abbrev pub told_code : {Done : Type 0} → Result Done RestrictFault → Option (Option Code)
told_code (Ok done) = Some None
told_code (Err (Broken code)) = Some (Some code)
told_code (Err Memory) = None

abbrev pub is_model_restriction : ComplexType → Bool
is_model_restriction part = not part.by_extension && (has_model part.content && not (is_any_type part.base))
