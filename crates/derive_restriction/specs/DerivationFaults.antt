-- Constraints on derivation: of complex types, of redefining attribute groups, of the types of elements in substitution groups, and on
-- `all` (Structures 3.3.6, 3.4.6, 3.8.6, 4.2.2).
use Rattle.std.specs.Prelude.{◌⊎◌, List}
use Rattle.xs_codes.specs.declared.fault.Fault.{Fault}
use Rattle.xs_names.specs.Names.{NameTable}
use Rattle.xs_components.specs.Tables.{Tables}
use Rattle.schema_models.specs.AllLimits.{IsUnlimited}
use Rattle.derive_restriction.specs.AttrGroupRestrictions.{IsAttrGroupFault}
use Rattle.derive_faults.specs.Extensions.{IsExtensionFault}
use Rattle.derive_restriction.specs.Restrictions.{IsRestrictionFault}
use Rattle.derive_faults.specs.Exclusions.{IsExcluded}
use Rattle.redefine_names.specs.declared.pairs.RedefinedPair.{RedefinedPair}

-- a complex type against its base, but for its content model, or a redefining attribute group against what it redefines, by the pairs of
-- these
abbrev pub IsComparisonFault : Tables → NameTable → List RedefinedPair → Fault → Type 0
IsComparisonFault t names redefined fault = IsRestrictionFault t names fault ⊎ IsAttrGroupFault t names redefined fault

-- phase 7, of derivation: cos-ct-extends.1.1 and .1.4, derivation-ok-restriction.1 to .5.4.1 but for content models (Structures 3.4.6),
-- src-redefine.7.2.2 (Structures 4.2.2), e-props-correct.4 (Structures 3.3.6), and x-limit.all, cos-all-limited.1 and .2 (Structures
-- 3.8.6). The other clauses of cos-ct-extends.1 have no fault: an extension has the attribute uses, the wildcard and the content of its
-- base by construction (Structures 3.4.2).
abbrev pub IsDerivationFault : Tables → NameTable → List RedefinedPair → Fault → Type 0
IsDerivationFault t names redefined fault = IsExtensionFault t fault ⊎ (IsComparisonFault t names redefined fault ⊎ (IsExcluded t fault ⊎ IsUnlimited t fault))

-- ---- for proofs

-- elements whose types do not derive from those of their heads, and an `all` that is not limited
abbrev pub IsPlacingFault : Tables → Fault → Type 0
IsPlacingFault t fault = IsExcluded t fault ⊎ IsUnlimited t fault
