-- Which facets fit which types: Datatypes 4.1.5.
use Rattle.std.specs.Prelude.{Bool, true, false, ◌||◌, Option, None, Some}
use Rattle.xs_codes.specs.declared.builtin.Builtin.{Builtin}
use Rattle.xs_codes.specs.declared.builtin.Builtin.TheVariants as types
use Rattle.xs_components.specs.declared.simple.FacetKind.{FacetKind}
use Rattle.xs_components.specs.declared.simple.FacetKind.TheVariants as kinds
use Rattle.simple_values.specs.Builtins.{primitive_of}
use Rattle.facet_rules.specs.declared.applicable.Family.{Family}
use Rattle.facet_rules.specs.declared.applicable.Family.TheVariants.{Open, Measured, Truths, Moments, Numbers, Unions}

abbrev pub family_by : Option Builtin → Family
family_by None = Open
family_by (Some types.String) = Measured
family_by (Some types.HexBinary) = Measured
family_by (Some types.Base64Binary) = Measured
family_by (Some types.AnyUri) = Measured
family_by (Some types.QName) = Measured
family_by (Some types.Boolean) = Truths
family_by (Some types.Decimal) = Numbers
family_by (Some _) = Moments

-- the family of a built-in type: that of its primitive type, and lists are measured
abbrev pub family_of : Builtin → Family
family_of types.NmTokens = Measured
family_of types.IdRefs = Measured
family_of kind = family_by (primitive_of kind)

abbrev pub is_pattern : FacetKind → Bool
is_pattern kinds.Pattern = true
is_pattern _ = false

abbrev pub is_white_space : FacetKind → Bool
is_white_space kinds.WhiteSpace = true
is_white_space _ = false

abbrev pub is_listed : FacetKind → Bool
is_listed kinds.Pattern = true
is_listed kinds.Enumeration = true
is_listed _ = false

abbrev pub is_measure : FacetKind → Bool
is_measure kinds.Length = true
is_measure kinds.MinLength = true
is_measure kinds.MaxLength = true
is_measure _ = false

abbrev pub is_bound : FacetKind → Bool
is_bound kinds.MaxInclusive = true
is_bound kinds.MaxExclusive = true
is_bound kinds.MinExclusive = true
is_bound kinds.MinInclusive = true
is_bound _ = false

abbrev pub is_digits : FacetKind → Bool
is_digits kinds.TotalDigits = true
is_digits kinds.FractionDigits = true
is_digits _ = false

-- cos-applicable-facets (Datatypes 4.1.5): lengths, pattern, enumeration and whiteSpace fit strings, binary values, URIs, names and lists; pattern and whiteSpace
-- booleans; pattern, enumeration, whiteSpace and bounds what is ordered, and the digits numbers; pattern and enumeration unions
abbrev pub fits : Family → FacetKind → Bool
fits Open kind = false
fits Measured kind = is_measure kind || (is_listed kind || is_white_space kind)
fits Truths kind = is_pattern kind || is_white_space kind
fits Moments kind = is_listed kind || (is_white_space kind || is_bound kind)
fits Numbers kind = is_listed kind || (is_white_space kind || (is_bound kind || is_digits kind))
fits Unions kind = is_listed kind
