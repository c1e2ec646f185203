-- Limits on what stands in one element.
use Rattle.std.specs.Prelude.{ℕ, Bool, true, false, ◌&&◌, nat_lt, List, length, filter, Option, Some, None}
use Rattle.std.specs.Option.{option_and_then}
use Rattle.tree_rows.specs.declared.row.Attribute.{Attribute}
use Rattle.schema_values.specs.Table.{is_in}
use Rattle.schema_values.specs.declared.grammar_kinds.AttributeName.TheVariants as an
use Rattle.schema_values.specs.declared.grammar_kinds.Class.TheVariants as c
use Rattle.schema_values.specs.declared.grammar_kinds.Kind.{Kind}
use Rattle.schema_values.specs.declared.grammar_kinds.Kind.TheVariants as k
use Rattle.schema_values.specs.declared.grammar_kinds.Tag.{Tag}
use Rattle.schema_values.specs.Attributes.{raw_of}
use Rattle.schema_values.specs.Values.{digits_of}
use Rattle.schema_faults.specs.declared.limit_faults.TheConstants.{MAX_FIELDS, MAX_FACET_NUMBER}

abbrev pub is_identity : Kind → Bool
is_identity k.Unique = true
is_identity k.Key = true
is_identity k.Keyref = true
is_identity _ = false

abbrev pub field_count : List Tag → ℕ
field_count tags = length (filter (is_in c.Field) tags)

-- x-limit.fields (own): an identity constraint has more fields than the limit
abbrev pub has_many_fields : Kind → List Tag → Bool
has_many_fields kind tags = is_identity kind && nat_lt MAX_FIELDS (field_count tags)

abbrev pub is_number_facet : Kind → Bool
is_number_facet k.Length = true
is_number_facet k.MinLength = true
is_number_facet k.MaxLength = true
is_number_facet k.TotalDigits = true
is_number_facet k.FractionDigits = true
is_number_facet _ = false

abbrev pub is_large : Option ℕ → Bool
is_large None = false
is_large (Some n) = nat_lt MAX_FACET_NUMBER n

abbrev pub has_large_value : List Attribute → Bool
has_large_value attributes = is_large (option_and_then digits_of (raw_of an.Value attributes))

-- x-limit.value (own): the number of a facet is past the limit
abbrev pub has_large_number : Kind → List Attribute → Bool
has_large_number kind attributes = is_number_facet kind && has_large_value attributes
