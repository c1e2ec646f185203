-- How often a particle may occur (Structures 3.9.2).
use Rattle.std.specs.Prelude.{ℕ, Bool, true, false, ◌||◌, nat_lt, List, min, Option, Some, None, if◌then◌else◌, codes}
use Rattle.std.specs.Option.{option_and_then, unwrap_or}
use Rattle.std.specs.Str.{bytes_eq}
use Rattle.tree_rows.specs.declared.row.Attribute.{Attribute}
use Rattle.schema_values.specs.declared.grammar_kinds.AttributeName.TheVariants as an
use Rattle.schema_values.specs.Values.{digits_of}
use Rattle.schema_values.specs.Attributes.{value_of}
use Rattle.schema_values.specs.declared.occurs.TheConstants.{MAX_OCCURS}
use Rattle.schema_values.specs.declared.occurs.Occurs.{Occurs}

-- a bound as it is written; it is 1 where the attribute is not there
abbrev pub bound_of : Option (List ℕ) → Option ℕ
bound_of None = Some 1
bound_of (Some text) = digits_of text

-- a finite bound past the limit
abbrev pub is_past : Option ℕ → Bool
is_past None = false
is_past (Some n) = nat_lt MAX_OCCURS n

-- a number past its limit is left undefined
abbrev pub within_limit : Option ℕ → Option ℕ
within_limit n = if is_past n then None else n

abbrev pub is_greater : Option ℕ → Option ℕ → Bool
is_greater None high = false
is_greater (Some low) None = false
is_greater (Some low) (Some high) = nat_lt high low

-- x-limit.occurs (own): a finite bound is past the limit
abbrev pub is_past_limit : List Attribute → Bool
is_past_limit attributes = is_past (bound_of (value_of an.MinOccurs attributes)) || is_past (bound_of (value_of an.MaxOccurs attributes))

-- p-props-correct.2.1 (Structures 3.9.6): minOccurs is greater than maxOccurs; `unbounded` is no number
abbrev pub has_crossed_bounds : List Attribute → Bool
has_crossed_bounds attributes =
    is_greater (within_limit (bound_of (value_of an.MinOccurs attributes))) (within_limit (bound_of (value_of an.MaxOccurs attributes)))

-- a bound, where what is past the limit counts as the limit and one
abbrev pub count_of : Option (List ℕ) → ℕ
count_of text = min 1001 (unwrap_or (bound_of text) 1)

abbrev pub is_unbounded : Option (List ℕ) → Bool
is_unbounded None = false
is_unbounded (Some text) = bytes_eq text (codes "unbounded")

-- no bound where it is unbounded
abbrev pub most_of : Option (List ℕ) → Option ℕ
most_of text = if is_unbounded text then None else Some (count_of text)

abbrev pub occurs_of : List Attribute → Occurs
occurs_of attributes = record {
  min = count_of (value_of an.MinOccurs attributes);
  max = most_of (value_of an.MaxOccurs attributes);
}
