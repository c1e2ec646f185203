-- Which texts are values of a kind. They are collapsed first, but for default, fixed and a facet's value.
use Rattle.std.specs.Prelude.{ℕ, Bool, true, ◌||◌, List, is_some, codes}
use Rattle.std.specs.Str.{bytes_eq, chars}
use Rattle.xs_names.specs.Characters.{is_ncname}
use Rattle.xs_names.specs.WhiteSpace.{collapsed, items}
use Rattle.tree_rows.specs.declared.row.Binding.{Binding}
use Rattle.schema_values.specs.declared.grammar_kinds.ValueKind.{ValueKind}
use Rattle.schema_values.specs.declared.grammar_kinds.ValueKind.TheVariants as v
use Rattle.schema_values.specs.Values.{boolean_of, is_digits, digits_of, is_positive}
use Rattle.schema_values.specs.Names.{qname_of, are_qnames}
use Rattle.schema_values.specs.Words.{is_word, is_set}

-- a text whose white space is collapsed is a value of the kind, where these bindings are in scope; every text is one of the
-- kinds that are not named here
abbrev pub fits_collapsed : List Binding → ValueKind → List ℕ → Bool
fits_collapsed scope v.NcName text = is_ncname (chars text)
fits_collapsed scope v.QName text = is_some (qname_of scope text)
fits_collapsed scope v.QNames text = are_qnames scope (items text)
fits_collapsed scope v.Boolean text = is_some (boolean_of text)
fits_collapsed scope v.Form text = is_word v.Form text
fits_collapsed scope v.Use text = is_word v.Use text
fits_collapsed scope v.Process text = is_word v.Process text
fits_collapsed scope v.Digits text = is_digits text
fits_collapsed scope v.Bound text = bytes_eq text (codes "unbounded") || is_digits text
fits_collapsed scope v.Block text = is_set v.Block text
fits_collapsed scope v.ComplexFinal text = is_set v.ComplexFinal text
fits_collapsed scope v.SimpleFinal text = is_set v.SimpleFinal text
fits_collapsed scope v.AnyFinal text = is_set v.AnyFinal text
fits_collapsed scope _ text = true

-- a text is a value of the kind
abbrev pub fits : List Binding → ValueKind → List ℕ → Bool
fits scope v.Raw text = true
fits scope v.FacetDigits text = is_digits text
fits scope v.PositiveDigits text = is_positive (digits_of text)
fits scope v.WhiteSpace text = is_word v.WhiteSpace text
fits scope kind text = fits_collapsed scope kind (collapsed text)
