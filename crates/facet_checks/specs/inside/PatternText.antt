-- What a pattern keeps beside its text.
use Rattle.std.specs.Prelude.{ℕ, List, ◌↔◌}
use Rattle.std.specs.Str.{chars}
use Rattle.pattern_syntax.specs.Regex.{Matches}
use Rattle.xs_regex.specs.Expression.{regex}
use Rattle.xs_regex.specs.Meaning.{MatchesPattern}
use Rattle.facet_checks.specs.declared.pattern.PatternText.TheInside.{Inside}

abbrev pub text_of : Inside → List ℕ
text_of pattern = pattern.text

-- the expression matches what the text does
abbrev pub IsReadFrom : Inside → Type 0
IsReadFrom pattern = (other : List ℕ) → Matches (regex pattern.pattern) other ↔ MatchesPattern (chars pattern.text) other
