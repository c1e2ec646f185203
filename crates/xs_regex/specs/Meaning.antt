-- The texts that match the pattern that a text is (Datatypes, 4.3.4 and appendix F).
use Rattle.std.specs.Prelude.{ℕ, List}
use Rattle.pattern_syntax.specs.Regex.{Matches}
use Rattle.pattern_syntax.specs.Grammar.{RegExp, meaning}
use Rattle.pattern_syntax.specs.Reading.{IsWritten}

-- the first text is some regular expression, written out, and the second is in its language
abbrev pub MatchesPattern : List ℕ → List ℕ → Type 0
MatchesPattern pattern text = (r : RegExp) × IsWritten pattern r × Matches (meaning r) text
