-- Patterns: Datatypes 4.3.4 and appendix F.
use Rattle.std.specs.Prelude.{◌≡◌, ℕ, Bool, true, false, if◌then◌else◌, List, [], ◌∷◌, ◌⊎◌, Result, Ok, Err, Option, Some, None}
use Rattle.std.specs.Str.{chars}
use Rattle.pattern_syntax.specs.Regex.{Regex}
use Rattle.pattern_syntax.specs.Reading.{Reads}
use Rattle.pattern_syntax.specs.declared.fault.PatternFault.{PatternFault}
use Rattle.pattern_syntax.specs.declared.fault.PatternFault.TheVariants.{Syntax, UnsupportedBlock, UnknownClass}
use Rattle.xs_regex.specs.Meaning.{MatchesPattern}
use Rattle.xs_regex.specs.Outcome.{limited}
use Rattle.xs_codes.specs.declared.code.Code.{Code}
use Rattle.xs_codes.specs.declared.code.Code.TheVariants.{XPattern, XUnsupportedBlock, XLimitPattern}

-- x-pattern (own): the text is no regular expression by Datatypes, appendix F, or names a class that there is not
abbrev pub is_no_expression : PatternFault → Bool
is_no_expression (Syntax place) = true
is_no_expression UnknownClass = true
is_no_expression _ = false

-- x-unsupported.block (own): it names a block of characters
abbrev pub is_of_blocks : PatternFault → Bool
is_of_blocks UnsupportedBlock = true
is_of_blocks _ = false

-- x-limit.pattern (own): a number in it, or the count of its positions, is too large
abbrev pub pattern_code : PatternFault → Code
pattern_code fault = if is_no_expression fault then XPattern else (if is_of_blocks fault then XUnsupportedBlock else XLimitPattern)

-- the code of a text that is refused as a pattern
abbrev pub refusal_of : Result Regex PatternFault → Option Code
refusal_of (Ok regex) = None
refusal_of (Err fault) = Some (pattern_code fault)

abbrev pub refused : {T : Type 0} → Result T Code → Option Code
refused (Ok read) = None
refused (Err code) = Some code

-- the outcome is refused with the code that the text has as a pattern, or with none
abbrev pub IsRefusedPattern : {T : Type 0} → List ℕ → Result T Code → Type 0
IsRefusedPattern text outcome = (answer : Result Regex PatternFault) × Reads (chars text) answer × (refused outcome ≡ refusal_of (limited answer))

-- cvc-pattern-valid (Datatypes 4.3.4.4): the text matches one of the patterns of a step, which are alternatives
abbrev pub MatchesSome : List (List ℕ) → List ℕ → Type 0
MatchesSome [] text = ⊥
MatchesSome (pattern ∷ patterns) text = MatchesPattern (chars pattern) (chars text) ⊎ MatchesSome patterns text

-- and the patterns of different steps must all match
abbrev pub MatchesEach : List (List (List ℕ)) → List ℕ → Type 0
MatchesEach [] text = Unit {0}
MatchesEach (patterns ∷ steps) text = MatchesSome patterns text × MatchesEach steps text
