-- What reading a pattern answers.
use Rattle.std.specs.Prelude.{nat_lt, if◌then◌else◌, Result, Ok, Err}
use Rattle.pattern_syntax.specs.Regex.{Regex}
use Rattle.pattern_syntax.specs.declared.fault.PatternFault.{PatternFault}
use Rattle.pattern_syntax.specs.declared.fault.PatternFault.TheVariants.{TooLarge}
use Rattle.xs_positions.specs.Expressions.{size}
use Rattle.xs_regex.specs.Expression.{regex}
use Rattle.xs_regex.specs.declared.pattern.Pattern.{Pattern}

-- an expression with more than 4,096 positions is refused
abbrev pub limited : Result Regex PatternFault → Result Regex PatternFault
limited (Ok r) = if nat_lt 4096 (size r) then Err TooLarge else Ok r
limited (Err fault) = Err fault

-- the regular expression of the pattern, or its fault
abbrev pub outcome_of : Result Pattern PatternFault → Result Regex PatternFault
outcome_of (Ok pattern) = Ok (regex pattern)
outcome_of (Err fault) = Err fault
