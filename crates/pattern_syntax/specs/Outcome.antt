-- What the program answers.
use Rattle.std.specs.Prelude.{Result, Ok, Err}
use Rattle.pattern_syntax.specs.Regex.{Regex, regex_at, choice_of}
use Rattle.pattern_syntax.specs.Terms.{regexes_of}
use Rattle.pattern_syntax.specs.declared.building.Term.{Term}
use Rattle.pattern_syntax.specs.declared.fault.PatternFault.{PatternFault}
use Rattle.pattern_syntax.specs.Built.{all_branches}
use Rattle.pattern_syntax.specs.Machine.{State}
use Rattle.pattern_syntax.specs.Reading.{refused_or}

-- the expression at the root
abbrev pub regex_of : Term → Regex
regex_of term = regex_at (regexes_of term.terms) term.root

abbrev pub outcome_of : Result Term PatternFault → Result Regex PatternFault
outcome_of (Ok term) = Ok (regex_of term)
outcome_of (Err fault) = Err fault

-- the answer where the text ends in a state
abbrev pub answer_at : State → Result Regex PatternFault
answer_at s = refused_or s.noted.bad_name s.noted.too_large (choice_of (all_branches s.built.here))
