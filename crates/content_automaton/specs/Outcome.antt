-- Why the states are not found.
use Rattle.std.specs.Prelude.{⊤}
use Rattle.content_automaton.specs.declared.stop.Stop.{Stop}
use Rattle.content_automaton.specs.declared.stop.Stop.TheVariants.{Memory, TooManyStates}

-- where there are too many states
abbrev pub WhereTooMany : Stop → Type 0 → Type 0
WhereTooMany Memory P = ⊤
WhereTooMany TooManyStates P = P
