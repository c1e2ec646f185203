-- What a pattern keeps.
use Rattle.std.specs.Prelude.{◌≡◌, length}
use Rattle.xs_regex.specs.Expression.{Expression}
use Rattle.xs_regex.specs.Program.{expression_of, IsProgram}
use Rattle.xs_regex.specs.declared.pattern.Pattern.TheInside.{Inside}

abbrev pub inside_expression : Inside → Expression
inside_expression pattern = expression_of pattern.program.value

-- the sets have a flag for each position
pub record IsReady (pattern : Inside) : Type 0 where
  pub program : IsProgram pattern.program.value
  pub live : length pattern.live ≡ length pattern.program.value.positions.symbols
  pub next : length pattern.next ≡ length pattern.program.value.positions.symbols
