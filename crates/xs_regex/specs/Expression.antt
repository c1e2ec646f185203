-- What a pattern stands for.
use Rattle.std.specs.Prelude.{List}
use Rattle.xs_positions.specs.Tree.{Tree}
use Rattle.pattern_syntax.specs.Classes.{Class}
use Rattle.pattern_syntax.specs.Regex.{Regex}
use Rattle.pattern_syntax.specs.Trees.{regex_of}

-- an expression over the numbers of classes, and the classes
pub record Expression : Type 0 where
  pub classes : List Class
  pub tree : Tree

-- the regular expression
abbrev pub regex : Expression → Regex
regex expression = regex_of expression.classes expression.tree
