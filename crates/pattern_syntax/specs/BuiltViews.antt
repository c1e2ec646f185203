-- What the open groups of the program stand for.
use Rattle.pattern_syntax.specs.Terms.{regexes_of}
use Rattle.pattern_syntax.specs.declared.building.Building.{Building}
use Rattle.pattern_syntax.specs.Built.{Built}
use Rattle.pattern_syntax.specs.Views.{built_over}

abbrev pub built_of : Building → Built
built_of b = built_over (regexes_of b.terms) b.outer.items b.branches.items b.pieces.items
