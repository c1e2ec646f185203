use Rattle.std.proofs.Common.{Ok, map, take}
use Rattle.xpath_subset.specs.Grammar.{IsPath, all_there, path_meaning}
use Rattle.xpath_subset.specs.inside.Gives.{AreWritten, Gives}
use Rattle.xpath_subset.specs.inside.Lasts.{IsLastOf}
use Rattle.xpath_subset.specs.inside.Trims.{trim_white}
use Rattle.xpath_subset.proofs.reading.read_each.Given as goal

abbrev pub invariant-loop-piece : goal.invariant-loop-piece
invariant-loop-piece l = Gives (λ paths. AreWritten (IsPath (IsLastOf l.kind)) paths (map (λ p. trim_white p.now) (take l.piece-index l.pieces))) (λ paths. all_there (map (path_meaning l.scope) paths)) (Ok l.paths)
