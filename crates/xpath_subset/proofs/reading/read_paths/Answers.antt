use Rattle.std.proofs.Common.{◌==◌, map, ap, ◌∙◌, sym, subst}
use Rattle.std.specs.List.{slice_split}
use Rattle.xpath_subset.specs.Grammar.{IsPath, all_there, path_meaning}
use Rattle.xpath_subset.specs.inside.Gives.{AreWritten, Gives}
use Rattle.xpath_subset.specs.inside.Lasts.{IsLastOf}
use Rattle.xpath_subset.proofs.Tests.{bytes_not_same, bytes_not_other}
use Rattle.xpath_subset.proofs.Ways.{trim_pieces}
use Rattle.xpath_subset.proofs.Readings.{paths_trimmed, gives_paths}
use Rattle.xpath_subset.proofs.reading.read_paths.Goals as goal

pub returns-then-ne : goal.returns-then-ne
returns-then-ne c = λ paths are. bytes_not_same c.trimmed.result.now c.args.text.now c.if-ne.ensures (c.trimmed.ensures.value ∙ paths_trimmed c.args.kind c.args.text.now paths are)

pub returns : goal.returns
returns c = gives_paths c.args.kind c.args.scope.now c.args.text.now (sym c.trimmed.ensures.value ∙ bytes_not_other c.trimmed.result.now c.args.text.now c.if-ne.ensures) c.read_each.result
    (subst (λ pieces. Gives (λ paths. AreWritten (IsPath (IsLastOf c.args.kind)) paths pieces) (λ paths. all_there (map (path_meaning c.args.scope.now) paths)) c.read_each.result)
    (trim_pieces (λ p. p.now) c.as_slice.result.now (slice_split (λ b. b == 124) c.args.text.now) (ap (map (λ p. p.now)) c.as_slice.ensures.value ∙ c.in_ok-pieces.ensures)) c.read_each.ensures)
