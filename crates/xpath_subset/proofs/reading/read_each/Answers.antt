use Rattle.std.proofs.Common.{Some, sym, subst, Ok, [], map, take, ◌+◌}
use Rattle.xpath_subset.specs.Grammar.{IsPath, all_there, path_meaning}
use Rattle.xpath_subset.specs.inside.Gives.{AreWritten, Gives}
use Rattle.xpath_subset.specs.inside.Lasts.{IsLastOf}
use Rattle.xpath_subset.specs.inside.Trims.{trim_white}
use Rattle.xpath_subset.proofs.Lists.{gives_next, gives_not, gives_nothing}
use Rattle.xpath_subset.proofs.reading.read_each.Goals as goal

pub loop-piece-init : goal.loop-piece-init
loop-piece-init c = subst (λ paths. Gives (λ ws. AreWritten (IsPath (IsLastOf c.args.kind)) ws []) (λ ws. all_there (map (path_meaning c.args.scope.now) ws)) (Ok (Some paths))) (sym c.new.ensures) (gives_nothing (IsPath (IsLastOf c.args.kind)) (path_meaning c.args.scope.now))

pub loop-piece-preserved : goal.loop-piece-preserved
loop-piece-preserved c = subst (λ paths. Gives (λ ws. AreWritten (IsPath (IsLastOf c.args.kind)) ws (map (λ p. trim_white p.now) (take (c.loop-piece.piece-index + 1) c.args.pieces.now))) (λ ws. all_there (map (path_meaning c.args.scope.now) ws)) (Ok paths)) (sym c.in_ok-paths-in-Ok.ensures)
    (gives_next (IsPath (IsLastOf c.args.kind)) (path_meaning c.args.scope.now) (λ p. trim_white p.now) c.args.pieces.now c.loop-piece.piece-index _ c.trimmed.result.now c.loop-piece.paths c.in-Ok.read c.loop-piece-test.true c.trimmed.ensures.value c.loop-piece.invariant c.in-Ok.ensures)

pub returns-in-Err : goal.returns-in-Err
returns-in-Err c = gives_not (IsPath (IsLastOf c.args.kind)) (path_meaning c.args.scope.now) (λ p. trim_white p.now) c.args.pieces.now c.loop-piece.piece-index _ c.trimmed.result.now c.loop-piece-test.true c.trimmed.ensures.value c.in-Err.refusal c.in-Err.ensures
