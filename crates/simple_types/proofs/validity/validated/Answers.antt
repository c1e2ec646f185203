use Rattle.std.proofs.lemmas.Result.{IfOk-weaker}
use Rattle.facets.specs.Source.{IsRead}
use Rattle.simple_types.specs.SimpleValidity.{IsValid}
use Rattle.simple_types.proofs.ReadLaws.{read_is_valid}
use Rattle.simple_types.proofs.validity.validated.Goals as goal

pub returns : goal.returns
returns c = λ tree made. IfOk-weaker c.read.result (IsRead c.args.facets.now c.args.scope.now c.args.text.now) (IsValid tree c.args.scope.now c.args.text.now)
    (read_is_valid tree c.args.facets.now made c.args.scope.now c.args.text.now) c.read.ensures
