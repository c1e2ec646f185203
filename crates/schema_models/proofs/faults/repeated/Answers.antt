use Rattle.std.proofs.Common.{sym, ◌∙◌}
use Rattle.schema_models.proofs.FaultLaws.{repeats}
use Rattle.schema_models.proofs.faults.repeated.Goals as goal

pub returns : goal.returns
returns c = repeats c.args.parts.now c.args.p c.nested.result (sym c.comes_once.ensures ∙ c.if-comes_once.false) c.nested.ensures
