use Rattle.compiled_schema.proofs.ModelLaws.{model-at}
use Rattle.compiled_schema.proofs.compiled.Compiled.complex_model.Goals as goal

pub returns : goal.returns
returns c = λ first. model-at c.args.self.now first (λ a. a.now) c.automaton.result c.args.id c.automaton.ensures
