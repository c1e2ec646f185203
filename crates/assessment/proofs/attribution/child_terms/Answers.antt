use Rattle.std.proofs.Common.{ap}
use Rattle.std.specs.Option.{option_copied}
use Rattle.assessment.proofs.Walking.{model-known, fitting-terms, ok-weaker}
use Rattle.assessment.proofs.attribution.child_terms.Goals as goal

pub terms_by-requires-clause-within : goal.terms_by-requires-clause-within
terms_by-requires-clause-within c = model-known c.args.names.now (option_copied c.args.model) c.in-Some.automaton.now (ap option_copied c.in-Some.is) c.requires.model

pub returns-in-Some : goal.returns-in-Some
returns-in-Some c = record {
  terms = ok-weaker c.terms_by.result _ _
      (λ found h. fitting-terms c.args.names.now (option_copied c.args.model) c.in-Some.automaton.now (ap option_copied c.in-Some.is) c.args.children.now found.stuck found.terms.items h)
      c.terms_by.ensures;
}
