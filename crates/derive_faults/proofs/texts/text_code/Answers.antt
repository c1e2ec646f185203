use Rattle.std.proofs.Common.{ℕ, List, subst}
use Rattle.simple_types.specs.Trees.{type_tree}
use Rattle.simple_types.specs.SimpleTypes.{IsValueOf}
use Rattle.derive_faults.proofs.TextLaws.{refused-first}
use Rattle.derive_faults.proofs.texts.text_code.Goals as goal

pub returns-clause-first : goal.returns-clause-first
returns-clause-first c = λ t ranked judged whole.
    let constraint = c.args.constraint.now in
    refused-first t c.args.broken c.args.of constraint c.in_ok-outcome.outcome
    (subst (λ (x : List ℕ). IsValueOf (type_tree t c.args.of) constraint.scope x c.in_ok-outcome.outcome) c.as_str.ensures (c.in_ok-outcome.ensures.value t ranked judged whole))
    c.refusal.result c.refusal.ensures
