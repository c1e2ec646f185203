use Rattle.std.proofs.Common.{sym, ◌∙◌}
use Rattle.std.proofs.lemmas.Bool.{eqb-false}
use Rattle.xs_components.proofs.SetLaws.{no-intersection}
use Rattle.xs_components.proofs.namespace_constraint.both_excluded.Goals as goal

pub returns-clause-no_form : goal.returns-clause-no_form
returns-clause-no_form c = λ form.
    no-intersection c.args.first c.args.second form
    (eqb-false c.args.first c.args.second (sym c.eq.ensures ∙ c.if-eq.false))
    (eqb-false c.args.first 0 (sym c.eq-2.ensures ∙ c.if-eq-3.false))
    (eqb-false c.args.second 0 (sym c.eq-else-eq.ensures ∙ c.if-eq-2.false))
