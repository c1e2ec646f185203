use Rattle.std.proofs.Common.{sym}
use Rattle.xs_components.specs.Sets.{admits}
use Rattle.xs_components.proofs.SetLaws.{no-union}
use Rattle.xs_components.proofs.namespace_constraint.NsConstraint.with_all_but.Goals as goal

pub returns-in-false-true-clause-no_form : goal.returns-in-false-true-clause-no_form
returns-in-false-true-clause-no_form c = λ form is.
    no-union c.args.excluded (admits c.args.self.now) form (sym c.in-false-true.ensures'.admitted) (sym c.in-false-true.ensures.admitted) is
