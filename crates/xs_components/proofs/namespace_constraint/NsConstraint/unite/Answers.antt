use Rattle.xs_components.specs.declared.namespace_constraint.NsConstraint.TheVariants.{Not}
use Rattle.xs_components.proofs.SetLaws.{none-exchanged, has-merged}
use Rattle.xs_components.proofs.namespace_constraint.NsConstraint.unite.Goals as goal

pub returns-in-Not-other-clause-no_form : goal.returns-in-Not-other-clause-no_form
returns-in-Not-other-clause-no_form c =
    rw c.in-Not-other.is (none-exchanged c.with_all_but-in-Not-other.result (Not c.in-Not-other.excluded) c.args.self.now c.with_all_but-in-Not-other.ensures.no_form)

pub returns-in_ok-all-in-In-other-clause-set : goal.returns-in_ok-all-in-In-other-clause-set
returns-in_ok-all-in-In-other-clause-set c = λ ns.
    rw (c.in_ok-all-in-In-other.ensures, c.as_slice.ensures, c.as_slice-in-In-other.ensures, c.in-In.is, c.in-In-other.is) (has-merged c.in-In.listed c.in-In-other.more ns)
