use Rattle.xs_components.specs.Sets.{admits}
use Rattle.xs_components.proofs.SetLaws.{has-kept}
use Rattle.xs_components.proofs.namespace_constraint.NsConstraint.intersect.Goals as goal

pub returns-in_ok-kept-in-In-clause-set : goal.returns-in_ok-kept-in-In-clause-set
returns-in_ok-kept-in-In-clause-set c = λ ns. rw (c.in_ok-kept-in-In.ensures, c.as_slice.ensures, c.in-In.is) (has-kept (admits c.args.other.now) c.in-In.listed ns)
