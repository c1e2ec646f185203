use Rattle.std.proofs.Common.{sym}
use Rattle.std.proofs.lemmas.Bool.{true≢false}
use Rattle.xs_components.proofs.SetLaws.{not-in-list}
use Rattle.xs_components.proofs.namespace_constraint.NsConstraint.has_all_but.Goals as goal

pub returns-in-In : goal.returns-in-In
returns-in-In c = (λ f. absurd (true≢false (sym f)), λ h. absurd (not-in-list c.args.excluded c.in-In.field-0 (λ ns e. rw c.in-In.is at (h ns e))))
