use Rattle.std.proofs.Common.{sym}
use Rattle.std.proofs.lemmas.Bool.{true≢false}
use Rattle.xs_components.proofs.SetLaws.{all-is-any}
use Rattle.xs_components.proofs.namespace_constraint.NsConstraint.is_any.Goals as goal

pub returns-in_default : goal.returns-in_default
returns-in_default c = (λ f. absurd (true≢false (sym f)), λ h. absurd (c.in_default.not-Any (all-is-any c.args.self.now h)))
