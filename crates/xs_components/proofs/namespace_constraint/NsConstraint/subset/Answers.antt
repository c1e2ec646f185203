use Rattle.std.proofs.Common.{◌≡◌, sym, ◌∙◌}
use Rattle.std.specs.List.{list_all}
use Rattle.xs_components.specs.Sets.{admits}
use Rattle.xs_components.proofs.SetLaws.{all-has, has-all}
use Rattle.xs_components.proofs.namespace_constraint.NsConstraint.subset.Goals as goal

pub returns-in-In : goal.returns-in-In
returns-in-In c =
    let says : c.has_all.result ≡ list_all (admits c.args.other.now) c.in-In.listed = rw c.as_slice.ensures at c.has_all.ensures in
    record {
      subset = rw c.in-In.is (λ t. all-has (admits c.args.other.now) c.in-In.listed (sym says ∙ t), λ h. says ∙ has-all (admits c.args.other.now) c.in-In.listed h);
    }
