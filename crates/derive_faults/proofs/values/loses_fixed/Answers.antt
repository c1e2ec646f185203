use Rattle.std.proofs.Common.{◌↔◌, sym, ap, subst}
use Rattle.std.specs.Prelude.{IfOk, IsTrue}
use Rattle.std.specs.Option.{option_copied}
use Rattle.derive_faults.specs.Values.{LosesFixed}
use Rattle.derive_faults.proofs.ValueLaws.{loses-in}
use Rattle.derive_faults.proofs.values.loses_fixed.Goals as goal

pub returns-then-base-clause-lost : goal.returns-then-base-clause-lost
returns-then-base-clause-lost c = λ t ranked judged one two.
    subst (λ o. IfOk c.is_lost.result (λ answer. IsTrue answer ↔ LosesFixed t c.args.of c.args.base_of (option_copied c.args.own) o)) (sym (ap option_copied c.in-Some.is))
    (loses-in t c.args.of c.args.base_of (option_copied c.args.own) c.in-Some.base.now c.if-base.true c.is_lost.result (c.is_lost.ensures.lost t ranked judged one two))
