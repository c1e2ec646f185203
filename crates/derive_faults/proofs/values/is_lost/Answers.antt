use Rattle.std.proofs.Common.{◌↔◌, sym, ap, subst}
use Rattle.std.specs.Prelude.{IfOk, IsTrue}
use Rattle.std.specs.Option.{option_copied}
use Rattle.derive_faults.specs.Values.{IsLost}
use Rattle.derive_faults.proofs.ValueLaws.{lost-in}
use Rattle.derive_faults.proofs.values.is_lost.Goals as goal

pub returns-then-own-clause-lost : goal.returns-then-own-clause-lost
returns-then-own-clause-lost c = λ t ranked judged one two.
    subst (λ o. IfOk c.has_other_value.result (λ answer. IsTrue answer ↔ IsLost t c.args.of c.args.base_of o c.args.base.now)) (sym (ap option_copied c.in-Some.is))
    (lost-in t c.args.of c.args.base_of c.in-Some.own.now c.args.base.now c.if-own.true c.has_other_value.result (c.has_other_value.ensures.lost t ranked judged one two))
