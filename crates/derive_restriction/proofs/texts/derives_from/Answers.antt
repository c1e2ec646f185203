use Rattle.std.proofs.Common.{◌↔◌, IsTrue, IfOk, Bool, sym, subst}
use Rattle.derive_restriction.specs.Contents as spec
use Rattle.derive_restriction.proofs.texts.derives_from.Goals as goal

pub returns-then-text : goal.returns-then-text
returns-then-text c = record {
  derived =
      subst (λ (b : Bool). IfOk c.derives_type_member.result (λ answer. IsTrue answer ↔ spec.DerivesFromText c.args.parts.now c.args.own c.args.text.of b))
      (sym c.if-text.true) c.derives_type_member.ensures.derived;
}
