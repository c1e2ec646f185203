use Rattle.std.proofs.Common.{◌↔◌, sym, subst}
use Rattle.std.specs.Prelude.{IfOk, IsTrue}
use Rattle.derive_restriction.specs.Contents.{IsTextDerived}
use Rattle.derive_restriction.proofs.texts.is_text_derived.Goals as goal

pub returns-in-Some : goal.returns-in-Some
returns-in-Some c = record {
  derived = subst (λ o. IfOk c.derives_text.result (λ answer. IsTrue answer ↔ IsTextDerived c.args.parts.now o c.args.base)) (sym c.in-Some.is) c.derives_text.ensures.derived;
}
