use Rattle.std.proofs.Common.{◌≡◌, ◌↔◌, Some, sym, ap, ◌∙◌, subst}
use Rattle.std.specs.Prelude.{IsTrue}
use Rattle.std.specs.Option.{option_copied}
use Rattle.xs_components.specs.declared.common.Methods.{Methods}
use Rattle.xs_components.specs.declared.common.TypeId.{TypeId}
use Rattle.type_derivation.specs.Chains.{Derives}
use Rattle.elem_governing.proofs.DerivedLaws.{derives-answer}
use Rattle.derive_models.specs.Derivation.{excluded}
use Rattle.derive_models.specs.inside.Asked.{marks_of}
use Rattle.derive_models.proofs.UnionLaws.{marks-base}
use Rattle.derive_models.proofs.derivations.DerivationsDerivation.restricts_type.Goals as goal

pub returns-in_default : goal.returns-in_default
returns-in_default c = record {
  derives = derives-answer c.args.self.now.parts.now excluded c.args.sub c.args.base c.requires.valid.ranked c.requires.sub.there c.requires.base.there c.derives_along.result c.derives_along.ensures;
}

pub returns : goal.returns
returns c =
    let t = c.args.self.now.parts.now in
    let there : marks_of c.args.self.now.unions.items c.args.base ≡ Some c.in-Some.within.now = sym c.within.ensures ∙ ap option_copied c.in-Some.is in
    let base = marks-base t c.args.self.now.unions.items c.requires.valid.unions c.args.base c.in-Some.within.now there in
    let tells : IsTrue c.derives.result ↔ Derives t excluded c.args.sub c.in-Some.within.now.base = subst (λ (m : Methods). IsTrue c.derives.result ↔ Derives t m c.args.sub c.in-Some.within.now.base) c.excluded.ensures c.derives.ensures.derives in
    record {
      derives = derives-answer t excluded c.args.sub c.args.base c.requires.valid.ranked c.requires.sub.there c.requires.base.there c.derives.result
          (subst (λ (b : TypeId). IsTrue c.derives.result ↔ Derives t excluded c.args.sub b) base tells);
    }
