use Rattle.xs_components.specs.declared.common.TypeId.TheVariants.{Complex}
use Rattle.particle_models.specs.Parts.{form_in}
use Rattle.derive_models.specs.Forms.{content_form}
use Rattle.derive_models.proofs.RestrictionLaws.{forms-first}
use Rattle.derive_models.proofs.compared.forms_code.Goals as goal

pub returns : goal.returns
returns g c = record {
  first = λ members are. forms-first c.args.set.now.terms.now (g.T.Derivation.derives c.args.set.now.types.now)
      (form_in c.in_ok-own.own.parts.items c.in_ok-own.own.root) (form_in c.in_ok-under.under.parts.items c.in_ok-under.under.root)
      (content_form c.args.set.now.parts.now members (Complex c.args.id)) (content_form c.args.set.now.parts.now members c.args.base.now)
      (c.in_ok-own.ensures.tree members are) (c.in_ok-under.ensures.tree members are)
      c.restricts.result c.told_code.result c.restricts.ensures.ok c.restricts.ensures.broken c.told_code.ensures.told;
}
