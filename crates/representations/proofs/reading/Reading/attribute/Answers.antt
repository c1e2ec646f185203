use Rattle.std.proofs.Common.{ap, ◌∙◌}
use Rattle.xs_names.specs.Names.{Grown}
use Rattle.xs_names.proofs.GrownLaws.{Grown-trans}
use Rattle.representations.specs.declared.parts.Represented.TheVariants as made
use Rattle.representations.specs.Naming.{declared_number}
use Rattle.representations.proofs.reading.Reading.attribute.Goals as goal

pub returns-clause-form : goal.returns-clause-form
returns-clause-form c = λ later g.
    let naming = c.args.self.now.naming in
    let form = c.args.form.now in
    let t2 = c.refer_if.new.names in
    let g2 : Grown t2 later = Grown-trans t2 c.type_name_if.new.names later c.in_ok-type_name_if.ensures.grown g in
    let g1 : Grown c.declare.new.names later = Grown-trans c.declare.new.names t2 later c.in_ok-refer_if.ensures.grown g2 in
    let name = c.in_ok-declare.ensures.number later g1 ∙ ap (λ b. declared_number later naming b form.name) c.is_in_target-in_target.ensures in
    let reference = c.in_ok-refer_if.ensures.number later g2 in
    let of = c.in_ok-type_name_if.ensures.of later g in
    λ j. made.Attribute record {
      global = form.global;
      name = name j;
      reference = reference j;
      of = of j;
      value = c.in_ok-value.ensures j;
      required = c.is_required.ensures j;
      prohibited = c.is_prohibited.ensures j;
    }
