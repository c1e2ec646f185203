use Rattle.std.proofs.Common.{◌++◌, ap, ◌∙◌}
use Rattle.xs_names.specs.Names.{Grown}
use Rattle.xs_names.proofs.GrownLaws.{Grown-trans}
use Rattle.representations.specs.Named.{given_name, given_type}
use Rattle.representations.specs.declared.parts.Represented.TheVariants as made
use Rattle.representations.specs.Naming.{declared_number}
use Rattle.representations.specs.Methods.{for_derivation, for_substitution}
use Rattle.representations.proofs.LastingLaws.{in-Grown, in-given, in-append}
use Rattle.representations.proofs.reading.Reading.element.Goals as goal

pub returns-clause-form : goal.returns-clause-form
returns-clause-form c = λ later g.
    let naming = c.args.self.now.naming in
    let form = c.args.form.now in
    let t1 = c.declare.new.names in
    let t2 = c.refer_if.new.names in
    let t3 = c.type_name_if.new.names in
    let g3 : Grown t3 later = Grown-trans t3 c.refer_if-2.new.names later c.in_ok-refer_if-2.ensures.grown g in
    let g2 : Grown t2 later = Grown-trans t2 t3 later c.in_ok-type_name_if.ensures.grown g3 in
    let g1 : Grown t1 later = Grown-trans t1 t2 later c.in_ok-refer_if.ensures.grown g2 in
    let name = c.in_ok-declare.ensures.number later g1 ∙ ap (λ b. declared_number later naming b form.name) c.is_in_target-in_target.ensures in
    let reference = c.in_ok-refer_if.ensures.number later g2 in
    let of = c.in_ok-type_name_if.ensures.of later g3 in
    let head = c.in_ok-refer_if-2.ensures.number later g in
    let finals = c.for_derivation.ensures ∙ ap for_derivation c.chosen.ensures in
    let blocks = c.for_substitution.ensures ∙ ap for_substitution c.chosen-2.ensures in
    λ j. made.Element record {
      global = form.global;
      name = name j;
      reference = reference j;
      of = of j;
      head = head j;
      value = c.in_ok-value.ensures j;
      nillable = c.flag.ensures j;
      is_abstract = c.flag-2.ensures j;
      finals = finals j;
      blocks = blocks j;
    }

pub returns-clause-named : goal.returns-clause-named
returns-clause-named c =
    let t1 = c.declare.new.names in
    let t2 = c.refer_if.new.names in
    let t3 = c.type_name_if.new.names in
    let u = c.refer_if-2.new.names in
    let g3 = c.in_ok-refer_if-2.ensures.grown in
    let g2 : Grown t2 u = Grown-trans t2 t3 u c.in_ok-type_name_if.ensures.grown g3 in
    let g1 : Grown t1 u = Grown-trans t1 t2 u c.in_ok-refer_if.ensures.grown g2 in
    let name = given_name c.in_ok-declare.field-0 in
    let reference = given_name c.in_ok-refer_if.field-0 in
    let of = given_type c.in_ok-type_name_if.field-0 in
    let head = given_name c.in_ok-refer_if-2.field-0 in
    in-append u name (reference ++ (of ++ head)) (in-Grown t1 u name g1 (in-given t1 c.in_ok-declare.field-0 c.in_ok-declare.ensures.within))
    (in-append u reference (of ++ head) (in-Grown t2 u reference g2 (in-given t2 c.in_ok-refer_if.field-0 c.in_ok-refer_if.ensures.within))
    (in-append u of head (in-Grown t3 u of g3 c.in_ok-type_name_if.ensures.named) (in-given u c.in_ok-refer_if-2.field-0 c.in_ok-refer_if-2.ensures.within)))
