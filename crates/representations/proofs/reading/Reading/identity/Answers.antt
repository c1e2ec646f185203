use Rattle.std.proofs.Common.{sym, ap, ◌∙◌}
use Rattle.xs_names.proofs.GrownLaws.{Grown-trans}
use Rattle.representations.specs.declared.parts.Represented.TheVariants as made
use Rattle.schema_shape.specs.declared.forms.IdentityKind.{IdentityKind}
use Rattle.representations.specs.ElementForms.{identity_of}
use Rattle.representations.proofs.reading.Reading.identity.Goals as goal
use Rattle.representations.proofs.reading.Reading.identity.Goals.{in-Unique, in-Key, in-Keyref}

pub returns-clause-form : goal.returns-clause-form
returns-clause-form c = λ later g.
    let name = c.in_ok-name.ensures.number later (Grown-trans c.declare_global.new.names c.refer_if.new.names later c.in_ok-refer.ensures.grown g) in
    let refer = c.in_ok-refer.ensures.number later g in
    let by = λ (kind : IdentityKind). identity_of later c.args.self.now.naming c.args.self.now.defaults kind c.args.name.now c.args.refer.now in
    elim c.match-kind.branch [
      | in-Unique w ↦ w.result-is ∙ ap made.Unique name ∙ sym (ap by w.in-Unique.is)
      | in-Key w ↦ w.result-is ∙ ap made.Key name ∙ sym (ap by w.in-Key.is)
      | in-Keyref w ↦ w.result-is ∙ (λ j. made.Keyref (name j) (refer j)) ∙ sym (ap by w.in-Keyref.is)
    ]
