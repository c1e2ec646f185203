use Rattle.std.proofs.Common.{List, Some, sym, ap, ◌∙◌, subst}
use Rattle.assess_records.specs.declared.record.AttrRecord.{AttrRecord}
use Rattle.assess_records.specs.declared.record.ElementRecord.{ElementRecord}
use Rattle.assessment.specs.Assessment.{Entry}
use Rattle.report_text.specs.Named.{IsNamed, AreNamed}
use Rattle.edit_session.proofs.Known.{read-none, read-some, named-held}
use Rattle.edit_session.proofs.session.EditSessionSession.records.Goals as goal

pub returns-in-None-clause-element : goal.returns-in-None-clause-element
returns-in-None-clause-element c = λ open_now.
    read-none c.self.inside c.args.self.now c.self.view_is c.self.invariant open_now c.args.node (λ (e : Entry). e.element) c.in-None.ensures

pub returns-in-None-clause-attrs : goal.returns-in-None-clause-attrs
returns-in-None-clause-attrs c = λ open_now.
    read-none c.self.inside c.args.self.now c.self.view_is c.self.invariant open_now c.args.node (λ (e : Entry). e.attrs) c.in-None.ensures

pub returns-in-Some-clause-element : goal.returns-in-Some-clause-element
returns-in-Some-clause-element c = λ open_now.
    ap Some c.records_of.ensures.element
    ∙ read-some c.self.inside c.args.self.now c.self.view_is c.self.invariant open_now c.args.node (λ (e : Entry). e.element) c.in-Some.own.now c.in-Some.ensures

pub returns-in-Some-clause-attrs : goal.returns-in-Some-clause-attrs
returns-in-Some-clause-attrs c = λ open_now.
    ap Some c.records_of.ensures.attrs
    ∙ read-some c.self.inside c.args.self.now c.self.view_is c.self.invariant open_now c.args.node (λ (e : Entry). e.attrs) c.in-Some.own.now c.in-Some.ensures

pub returns-in-Some-clause-element_named : goal.returns-in-Some-clause-element_named
returns-in-Some-clause-element_named c = λ open_now.
    let named = named-held c.self.inside c.args.self.now c.self.view_is c.self.invariant open_now c.args.node c.entries_are_named.ensures.named c.in-Some.own.now c.in-Some.ensures in
    subst (λ (r : ElementRecord). IsNamed c.args.self.now.set.names c.args.self.now.set.parts r.name r.of) (sym c.records_of.ensures.element) named.element_named

pub returns-in-Some-clause-attrs_named : goal.returns-in-Some-clause-attrs_named
returns-in-Some-clause-attrs_named c = λ open_now.
    let named = named-held c.self.inside c.args.self.now c.self.view_is c.self.invariant open_now c.args.node c.entries_are_named.ensures.named c.in-Some.own.now c.in-Some.ensures in
    subst (λ (attrs : List AttrRecord). AreNamed c.args.self.now.set.names c.args.self.now.set.parts attrs) (sym c.records_of.ensures.attrs) named.attrs_named
