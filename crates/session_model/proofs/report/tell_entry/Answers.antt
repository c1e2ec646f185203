use Rattle.std.proofs.Common.{◌≡◌, List, sym, subst}
use Rattle.std.specs.Prelude.{OnOk}
use Rattle.xsv_io.specs.Written.{Written}
use Rattle.assessment.specs.Attribution.{SchemaSet}
use Rattle.compiled_schema.specs.Usable.{set_of}
use Rattle.report_text.specs.Named.{IsNamed, AreNamed}
use Rattle.session_model.specs.Reports.{Line}
use Rattle.session_model.specs.inside.Telling.{text_of, left_all}
use Rattle.session_model.proofs.Lines.{entry-lines, no-entry}
use Rattle.session_model.proofs.report.tell_entry.Goals as goal

pub tell_records-requires-clause-element : goal.tell_records-requires-clause-element
tell_records-requires-clause-element g c =
    let r = c.in-Some.records in
    subst (λ (set : SchemaSet). IsNamed set.names set.parts r.element.now.name r.element.now.of) (sym (c.compiled.ensures.set c.requires)) (c.in-Some.ensures.element_named c.requires)

pub tell_records-requires-clause-attrs : goal.tell_records-requires-clause-attrs
tell_records-requires-clause-attrs g c =
    let r = c.in-Some.records in
    subst (λ (set : SchemaSet). AreNamed set.names set.parts r.attrs.now) (sym (c.compiled.ensures.set c.requires)) (c.in-Some.ensures.attrs_named c.requires)

pub returns-in-Some-clause-written : goal.returns-in-Some-clause-written
returns-in-Some-clause-written g c = λ e at.
    let s = g.S.Session.state c.args.session.now in
    let r = c.in-Some.records in
    subst (λ (lines : List Line). Written g.W.Sink.taken g.W.Sink.faults g.W.Sink.fault_bound c.args.sink.now c.tell_records.new.sink c.tell_records.result (text_of c.args.left.now lines))
    (entry-lines (set_of c.compiled.result.now) s.set c.args.node r.element.now r.attrs.now s.found e (c.compiled.ensures.set c.requires) at (c.in-Some.ensures.element c.requires) (c.in-Some.ensures.attrs c.requires))
    c.tell_records.ensures.written

pub returns-in-Some-clause-left : goal.returns-in-Some-clause-left
returns-in-Some-clause-left g c = λ e at.
    let s = g.S.Session.state c.args.session.now in
    let r = c.in-Some.records in
    subst (λ (lines : List Line). OnOk c.tell_records.result (c.tell_records.new.left ≡ left_all c.args.left.now lines))
    (entry-lines (set_of c.compiled.result.now) s.set c.args.node r.element.now r.attrs.now s.found e (c.compiled.ensures.set c.requires) at (c.in-Some.ensures.element c.requires) (c.in-Some.ensures.attrs c.requires))
    c.tell_records.ensures.left

pub returns-in-None-clause-written : goal.returns-in-None-clause-written
returns-in-None-clause-written g c = λ e at. absurd (no-entry c.args.node (g.S.Session.state c.args.session.now).found e at (c.in-None.ensures.element c.requires))

pub returns-in-None-clause-left : goal.returns-in-None-clause-left
returns-in-None-clause-left g c = λ e at. absurd (no-entry c.args.node (g.S.Session.state c.args.session.now).found e at (c.in-None.ensures.element c.requires))
