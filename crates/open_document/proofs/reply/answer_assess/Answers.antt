use Rattle.std.proofs.Common.{sym, ap, ◌∙◌, subst}
use Rattle.assessment.specs.Attribution.{SchemaSet}
use Rattle.tree_rows.specs.Kinds.{kind_of}
use Rattle.report_text.specs.Lines.{records_text}
use Rattle.report_text.specs.Named.{IsNamed, AreNamed}
use Rattle.told.specs.Tells.{Wrote}
use Rattle.open_document.specs.Replies.{no_element}
use Rattle.open_document.proofs.Entries.{found_text, no_text}
use Rattle.open_document.proofs.reply.answer_assess.Goals as goal

pub tell_records-requires-clause-element : goal.tell_records-requires-clause-element
tell_records-requires-clause-element g c =
    let r = c.in-Some.records in
    subst (λ (set : SchemaSet). IsNamed set.names set.parts r.element.now.name r.element.now.of) (sym (c.compiled.ensures.set c.requires)) (c.in-Some.ensures.element_named c.requires)

pub tell_records-requires-clause-attrs : goal.tell_records-requires-clause-attrs
tell_records-requires-clause-attrs g c =
    let r = c.in-Some.records in
    subst (λ (set : SchemaSet). AreNamed set.names set.parts r.attrs.now) (sym (c.compiled.ensures.set c.requires)) (c.in-Some.ensures.attrs_named c.requires)

pub returns-in-Some-clause-wrote : goal.returns-in-Some-clause-wrote
returns-in-Some-clause-wrote g c =
    let s = g.S.Session.state c.args.session.now in
    let r = c.in-Some.records in
    subst (Wrote c.tell_records.result (g.W.Sink.taken c.args.sink.now) (g.W.Sink.taken c.tell_records.new.sink))
    (ap (λ (set : SchemaSet). records_text set.names set.parts c.args.node r.element.now r.attrs.now) (c.compiled.ensures.set c.requires)
    ∙ sym (found_text s.set (kind_of c.args.node s.document.forest) c.args.node s.found r.element.now r.attrs.now (c.in-Some.ensures.element c.requires) (c.in-Some.ensures.attrs c.requires)))
    c.tell_records.ensures.tells.wrote

pub returns-in-None-clause-wrote : goal.returns-in-None-clause-wrote
returns-in-None-clause-wrote g c =
    let s = g.S.Session.state c.args.session.now in
    subst (Wrote c.refuse_element.result (g.W.Sink.taken c.args.sink.now) (g.W.Sink.taken c.refuse_element.new.sink))
    (ap no_element c.live.ensures ∙ sym (no_text s.set (kind_of c.args.node s.document.forest) c.args.node s.found (c.in-None.ensures.element c.requires)))
    c.refuse_element.ensures.tells.wrote
