use Rattle.std.proofs.Common.{ap, ◌∙◌, subst, arith}
use Rattle.xsv_io.proofs.Failing.{failed, rose-later}
use Rattle.xsv_io.proofs.Sequence.{IsBegun, then_more, then_front, to_the_end}
use Rattle.std.proofs.lemmas.List.Elements.{All-head, All-tail}
use Rattle.assess_records.specs.declared.record.AttrRecord.{AttrRecord}
use Rattle.report_text.specs.Lines.{attr_line, attr_lines}
use Rattle.report_text.specs.Named.{IsNamed, AreNamed}
use Rattle.report_text.proofs.Lines.{no_length}
use Rattle.report_text.proofs.record.write_attrs.Goals as goal

pub write_attr-requires : goal.write_attr-requires
write_attr-requires g c = record { named = All-head (λ (a : AttrRecord). IsNamed c.args.names.now c.args.parts.now a.name a.of) c.in-Some.record.now c.in-Some.more.now (subst (AreNamed c.args.names.now c.args.parts.now) c.in-Some.ensures.cases.0 c.records.invariant.named) }

pub returns-in_err-write_attr : goal.returns-in_err-write_attr
returns-in_err-write_attr g c =
    let w = c.in_err-write_attr.ensures.written in
    let before = c.records.invariant in
    let begun = subst (λ l. IsBegun (g.W.Sink.taken c.args.sink.now) (g.W.Sink.taken c.records.sink) l (attr_lines c.args.names.now c.args.parts.now c.args.number c.args.records.now))
    (ap (λ l. attr_lines c.args.names.now c.args.parts.now c.args.number l) c.in-Some.ensures.cases.0) before.begun in
    record {
      written = failed g.W.Sink.taken g.W.Sink.faults g.W.Sink.fault_bound c.args.sink.now c.write_attr.new.sink c.from_residual.result _
          c.from_residual.ensures.0
          (then_front _ _ _ (attr_line c.args.names.now c.args.parts.now c.args.number c.in-Some.record.now) (attr_lines c.args.names.now c.args.parts.now c.args.number c.in-Some.more.now) _ begun w.front)
          (omega (arith, before.later, w.cause.later))
          (rose-later before.later w.cause.failed)
          (w.kept ∙ before.kept);
    }

pub records-preserved : goal.records-preserved
records-preserved g c =
    let w = c.in_ok-write_attr.ensures.written in
    let before = c.records.invariant in
    let begun = subst (λ l. IsBegun (g.W.Sink.taken c.args.sink.now) (g.W.Sink.taken c.records.sink) l (attr_lines c.args.names.now c.args.parts.now c.args.number c.args.records.now))
    (ap (λ l. attr_lines c.args.names.now c.args.parts.now c.args.number l) c.in-Some.ensures.cases.0) before.begun in
    record {
      named = All-tail (λ (a : AttrRecord). IsNamed c.args.names.now c.args.parts.now a.name a.of) c.in-Some.record.now c.in-Some.more.now (subst (AreNamed c.args.names.now c.args.parts.now) c.in-Some.ensures.cases.0 before.named);
      begun = then_more _ _ _ (attr_line c.args.names.now c.args.parts.now c.args.number c.in-Some.record.now) (attr_lines c.args.names.now c.args.parts.now c.args.number c.in-Some.more.now) _ begun w.all;
      later = omega (arith, before.later, w.cause.later);
      kept = w.kept ∙ before.kept;
    }

pub returns : goal.returns
returns g c =
    let before = c.records.invariant in
    let begun = subst (λ l. IsBegun (g.W.Sink.taken c.args.sink.now) (g.W.Sink.taken c.records.sink) l (attr_lines c.args.names.now c.args.parts.now c.args.number c.args.records.now))
    (ap (λ l. attr_lines c.args.names.now c.args.parts.now c.args.number l) (no_length _ c.in_default.ensures.cases)) before.begun in
    record {
      written = record {
        all = to_the_end (g.W.Sink.taken c.args.sink.now) (g.W.Sink.taken c.records.sink) (attr_lines c.args.names.now c.args.parts.now c.args.number c.args.records.now) begun;
        front = tt;
        cause = record { later = before.later; failed = tt };
        kept = before.kept;
      };
    }
