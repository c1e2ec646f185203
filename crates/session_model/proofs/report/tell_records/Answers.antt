use Rattle.std.proofs.Common.{◌≡◌, ◌++◌, ℕ, Option, sym, ap, ◌∙◌, subst, map}
use Rattle.std.specs.Prelude.{OnOk}
use Rattle.xsv_io.proofs.Sequence.{written_then, written_short}
use Rattle.compiled_schema.specs.Usable.{set_of}
use Rattle.session_model.specs.Reports.{attr_line_of}
use Rattle.session_model.specs.inside.Telling.{element_line_of, told_text, text_of, left_behind, left_all}
use Rattle.session_model.proofs.Telling.{line-then}
use Rattle.session_model.proofs.report.tell_records.Goals as goal

pub returns-in_err-tell_element-clause-written : goal.returns-in_err-tell_element-clause-written
returns-in_err-tell_element-clause-written g c =
    let own = element_line_of (set_of c.args.set.now) c.args.node c.args.records.element.now in
    let more = map (attr_line_of (set_of c.args.set.now) c.args.node) c.args.records.attrs.now in
    written_short g.W.Sink.taken g.W.Sink.faults g.W.Sink.fault_bound c.args.sink.now c.tell_element.new.sink _ c.from_residual.result
    (told_text c.args.left.now own) (text_of (left_behind c.args.left.now own.codes) more) _ (sym (line-then c.args.left.now own more)) c.from_residual.ensures.0
    c.in_err-tell_element.ensures.written

pub returns-clause-written : goal.returns-clause-written
returns-clause-written g c =
    let own = element_line_of (set_of c.args.set.now) c.args.node c.args.records.element.now in
    let more = map (attr_line_of (set_of c.args.set.now) c.args.node) c.args.records.attrs.now in
    let w = c.in_ok-tell_element.ensures.written in
    written_then g.W.Sink.taken g.W.Sink.faults g.W.Sink.fault_bound c.args.sink.now c.tell_element.new.sink c.tell_attrs.new.sink c.tell_attrs.result
    (told_text c.args.left.now own) (text_of c.left_behind.result more) _
    (ap (λ (n : Option ℕ). told_text c.args.left.now own ++ text_of n more) c.left_behind.ensures ∙ sym (line-then c.args.left.now own more))
    w.all w.cause.later w.kept c.tell_attrs.ensures.written

pub returns-clause-left : goal.returns-clause-left
returns-clause-left g c =
    let more = map (attr_line_of (set_of c.args.set.now) c.args.node) c.args.records.attrs.now in
    subst (λ (n : Option ℕ). OnOk c.tell_attrs.result (c.tell_attrs.new.left ≡ left_all n more)) c.left_behind.ensures c.tell_attrs.ensures.left
