use Rattle.std.proofs.Common.{◌++◌, ap, refl}
use Rattle.xsv_io.proofs.Sequence.{written_then, written_short}
use Rattle.session_model.specs.Reports.{report}
use Rattle.open_document.specs.Replies.{total_line, total_reply}
use Rattle.open_document.proofs.reply.write_lines.Goals as goal

pub returns-in_err-write_report : goal.returns-in_err-write_report
returns-in_err-write_report g c =
    let s = g.S.Session.state c.args.session.now in
    record {
      written = written_short g.W.Sink.taken g.W.Sink.faults g.W.Sink.fault_bound c.args.sink.now c.write_report.new.sink _ c.from_residual.result
          (report c.args.most s) (total_reply s) _ refl c.from_residual.ensures.0 c.in_err-write_report.ensures.written;
    }

pub returns : goal.returns
returns g c =
    let s = g.S.Session.state c.args.session.now in
    let w = c.in_ok-write_report.ensures.written in
    record {
      written = written_then g.W.Sink.taken g.W.Sink.faults g.W.Sink.fault_bound c.args.sink.now c.write_report.new.sink c.write_total.new.sink c.write_total.result
          (report c.args.most s) _ _ (ap (λ total. report c.args.most s ++ total_line total) (c.code_total.ensures c.requires))
          w.all w.cause.later w.kept c.write_total.ensures.written;
    }
