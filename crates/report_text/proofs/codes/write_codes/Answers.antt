use Rattle.std.proofs.Common.{[], ◌∷◌, ◌++◌, sym, ap, ◌∙◌, append_assoc}
use Rattle.xsv_io.proofs.Sequence.{written_then, written_short}
use Rattle.report_text.specs.Words as words
use Rattle.report_text.proofs.codes.write_codes.Goals as goal

pub returns-in_err-write_code-in-Some : goal.returns-in_err-write_code-in-Some
returns-in_err-write_code-in-Some g c = record {
  written = written_short g.W.Sink.taken g.W.Sink.faults g.W.Sink.fault_bound c.args.sink.now c.write_code.new.sink _ c.from_residual.result _
      (words.more_codes c.in-Some.more.now ++ 10 ∷ []) _
      (sym (append_assoc (words.code_text c.in-Some.found.now) (words.more_codes c.in-Some.more.now) (10 ∷ [])) ∙ sym (ap (λ l. words.codes_text l ++ 10 ∷ []) c.in-Some.ensures.cases.0))
      c.from_residual.ensures.0 c.in_err-write_code-in-Some.ensures.written;
}

pub returns-in_ok-write_code-in-Some : goal.returns-in_ok-write_code-in-Some
returns-in_ok-write_code-in-Some g c = record {
  written = written_then g.W.Sink.taken g.W.Sink.faults g.W.Sink.fault_bound c.args.sink.now c.write_code.new.sink c.write_more_codes.new.sink c.write_more_codes.result _ _ _
      (sym (append_assoc (words.code_text c.in-Some.found.now) (words.more_codes c.in-Some.more.now) (10 ∷ [])) ∙ sym (ap (λ l. words.codes_text l ++ 10 ∷ []) c.in-Some.ensures.cases.0))
      c.in_ok-write_code-in-Some.ensures.written.all c.in_ok-write_code-in-Some.ensures.written.cause.later c.in_ok-write_code-in-Some.ensures.written.kept c.write_more_codes.ensures.written;
}
