use Rattle.std.specs.Prelude.{codes}
use Rattle.std.proofs.Common.{[], ◌∷◌, ◌++◌, ap, ◌∙◌, subst, arith, append_assoc}
use Rattle.xsv_io.proofs.Failing.{failed, rose-later}
use Rattle.xsv_io.proofs.Sequence.{IsBegun, then_more, then_front, written_then}
use Rattle.report_text.specs.Words as words
use Rattle.report_text.proofs.Lines.{no_length}
use Rattle.report_text.proofs.codes.write_more_codes.Goals as goal

pub returns-in_err-write_next_code : goal.returns-in_err-write_next_code
returns-in_err-write_next_code g c =
    let w = c.in_err-write_next_code.ensures.written in
    let before = c.codes.invariant in
    let begun = subst (λ l. IsBegun (g.W.Sink.taken c.args.sink.now) (g.W.Sink.taken c.codes.sink) l (words.more_codes c.args.more.now ++ 10 ∷ []))
    (ap (λ l. words.more_codes l ++ 10 ∷ []) c.in-Some.ensures.cases.0 ∙ append_assoc (codes "," ++ words.code_text c.in-Some.found.now) (words.more_codes c.in-Some.later.now) (10 ∷ [])) before.begun in
    record {
      written = failed g.W.Sink.taken g.W.Sink.faults g.W.Sink.fault_bound c.args.sink.now c.write_next_code.new.sink c.from_residual.result _
          c.from_residual.ensures.0
          (then_front _ _ _ (codes "," ++ words.code_text c.in-Some.found.now) (words.more_codes c.in-Some.later.now ++ 10 ∷ []) _ begun w.front)
          (omega (arith, before.later, w.cause.later))
          (rose-later before.later w.cause.failed)
          (w.kept ∙ before.kept);
    }

pub codes-preserved : goal.codes-preserved
codes-preserved g c =
    let w = c.in_ok-write_next_code.ensures.written in
    let before = c.codes.invariant in
    let begun = subst (λ l. IsBegun (g.W.Sink.taken c.args.sink.now) (g.W.Sink.taken c.codes.sink) l (words.more_codes c.args.more.now ++ 10 ∷ []))
    (ap (λ l. words.more_codes l ++ 10 ∷ []) c.in-Some.ensures.cases.0 ∙ append_assoc (codes "," ++ words.code_text c.in-Some.found.now) (words.more_codes c.in-Some.later.now) (10 ∷ [])) before.begun in
    record {
      begun = then_more _ _ _ (codes "," ++ words.code_text c.in-Some.found.now) (words.more_codes c.in-Some.later.now ++ 10 ∷ []) _ begun w.all;
      later = omega (arith, before.later, w.cause.later);
      kept = w.kept ∙ before.kept;
    }

pub returns : goal.returns
returns g c =
    let before = c.codes.invariant in
    let begun = subst (λ l. IsBegun (g.W.Sink.taken c.args.sink.now) (g.W.Sink.taken c.codes.sink) l (words.more_codes c.args.more.now ++ 10 ∷ []))
    (ap (λ l. words.more_codes l ++ 10 ∷ []) (no_length _ c.in_default.ensures.cases)) before.begun in
    record {
      written = written_then g.W.Sink.taken g.W.Sink.faults g.W.Sink.fault_bound c.args.sink.now c.codes.sink c.write_text.new.sink c.write_text.result begun.0 (10 ∷ []) _
          begun.2 begun.1 before.later before.kept c.write_text.ensures.written;
    }
