use Rattle.std.proofs.Common.{◌-◌, [], length, ap, sym, ◌∙◌}
use Rattle.std.specs.Prelude.{codes}
use Rattle.generated_stream.specs.Summaries as spec
use Rattle.generated_stream.proofs.Counting.{counted_more, counted_last, few_more}
use Rattle.generated_stream.proofs.summary.summary_of.Goals as goal

pub lines-preserved : goal.lines-preserved
lines-preserved c =
    let i = c.lines.invariant in
    let cut = c.in-Some.cut in
    let is = c.in-Some.ensures in
    let more = c.with-tally.ensures in
    let old = c.lines.tally in
    let new = c.with-tally.result in
    let left = c.lines.left.now in
    record {
      accepted_is = counted_more (codes "ok ") _ old.accepted new.accepted left cut.line.now cut.behind.now i.accepted_is is.lines_are more.accepted_is;
      refused_is = counted_more (codes "no ") _ old.refused new.refused left cut.line.now cut.behind.now i.refused_is is.lines_are more.refused_is;
      end_is = i.end_is ∙ ap (spec.end_with (spec.end_of old)) is.lines_are ∙ sym (more.end_is (spec.lines cut.behind.now));
      few_accepted = few_more (spec.begins (codes "ok ") cut.line.now) old.accepted new.accepted _ (length left) (length cut.line.now) (length cut.behind.now) i.few_accepted is.shorter more.accepted_is;
      few_refused = few_more (spec.begins (codes "no ") cut.line.now) old.refused new.refused _ (length left) (length cut.line.now) (length cut.behind.now) i.few_refused is.shorter more.refused_is;
    }

pub returns-clause-accepted : goal.returns-clause-accepted
returns-clause-accepted c =
    let i = c.lines.invariant in
    c.summary.ensures.accepted
    ∙ ap (λ n. n - 1) (sym (counted_last (codes "ok ") _ c.lines.tally.accepted c.with.result.accepted c.lines.left.now i.accepted_is c.in_default.ensures c.with.ensures.accepted_is))

pub returns-clause-refused : goal.returns-clause-refused
returns-clause-refused c =
    let i = c.lines.invariant in
    c.summary.ensures.refused
    ∙ sym (counted_last (codes "no ") _ c.lines.tally.refused c.with.result.refused c.lines.left.now i.refused_is c.in_default.ensures c.with.ensures.refused_is)

pub returns-clause-end : goal.returns-clause-end
returns-clause-end c =
    let i = c.lines.invariant in
    c.summary.ensures.end
    ∙ sym (i.end_is ∙ ap (spec.end_with (spec.end_of c.lines.tally)) c.in_default.ensures ∙ sym (c.with.ensures.end_is []))
