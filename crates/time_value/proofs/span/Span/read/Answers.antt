use Rattle.std.proofs.Common.{◌≡◌, ◌∙◌, ap, sym, Option, Some, None}
use Rattle.time_value.specs.declared.duration.DurationLiteral.{DurationLiteral}
use Rattle.time_value.specs.Duration.{duration}
use Rattle.time_value.specs.Span.{span_of}
use Rattle.time_value.specs.DurationSpelling.{parts_of_written}
use Rattle.time_value.proofs.DurationReading.{duration-text}
use Rattle.time_value.proofs.Taking.{some_is}
use Rattle.time_value.proofs.DurationTaking.{duration-takes}
use Rattle.time_value.proofs.span.Span.read.Goals as goal

pub returns-in-Some-clause-lexical : goal.returns-in-Some-clause-lexical
returns-in-Some-clause-lexical c w is e =
    let read = c.duration.ensures ∙ ap duration (c.as_bytes.ensures.value ∙ e) ∙ duration-text w is in
    c.of.ensures ∙ ap span_of (some_is _ _ (sym c.in-Some.is ∙ read))

pub returns-in-Some-clause-not_lexical : goal.returns-in-Some-clause-not_lexical
returns-in-Some-clause-not_lexical c other =
    let read = sym (ap duration c.as_bytes.ensures.value) ∙ sym c.duration.ensures ∙ c.in-Some.is in
    let taken = duration-takes c.args.text.now c.in-Some.literal read in
    (taken.what, taken.is, taken.text_is)

pub returns-in-None-clause-lexical : goal.returns-in-None-clause-lexical
returns-in-None-clause-lexical c w is e =
    let read = c.duration.ensures ∙ ap duration (c.as_bytes.ensures.value ∙ e) ∙ duration-text w is in
    let never : ◌≡◌ {A = Option DurationLiteral} None (Some (parts_of_written w)) = sym c.in-None.is ∙ read in
    absurd (cc)
