use Rattle.std.proofs.Common.{◌≡◌, ◌∙◌, ap, sym, Option, Some, None}
use Rattle.time_value.specs.declared.literal.Literal.{Literal}
use Rattle.time_value.specs.Literal.{literal}
use Rattle.time_value.specs.Moment.{moment_of}
use Rattle.time_value.specs.Spelling.{literal_of}
use Rattle.time_value.proofs.Reading.{literal-text}
use Rattle.time_value.proofs.Taking.{some_is}
use Rattle.time_value.proofs.Literals.{literal-takes}
use Rattle.time_value.proofs.moment.Moment.read.Goals as goal

pub returns-in-Some-clause-lexical : goal.returns-in-Some-clause-lexical
returns-in-Some-clause-lexical c w is e =
    let read = c.fields.ensures.value ∙ ap (literal c.args.kind) (c.as_bytes.ensures.value ∙ e) ∙ literal-text c.args.kind w is in
    c.of.ensures ∙ ap moment_of (some_is _ _ (sym c.in-Some.is ∙ read))

pub returns-in-Some-clause-not_lexical : goal.returns-in-Some-clause-not_lexical
returns-in-Some-clause-not_lexical c other =
    let read = sym (ap (literal c.args.kind) c.as_bytes.ensures.value) ∙ sym c.fields.ensures.value ∙ c.in-Some.is in
    let taken = literal-takes c.args.kind c.args.text.now c.in-Some.literal read in
    (taken.what, taken.is, taken.text_is)

pub returns-in-None-clause-lexical : goal.returns-in-None-clause-lexical
returns-in-None-clause-lexical c w is e =
    let read = c.fields.ensures.value ∙ ap (literal c.args.kind) (c.as_bytes.ensures.value ∙ e) ∙ literal-text c.args.kind w is in
    let never : ◌≡◌ {A = Option Literal} None (Some (literal_of c.args.kind w)) = sym c.in-None.is ∙ read in
    absurd (cc)
