use Rattle.std.proofs.Common.{◌≡◌, ◌∙◌, ap}
use Rattle.command_words.specs.inside.Command.{texts}
use Rattle.command_words.proofs.Fitting.{asked_for, taken}
use Rattle.command_words.proofs.words.read_accepted.Goals as goal

pub returns-in-Ok-clause-asked : goal.returns-in-Ok-clause-asked
returns-in-Ok-clause-asked c =
    let same : texts c.as_slice.result.now ≡ c.args.words.now = ap texts c.as_slice.ensures.value ∙ c.in_ok-read.ensures in
    c.requested.ensures.asked ∙ asked_for c.in-Ok.matches (texts c.as_slice.result.now) c.args.words.now c.in-Ok.ensures.matches same c.requires

pub returns : goal.returns
returns c =
    let same : texts c.as_slice.result.now ≡ c.args.words.now = ap texts c.as_slice.ensures.value ∙ c.in_ok-read.ensures in
    absurd (c.in_default.not-OutOfMemory (c.kind.ensures ∙ c.in-Err.ensures.memory (taken (texts c.as_slice.result.now) c.args.words.now same c.requires)))
