use Rattle.std.proofs.Common.{◌≡◌, length, sym, ◌∙◌, arith, Some}
use Rattle.pattern_syntax.specs.ReaderViews.{state_of}
use Rattle.pattern_syntax.specs.Grammar.{RegExp}
use Rattle.pattern_syntax.specs.Outcome.{outcome_of, answer_at}
use Rattle.pattern_syntax.specs.Reading.{Reads, IsWritten, answer_of}
use Rattle.pattern_syntax.specs.Machine.{step}
use Rattle.pattern_syntax.proofs.Reading.{next_state, stuck_at, stuck_only, dead_step, alive_step, whole_read, reads_short, reads_end, only_end, on_ok}
use Rattle.pattern_syntax.proofs.read.read_characters.Goals as goal

pub characters-preserved : goal.characters-preserved
characters-preserved c =
    next_state c.args.text.now c.characters.place c.index-text-place.result (state_of c.characters.reader) (Some (state_of c.step.new.self)) c.characters-test.true c.index-text-place.is c.characters.invariant
    (alive_step c.in_ok-step.field-0 (step (state_of c.characters.reader) c.index-text-place.result) (state_of c.step.new.self) c.if-not-branch.false c.in_ok-step.ensures)

pub returns-then-not-branch-clause-reads : goal.returns-then-not-branch-clause-reads
returns-then-not-branch-clause-reads c =
    stuck_at c.args.text.now c.characters.place c.index-text-place.result (state_of c.characters.reader) c.characters-test.true c.index-text-place.is c.characters.invariant
    (dead_step c.in_ok-step.field-0 (step (state_of c.characters.reader) c.index-text-place.result) (state_of c.step.new.self) c.if-not-branch.true c.in_ok-step.ensures)

pub returns-then-not-branch-clause-only : goal.returns-then-not-branch-clause-only
returns-then-not-branch-clause-only c =
    stuck_only c.args.text.now c.characters.place
    (stuck_at c.args.text.now c.characters.place c.index-text-place.result (state_of c.characters.reader) c.characters-test.true c.index-text-place.is c.characters.invariant
    (dead_step c.in_ok-step.field-0 (step (state_of c.characters.reader) c.index-text-place.result) (state_of c.step.new.self) c.if-not-branch.true c.in_ok-step.ensures))

pub returns-then-not-is_end-clause-reads : goal.returns-then-not-is_end-clause-reads
returns-then-not-is_end-clause-reads c =
    let whole : c.characters.place ≡ length c.args.text.now = omega arith in
    reads_short c.args.text.now (state_of c.characters.reader) (whole_read c.args.text.now c.characters.place (state_of c.characters.reader) whole c.characters.invariant) (sym c.is_end.ensures ∙ c.if-not-is_end.true)

pub returns-then-not-is_end-clause-only : goal.returns-then-not-is_end-clause-only
returns-then-not-is_end-clause-only c =
    let whole : c.characters.place ≡ length c.args.text.now = omega arith in
    stuck_only c.args.text.now (length c.args.text.now)
    (reads_short c.args.text.now (state_of c.characters.reader) (whole_read c.args.text.now c.characters.place (state_of c.characters.reader) whole c.characters.invariant) (sym c.is_end.ensures ∙ c.if-not-is_end.true))

pub returns-clause-reads : goal.returns-clause-reads
returns-clause-reads c =
    let whole : c.characters.place ≡ length c.args.text.now = omega arith in
    let run = whole_read c.args.text.now c.characters.place (state_of c.characters.reader) whole c.characters.invariant in
    on_ok c.finish.result (λ outcome. outcome_of outcome ≡ answer_at (state_of c.characters.reader)) (λ outcome. Reads c.args.text.now (outcome_of outcome)) c.finish.ensures
    (λ outcome e. reads_end c.args.text.now (state_of c.characters.reader) (outcome_of outcome) run (sym c.is_end.ensures ∙ c.if-not-is_end.false) e)

pub returns-clause-only : goal.returns-clause-only
returns-clause-only c =
    let whole : c.characters.place ≡ length c.args.text.now = omega arith in
    let run = whole_read c.args.text.now c.characters.place (state_of c.characters.reader) whole c.characters.invariant in
    on_ok c.finish.result (λ outcome. outcome_of outcome ≡ answer_at (state_of c.characters.reader)) (λ outcome. (r : RegExp) → IsWritten c.args.text.now r → outcome_of outcome ≡ answer_of r) c.finish.ensures
    (λ outcome e. only_end c.args.text.now (state_of c.characters.reader) (outcome_of outcome) run e)
