use Rattle.std.proofs.Common.{Ok, Err, sym, subst}
use Rattle.std.specs.Io.KnownBytes.{Appends}
use Rattle.xs_names.specs.Names.{NameTable}
use Rattle.xsv_io.specs.Writing.{AppendsFront}
use Rattle.compiled_schema.specs.Usable.{set_of}
use Rattle.kept_next.specs.Answers.{answers_by, reply}
use Rattle.told.specs.declared.break_off.BreakOff.TheVariants.{WriteFault}
use Rattle.open_document.specs.Held.{state_of}
use Rattle.open_document.proofs.Placed.{names-are, next_answered}
use Rattle.open_document.proofs.next.tell_names.Goals as goal

pub write_answers-requires : goal.write_answers-requires
write_answers-requires g c =
    let around = c.requires.around in
    let at = around.2 in
    (at.question.set, at.question.particle, at.names, at.place_is, names-are (state_of c.args.document.now) around.0 around.1 c.args.place.now at (set_of c.compiled.result.now) (c.compiled.ensures.set c.requires.live))

pub returns-in-Ok-clause-answers : goal.returns-in-Ok-clause-answers
returns-in-Ok-clause-answers g c = λ node index next at.
    let s = state_of c.args.document.now in
    let old = g.W.Sink.taken c.args.sink.now in
    let new = g.W.Sink.taken c.write_answers.new.sink in
    let same = names-are s node index c.args.place.now at (set_of c.compiled.result.now) (c.compiled.ensures.set c.requires.live) in
    let wrote = subst (λ (t : NameTable). Appends old new (reply t (answers_by c.args.place.now at.question.set at.names))) (sym same)
    (c.in-Ok.ensures.written at.question.set at.question.particle at.names at.place_is same).all in
    next_answered s node index c.args.place.now at (Ok tt) old new c.args.steps.now c.write_answers.new.steps next wrote c.write_answers.ensures.least c.write_answers.ensures.most

pub returns-in-Err-clause-answers : goal.returns-in-Err-clause-answers
returns-in-Err-clause-answers g c = λ node index next at.
    let s = state_of c.args.document.now in
    let old = g.W.Sink.taken c.args.sink.now in
    let new = g.W.Sink.taken c.write_answers.new.sink in
    let same = names-are s node index c.args.place.now at (set_of c.compiled.result.now) (c.compiled.ensures.set c.requires.live) in
    let wrote = subst (λ (t : NameTable). AppendsFront old new (reply t (answers_by c.args.place.now at.question.set at.names))) (sym same)
    (c.in-Err.ensures.written at.question.set at.question.particle at.names at.place_is same).front in
    next_answered s node index c.args.place.now at (Err WriteFault) old new c.args.steps.now c.write_answers.new.steps next wrote c.write_answers.ensures.least c.write_answers.ensures.most

pub returns-in-Ok-clause-writes : goal.returns-in-Ok-clause-writes
returns-in-Ok-clause-writes g c =
    let around = c.requires.around in
    let at = around.2 in
    let same = names-are (state_of c.args.document.now) around.0 around.1 c.args.place.now at (set_of c.compiled.result.now) (c.compiled.ensures.set c.requires.live) in
    let written = c.in-Ok.ensures.written at.question.set at.question.particle at.names at.place_is same in
    record { later = written.cause.later; kept = written.kept; rose = λ failed. absurd failed }

pub returns-in-Err-clause-writes : goal.returns-in-Err-clause-writes
returns-in-Err-clause-writes g c =
    let around = c.requires.around in
    let at = around.2 in
    let same = names-are (state_of c.args.document.now) around.0 around.1 c.args.place.now at (set_of c.compiled.result.now) (c.compiled.ensures.set c.requires.live) in
    let written = c.in-Err.ensures.written at.question.set at.question.particle at.names at.place_is same in
    record { later = written.cause.later; kept = written.kept; rose = λ failed. written.cause.failed }
