use Rattle.std.proofs.Common.{Ok, Err, ◌≡◌, ◌<◌, arith, rules, length, take, length-take}
use Rattle.std.proofs.lemmas.List.{take-append-le}
use Rattle.xsv_run.proofs.Streams.{ends_piece, takes_piece}
use Rattle.xsv_run.proofs.piece.take_piece.Goals as goal

pub returns-in-Ok-Some-clause-takes : goal.returns-in-Ok-Some-clause-takes
returns-in-Ok-Some-clause-takes g c =
    ends_piece _ (take c.in-Ok.count c.read.new.into) _ _ _ _ _ c.in-Ok.ensures.bytes.0 (take-append-le c.in-Ok.count c.read.new.into _ c.in-Ok.ensures.bound.0) (Ok c.in-Ok-Some.ending) (rw c.in-Ok-Some.field-0-is at c.in-Ok-Some.ensures.takes)
    (omega (arith, length-take c.in-Ok.count c.read.new.into, length-take c.min-most.result c.args.buf.now, c.min-most.ensures, c.in-Ok.ensures.bound, c.read.auto.into, c.requires.room))

pub returns-in-Err-take_bytes-clause-takes : goal.returns-in-Err-take_bytes-clause-takes
returns-in-Err-take_bytes-clause-takes g c =
    ends_piece _ (take c.in-Ok.count c.read.new.into) _ _ _ _ _ c.in-Ok.ensures.bytes.0 (take-append-le c.in-Ok.count c.read.new.into _ c.in-Ok.ensures.bound.0) (Err c.in-Err-take_bytes.why) c.in-Err-take_bytes.ensures.takes
    (omega (arith, length-take c.in-Ok.count c.read.new.into, length-take c.min-most.result c.args.buf.now, c.min-most.ensures, c.in-Ok.ensures.bound, c.read.auto.into, c.requires.room))

pub returns-in-Ok-None-clause-takes : goal.returns-in-Ok-None-clause-takes
returns-in-Ok-None-clause-takes g c =
    let some : 0 < c.in-Ok.count = search rules in
    let long : c.in-Ok.count ≡ length (take c.in-Ok.count c.read.new.into) = omega (arith, length-take c.in-Ok.count c.read.new.into, c.in-Ok.ensures.bound) in
    takes_piece _ (take c.in-Ok.count c.read.new.into) _ _ _ _ _ c.in-Ok.ensures.bytes.0 (take-append-le c.in-Ok.count c.read.new.into _ c.in-Ok.ensures.bound.0)
    c.take_bytes.new.self c.in-Ok.count (rw c.in-Ok-None.field-0-is at c.in-Ok-None.ensures.takes) (rw c.in-Ok-None.field-0-is at c.in-Ok-None.ensures.pauses)
    long some
