use Rattle.std.proofs.Common.{◌≡◌, ◌≢◌, sym, ◌∙◌, rules, arith}
use Rattle.key_records.proofs.CarryLaws.{noted-same, noted-root, noted-up}
use Rattle.key_records.proofs.carrying.note.Goals as goal

pub returns-then-now-was-clause-pending : goal.returns-then-now-was-clause-pending
returns-then-now-was-clause-pending c = λ t parents h.
    let same : c.is_seen-now.result ≡ c.args.was = search rules in
    noted-same t c.args.tables.now c.args.n c.args.key c.args.tuple.now c.args.was h (sym c.is_seen-now.ensures ∙ same)

pub returns-in-None-clause-pending : goal.returns-in-None-clause-pending
returns-in-None-clause-pending c = λ t parents h. noted-root t c.args.tables.now c.args.n c.args.key c.args.tuple.now c.args.was h (c.in-None.ensures t parents)

pub returns-in-Some-clause-pending : goal.returns-in-Some-clause-pending
returns-in-Some-clause-pending c = λ t parents h.
    let other : c.is_seen-now.result ≢ c.args.was = search rules in
    noted-up t c.args.tables.now c.args.n c.args.key c.args.tuple.now c.args.was h c.in-Some.at c.is_seen-now.result (c.in-Some.ensures t parents) c.is_seen-now.ensures other

pub returns-in-Some-clause-upward : goal.returns-in-Some-clause-upward
returns-in-Some-clause-upward c =
    let l = c.requires.linked in
    let lower = l.1.before c.args.n c.in-Some.at (c.in-Some.ensures l.0 l.1) in
    omega (arith, lower)
