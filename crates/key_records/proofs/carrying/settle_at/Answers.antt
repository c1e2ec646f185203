use Rattle.std.proofs.Common.{sym, subst}
use Rattle.identity_constraints.specs.Counting.{IsTouched}
use Rattle.key_records.specs.Tables.{for_key, own, said, same_key_tuple}
use Rattle.key_records.proofs.ToldLaws.{told-one}
use Rattle.key_records.proofs.carrying.settle_at.Goals as goal

pub returns-clause-pending : goal.returns-clause-pending
returns-clause-pending c = λ t i parents waits.
    let new = c.recount.new.tables in
    c.note.ensures.pending t parents
    (subst (IsTouched same_key_tuple t (own new) (said new) c.args.waiting.at (for_key c.args.key c.args.tuple.now)) (sym c.is_seen-was.ensures) (c.in_ok-recount.ensures.touched t i waits))

pub returns-clause-told : goal.returns-clause-told
returns-clause-told c =
    told-one (for_key c.args.key c.args.tuple.now) c.args.tables.now c.recount.new.tables c.args.waiting.at c.args.told.now.items c.push.new.self.items c.in_ok-push.ensures.items c.in_ok-recount.ensures.alike
