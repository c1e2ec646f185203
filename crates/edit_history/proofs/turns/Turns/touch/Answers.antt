use Rattle.std.proofs.Common.{refl, None, Some, arith}
use Rattle.edit_history.proofs.Tables.{touched, on_ok_at}
use Rattle.edit_history.proofs.turns.Turns.touch.Goals as goal

pub returns-in-Some-clause-touches : goal.returns-in-Some-clause-touches
returns-in-Some-clause-touches c =
    let found = c.in-Some.ensures.value in
    let updates = (c.get_mut.follows.holds c.again.new.self).3 (rw (← found) refl) in
    let es = c.self.inside.touches.entries in
    let fs = (c.get_mut.follows.lender c.again.new.self).entries in
    rw (← c.self.view_is) (touched es fs c.args.key c.args.author c.args.revision (Some c.in-Some.touch.now) c.again.new.self found c.again.ensures updates.0)

pub returns-clause-touches : goal.returns-clause-touches
returns-clause-touches c =
    let room = rw (← c.self.view_is) at c.requires in
    let done = rw c.get_mut.follows.holds-at-none at c.insert.ensures.succeeds in
    let updates = rw c.get_mut.follows.holds-at-none at c.insert.ensures.updates in
    let update = on_ok_at c.insert.result (done (omega arith)) updates in
    rw (← c.self.view_is) (touched c.self.inside.touches.entries c.insert.new.self.entries c.args.key c.args.author c.args.revision None _ c.in_default.ensures.value refl update.0)
