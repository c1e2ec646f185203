use Rattle.std.proofs.Common.{sym, ap, subst}
use Rattle.edit_history.specs.Logged.{Logged, AreNoLater}
use Rattle.edit_history.proofs.UpTo.{up_to}
use Rattle.edit_history.proofs.turn_log.TurnLog.note.Goals as goal

pub note-requires-clause-later : goal.note-requires-clause-later
note-requires-clause-later c =
    let log = c.self.inside in
    up_to log.turns.touches log.so_far.turns c.args.turn.revision c.self.invariant
    (subst (λ (v : Logged). AreNoLater v.turns c.args.turn.revision) (sym c.self.view_is) c.requires.later)
