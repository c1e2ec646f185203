use Rattle.std.proofs.Common.{inl, refl}
use Rattle.edit_session.proofs.editing.make_undoable.Goals as goal

pub inverse_of-requires : goal.inverse_of-requires
inverse_of-requires g c = let q = c.requires.can in record { can = (c.args.set.now.names, q.0, q.1, q.2) }

pub returns-clause-inverse : goal.returns-clause-inverse
returns-clause-inverse g c = λ t d edit z can prepared. c.in_ok-back.ensures t c.args.set.now.names d edit z can prepared

pub returns-in_err-back-clause-reach : goal.returns-in_err-back-clause-reach
returns-in_err-back-clause-reach g c = λ d z. inl (refl, refl)
