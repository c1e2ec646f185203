use Rattle.std.proofs.Common.{sym}
use Rattle.arena_tests.proofs.Fitting.{has_room}
use Rattle.arena_tests.proofs.elements.has_room.Goals as goal

pub returns-in-None : goal.returns-in-None
returns-in-None c = λ t d z few name. has_room t c.args.doc.now d z c.args.node c.binding_count.result name (sym c.in-None.ensures.attribute) c.binding_count.ensures.count few
