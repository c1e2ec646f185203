use Rattle.std.proofs.Common.{sym, subst}
use Rattle.compiled_schema.specs.declared.compiled.Compiled.{Compiled}
use Rattle.edit_session.specs.Held.{IsPresent}
use Rattle.edit_session.proofs.Known.{present-now}
use Rattle.edit_session.proofs.session.EditSession.around.Goals as goal

pub find_place-requires-clause-present : goal.find_place-requires-clause-present
find_place-requires-clause-present c =
    subst (λ (x : Compiled). IsPresent x c.self.inside.doc c.self.inside.kept) (sym c.deref.ensures) (present-now c.self.inside c.args.self.now c.self.view_is c.self.invariant c.requires.live)
