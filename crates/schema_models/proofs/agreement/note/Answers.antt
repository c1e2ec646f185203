use Rattle.std.specs.Prelude.{nat_eq}
use Rattle.std.specs.HashMap.{get}
use Rattle.schema_models.proofs.AgreeLaws.{notes_known, notes_new}
use Rattle.schema_models.proofs.agreement.note.Goals as goal

pub returns-in-Some : goal.returns-in-Some
returns-in-Some c = notes_known (get nat_eq c.args.types.now) c.args.one c.in-Some.of c.in-Some.ensures c.is_same.result c.is_same.ensures

pub returns-in_ok-insert-in-None : goal.returns-in_ok-insert-in-None
returns-in_ok-insert-in-None c =
    notes_new (get nat_eq c.args.types.now) (get nat_eq c.insert.new.self) c.args.one c.in-None.ensures c.in_ok-insert-in-None.ensures.updates.1 c.in_ok-insert-in-None.ensures.updates.2
