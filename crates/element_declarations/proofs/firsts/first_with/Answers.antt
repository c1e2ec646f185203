use Rattle.std.proofs.Common.{sym}
use Rattle.std.specs.HashMap.{get}
use Rattle.element_declarations.specs.contracts.properties.PropertiesPartialEq.TheImpl as properties
use Rattle.element_declarations.proofs.ClassLaws.{notes-new}
use Rattle.element_declarations.proofs.firsts.first_with.Goals as goal

pub returns-in_ok-insert-in-None : goal.returns-in_ok-insert-in-None
returns-in_ok-insert-in-None c =
    notes-new (get properties.eq-value.it c.args.firsts.now) (get properties.eq-value.it c.insert.new.self) c.args.own c.args.number (sym c.in-None.ensures)
    c.in_ok-insert-in-None.ensures.updates.1 c.in_ok-insert-in-None.ensures.updates.2
