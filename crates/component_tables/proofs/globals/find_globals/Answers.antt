use Rattle.component_tables.proofs.TypeLaws.{globals-read}
use Rattle.component_tables.proofs.globals.find_globals.Goals as goal

pub loop-number-preserved : goal.loop-number-preserved
loop-number-preserved c =
    globals-read c.args.parts.now.elements.parts c.elements-element-items.result.now c.loop-number.number c.element-item.result c.loop-number.globals.items c.add.new.globals.items
    c.elements-element-items.ensures.parts c.loop-number-test.true c.element-item.is c.loop-number.invariant c.in_ok-add.ensures
