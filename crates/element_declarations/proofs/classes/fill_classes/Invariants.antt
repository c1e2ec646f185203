use Rattle.std.proofs.Common.{◌≡◌, ◌-◌, length}
use Rattle.std.specs.HashMap.{get}
use Rattle.element_declarations.specs.contracts.properties.PropertiesPartialEq.TheImpl as properties
use Rattle.element_declarations.specs.inside.Firsts.{AreClassed}
use Rattle.element_declarations.proofs.classes.fill_classes.Given as goal

abbrev pub invariant-loop-id : goal.invariant-loop-id
invariant-loop-id l = record {
  same : l.types ≡ l.fn.types;
  classed : AreClassed l.set.parts.now l.number l.classes.items (get properties.eq-value.it l.firsts);
}

abbrev pub decreases-loop-id : goal.decreases-loop-id
decreases-loop-id l = length l.set.parts.now.elements.parts - l.number
