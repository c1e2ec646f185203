use Rattle.std.proofs.Common.{◌≡◌, List, Bool}
use Rattle.attr_uses.specs.Uses.{AttrUses}
use Rattle.attr_uses.specs.Tables.{StandsFor}
use Rattle.derive_restriction.specs.Uses.{IsFoundBefore, numbers_left}
use Rattle.derive_restriction.proofs.uses.uses_code.Given as goal

abbrev pub invariant-loop-next : goal.invariant-loop-next
invariant-loop-next l = record {
  found : (ids : List Bool) (value also : AttrUses) → StandsFor l.set.parts.now ids l.set.tables.now.store l.own value → StandsFor l.set.parts.now ids l.set.tables.now.store l.base also →
      IsFoundBefore l.set.parts.now l.set.names.now value also l.next l.best;
  same : l.types ≡ l.fn.types;
}

abbrev pub decreases-loop-next : goal.decreases-loop-next
decreases-loop-next l = numbers_left l.next
