use Rattle.std.proofs.Common.{◌≡◌, drop, map}
use Rattle.attr_uses.specs.Uses.{AttrUses, group_uses, with_groups, accepted_groups}
use Rattle.attr_uses.specs.Tables.{StandsFor}
use Rattle.attr_uses.specs.inside.Kept.{Keeps}
use Rattle.attr_uses.proofs.store.Store.with_groups.Given as goal

abbrev pub invariant-loop-group : goal.invariant-loop-group
invariant-loop-group l = record {
  keeps : Keeps l.initial.self l.self;
  made : (start : AttrUses) → StandsFor l.parts l.ids l.initial.self l.fn.own start →
      (value : AttrUses) × StandsFor l.parts l.ids l.self l.table value × (with_groups value (accepted_groups (map (group_uses l.parts) (drop l.group-index l.named))) ≡ with_groups start (accepted_groups (map (group_uses l.parts) l.named)));
}
