use Rattle.std.proofs.Common.{◌≡◌, ◌++◌, map, drop, Bor}
use Rattle.schema_shape.specs.declared.forms.Shape.{Shape}
use Rattle.redefine_originals.specs.inside.Entries.{child_entry}
use Rattle.redefine_originals.specs.inside.Lists.{listed}
use Rattle.redefine_originals.specs.inside.Redefines.{redefine_entry, all_inside}
use Rattle.redefine_originals.proofs.redefines.children_of.Given as goal

abbrev pub invariant-loop-redefine : goal.invariant-loop-redefine
invariant-loop-redefine l = record {
  counted : l.number ≡ l.redefine-index;
  put : map child_entry l.children ++ all_inside (λ number. map (λ (s : Bor Shape). s.now) (listed l.inside number)) l.number (map redefine_entry (drop l.redefine-index l.redefines))
      ≡ all_inside (λ number. map (λ (s : Bor Shape). s.now) (listed l.inside number)) 0 (map redefine_entry l.redefines);
}
