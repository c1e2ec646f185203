use Rattle.std.proofs.Common.{◌≡◌, ◌++◌, map, drop}
use Rattle.representations.specs.Names.{type_symbol, element_symbol, attribute_symbol, group_symbol, attr_group_symbol, constraint_symbol}
use Rattle.representations.proofs.source.spaces_of.Given as goal

abbrev pub invariant-loop-rep : goal.invariant-loop-rep
invariant-loop-rep l = record {
  types : l.spaces.types ++ map (λ r. type_symbol r.form) (drop l.rep-index l.reps) ≡ map (λ r. type_symbol r.form) l.reps;
  elements : l.spaces.elements ++ map (λ r. element_symbol r.form) (drop l.rep-index l.reps) ≡ map (λ r. element_symbol r.form) l.reps;
  attributes : l.spaces.attributes ++ map (λ r. attribute_symbol r.form) (drop l.rep-index l.reps) ≡ map (λ r. attribute_symbol r.form) l.reps;
  groups : l.spaces.groups ++ map (λ r. group_symbol r.form) (drop l.rep-index l.reps) ≡ map (λ r. group_symbol r.form) l.reps;
  attr_groups : l.spaces.attr_groups ++ map (λ r. attr_group_symbol r.form) (drop l.rep-index l.reps) ≡ map (λ r. attr_group_symbol r.form) l.reps;
  constraints : l.spaces.constraints ++ map (λ r. constraint_symbol r.form) (drop l.rep-index l.reps) ≡ map (λ r. constraint_symbol r.form) l.reps;
}
