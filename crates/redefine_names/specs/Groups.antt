-- The groups and the attribute groups of a schema set that redefine others without a reference to themselves (Structures 4.2.2).
use Rattle.std.specs.Prelude.{ℕ, List, Option}
use Rattle.representations.specs.declared.parts.Representation.{Representation}
use Rattle.redefine_names.specs.declared.declared.VersionKind.TheVariants as kinds
use Rattle.redefine_names.specs.Numbers.{kind_numbers}
use Rattle.redefine_names.specs.Redefined.{ArePairs}
use Rattle.redefine_names.specs.declared.groups.RedefinedGroups.{RedefinedGroups}

-- these are they, by their numbers, of representations and the original of each, by place
pub record AreRedefined (reps : List Representation) (originals : List (Option ℕ)) (found : RedefinedGroups) : Type 0 where
  pub groups : ArePairs reps originals (kind_numbers kinds.Group reps) found.groups.items
  pub attr_groups : ArePairs reps originals (kind_numbers kinds.AttributeGroup reps) found.attr_groups.items
