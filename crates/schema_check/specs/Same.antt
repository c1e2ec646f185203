-- When documents of two sets, and sets that were compiled, are not told apart.
use Rattle.std.specs.Prelude.{◌≡◌, ◌↔◌, List, Result, Ok, Err, Contains}
use Rattle.xs_codes.specs.declared.fault.Fault.{Fault}
use Rattle.redefine_names.specs.declared.pairs.RedefinedPair.{RedefinedPair}
use Rattle.schema_set.specs.declared.documents.SetDocument.{SetDocument}
use Rattle.schema_check.specs.declared.documents.CompiledSet.{CompiledSet}

-- a document of this number, with this target namespace, and what its elements declare
abbrev pub IsSameDocument : SetDocument → SetDocument → Type 0
IsSameDocument d e = (d.number ≡ e.number) × (d.target ≡ e.target) × (d.shaped.now ≡ e.shaped.now)

-- the same pairs, in any order
abbrev pub AreSamePairs : List RedefinedPair → List RedefinedPair → Type 0
AreSamePairs a b = (pair : RedefinedPair) → Contains a pair ↔ Contains b pair

-- a set with these names, components, and redefining groups and attribute groups
pub record IsSameMade (a b : CompiledSet) : Type 0 where
  pub names : a.names ≡ b.names
  pub parts : a.parts ≡ b.parts
  pub groups : AreSamePairs a.redefined.groups.items b.redefined.groups.items
  pub attr_groups : AreSamePairs a.redefined.attr_groups.items b.redefined.attr_groups.items

-- the same fault, or sets that are the same
abbrev pub IsSameCompilation : Result CompiledSet Fault → Result CompiledSet Fault → Type 0
IsSameCompilation (Ok a) (Ok b) = IsSameMade a b
IsSameCompilation (Err f) (Err g) = f ≡ g
IsSameCompilation _ _ = ⊥
