-- What identity constraints see of elements: Structures 3.11.4.
use Rattle.std.specs.Prelude.{◌≡◌, ◌<◌, List, [], ◌∷◌, Option, All, length}
use Rattle.xs_names.specs.Names.{NameTable}
use Rattle.simple_values.specs.declared.value.Value.{Value}
use Rattle.assess_records.specs.declared.record.AttrRecord.{AttrRecord}
use Rattle.identity_constraints.specs.Seen.{KeyAttribute, KeyElement, KeyForest, none, element}
use Rattle.path_walk.specs.declared.sight.KeySight.{KeySight}

-- attributes with their values
abbrev pub attributes_of : List AttrRecord → List (Option Value) → List KeyAttribute
attributes_of [] values = []
attributes_of (attr ∷ attrs) [] = []
attributes_of (attr ∷ attrs) (value ∷ values) = record { name = attr.name; value = value } ∷ attributes_of attrs values

abbrev pub seen : KeySight → KeyElement
seen s = record {
  number = s.number;
  name = s.name;
  declaration = s.declaration;
  of = s.of;
  value = s.value.now;
  attributes = attributes_of s.attrs.now s.attr_values.now;
}

-- the first of some siblings, its child elements, and those behind it
abbrev pub IsFirst : KeyForest → KeyElement → Type 0
IsFirst none first = ⊥
IsFirst (element own below next) first = own ≡ first

abbrev pub below_first : KeyForest → KeyForest
below_first none = none
below_first (element own below next) = below

abbrev pub behind_first : KeyForest → KeyForest
behind_first none = none
behind_first (element own below next) = next

-- an element and its attributes have names of the table
pub record IsNamed (names : NameTable) (own : KeyElement) : Type 0 where
  pub name : own.name < length names.names
  pub attributes : All (λ (a : KeyAttribute). a.name < length names.names) own.attributes

abbrev pub AreNamed : NameTable → KeyForest → Type 0
AreNamed names none = Unit {0}
AreNamed names (element own below next) = IsNamed names own × (AreNamed names below × AreNamed names next)
