-- Classes of characters (Datatypes, appendix F.1).
use Rattle.std.specs.Prelude.{◌≡◌, ℕ, List, [], ◌∷◌, map, Bool, true, false, not, ◌&&◌, ◌==◌, nat_le, if◌then◌else◌, refl}
use Rattle.std.specs.List.{list_any}
use Rattle.pattern_syntax.specs.Sets.{in_set}
use Rattle.pattern_syntax.specs.declared.class.ClassItem.{ClassItem}
use Rattle.pattern_syntax.specs.declared.class.ClassItem.TheVariants.{One, Range, In, NotIn}
use Rattle.pattern_syntax.specs.declared.class.CharGroup.{CharGroup}
use Rattle.pattern_syntax.specs.declared.class.CharClass.{CharClass}
use Rattle.pattern_syntax.specs.declared.class.CharClass.TheVariants.{Item, Groups}

-- the item stands for the character
abbrev pub is_item : ClassItem → ℕ → Bool
is_item (One other) c = c == other
is_item (Range first last) c = nat_le first c && nat_le c last
is_item (In set) c = in_set set c
is_item (NotIn set) c = not (in_set set c)

-- a positive or negative group of characters
pub record Group : Type 0 where
  pub negated : Bool
  pub items : List ClassItem

abbrev pub in_group : Group → ℕ → Bool
in_group group c =
    if group.negated then not (list_any (λ item. is_item item c) group.items) else list_any (λ item. is_item item c) group.items

-- a class: the first group, less the class of the groups after it
abbrev pub Class : Type 0
Class = List Group

abbrev pub has : Class → ℕ → Bool
has [] c = false
has (group ∷ class) c = in_group group c && not (has class c)

-- what the program's groups and classes stand for
abbrev pub group_of : CharGroup → Group
group_of group = record { negated = group.negated; items = group.items.items }

abbrev pub class_of : CharClass → Class
class_of (Item item) = record { negated = false; items = item ∷ [] } ∷ []
class_of (Groups groups) = map group_of groups.items

-- `[a-z-[aeiou]]` has `b`, and lacks `e`
abbrev pub consonants : Class
consonants =
    record { negated = false; items = Range 97 122 ∷ [] }
    ∷ record { negated = false; items = One 97 ∷ One 101 ∷ One 105 ∷ One 111 ∷ One 117 ∷ [] } ∷ []

pub example-consonant : has consonants 98 ≡ true
example-consonant = refl

pub example-vowel : has consonants 101 ≡ false
example-vowel = refl
