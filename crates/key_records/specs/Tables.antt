-- Tables of keys and uniques, as counts of tuples by elements (Structures 3.11.5).
use Rattle.std.specs.Prelude.{◌≡◌, ℕ, ◌+◌, ◌*◌, ◌<◌, ◌&&◌, Bool, nat_eq, List, if◌then◌else◌, Option, None, Some, slice_get}
use Rattle.std.specs.Option.{option_and_then}
use Rattle.simple_values.specs.declared.key.Key.{Key}
use Rattle.identity_tables.specs.Tuple.{same_tuple}
use Rattle.identity_tables.specs.KeyTables.{Tables, own_count}
use Rattle.identity_constraints.specs.Counting.{Links, Change, Has, IsSettled, IsPending, is_seen}
use Rattle.key_records.specs.declared.carrying.Waiting.{Waiting}

-- a tuple with the key or unique that it is for
pub record KeyTuple : Type 0 where
  pub key : ℕ
  pub tuple : List Key

abbrev pub same_key_tuple : KeyTuple → KeyTuple → Bool
same_key_tuple a b = nat_eq a.key b.key && same_tuple a.tuple b.tuple

abbrev pub for_key : ℕ → List Key → KeyTuple
for_key key tuple = record { key = key; tuple = tuple }

-- how often it is an own one of an element: table 2 k
abbrev pub own : Tables → ℕ → KeyTuple → ℕ
own tables n y = own_count tables n (2 * y.key) y.tuple

-- how many child elements are said to have it in their tables: table 2 k + 1
abbrev pub said : Tables → ℕ → KeyTuple → ℕ
said tables n y = own_count tables n (2 * y.key + 1) y.tuple

-- the number of the parent of each element, if it has one
abbrev pub parent_in : List (Option ℕ) → ℕ → Option ℕ
parent_in parents n = option_and_then (λ (p : Option ℕ). p) (slice_get parents n)

-- these are the parents by the links, each before its children
pub record AreParents (t : Links) (parents : List (Option ℕ)) : Type 0 where
  pub parents_are : (n : ℕ) → t.parent n ≡ parent_in parents n
  pub before : (n p : ℕ) → t.parent n ≡ Some p → p < n

-- each element counts the child elements that have a tuple in their tables
abbrev pub AreSettled : Links → Tables → Type 0
AreSettled t tables = IsSettled same_key_tuple t (own tables) (said tables)

-- what waits for a tuple of a key
abbrev pub change_of : ℕ → List Key → Option Waiting → Option (Change KeyTuple)
change_of key tuple None = None
change_of key tuple (Some w) = Some (record { at = w.at; what = for_key key tuple; grows = w.grows })

abbrev pub ArePending : Links → ℕ → List Key → Tables → Option Waiting → Type 0
ArePending t key tuple tables waits = IsPending same_key_tuple t (own tables) (said tables) (change_of key tuple waits)

-- how far up it waits
abbrev pub level : Option Waiting → ℕ
level None = 0
level (Some w) = w.at + 1

-- the own tuples are the same
abbrev pub HasSameOwn : Tables → Tables → Type 0
HasSameOwn old new = (n : ℕ) (y : KeyTuple) → own new n y ≡ own old n y

-- the one has the tuple once more among the own ones of an element than the other
abbrev pub IsOneMoreOwn : Tables → Tables → ℕ → ℕ → List Key → Type 0
IsOneMoreOwn fewer more scope key tuple =
    (n : ℕ) (y : KeyTuple) → own more n y ≡ own fewer n y + (if nat_eq scope n && same_key_tuple (for_key key tuple) y then 1 else 0)

-- an element has it in its table
abbrev pub is_in_table : Tables → ℕ → KeyTuple → Bool
is_in_table tables n y = is_seen (own tables n y) (said tables n y)

-- at other elements, and of other tuples, the same is in the tables
abbrev pub IsAlikeBut : ℕ → KeyTuple → Tables → Tables → Type 0
IsAlikeBut at x old new = (m : ℕ) (y : KeyTuple) → (at ≡ m → x ≡ y → ⊥) → is_in_table new m y ≡ is_in_table old m y

-- the elements told before are still told, and at all that are not told, and of other tuples, the same is in the tables
pub record AreTold (x : KeyTuple) (old new : Tables) (before after : List ℕ) : Type 0 where
  pub still : (m : ℕ) → Has m before → Has m after
  pub alike : (m : ℕ) (y : KeyTuple) → (Has m after → x ≡ y → ⊥) → is_in_table new m y ≡ is_in_table old m y
