-- What is counted of the targets of identity constraints: Structures 3.11.4.
use Rattle.std.specs.Prelude.{ℕ, ◌+◌, ◌&&◌, nat_eq, Bool, false, List, Option, None, Some, is_none}
use Rattle.simple_values.specs.declared.key.Key.{Key}
use Rattle.identity_tables.specs.Tuple.{same_tuple}
use Rattle.key_records.specs.Tables.{KeyTuple}
use Rattle.key_records.specs.Faults.{weight}
use Rattle.key_records.specs.declared.targets.Target.{Target}

-- A target has a key-sequence; it has a field with several nodes, or with one of a complex type without simple content; it has no
-- key-sequence; it has a field with an element whose declaration is nillable.
pub data Feature : Type 0 where
  with_keys : List Key → Feature
  with_misuse : Feature
  without_keys : Feature
  with_nillable : Feature

-- how many targets have it, by the numbers of the element and of the constraint whose targets they are
abbrev pub Counted : Type 0
Counted = ℕ → ℕ → Feature → ℕ

abbrev pub no_targets : Counted
no_targets = λ n k x. 0

abbrev pub plus : Counted → Counted → Counted
plus a b = λ n k x. a n k x + b n k x

abbrev pub has_keys : Option (List Key) → List Key → Bool
has_keys None keys = false
has_keys (Some tuple) keys = same_tuple tuple keys

-- a target with this key-sequence, if it has one, and these faults
abbrev pub has : Feature → Option (List Key) → Bool → Bool → Bool
has (with_keys keys) tuple misused nillable = has_keys tuple keys
has with_misuse tuple misused nillable = misused
has without_keys tuple misused nillable = is_none tuple
has with_nillable tuple misused nillable = nillable

-- one target of a constraint of an element
abbrev pub one_target : ℕ → ℕ → Option (List Key) → Bool → Bool → Counted
one_target scope constraint tuple misused nillable = λ n k x. weight (nat_eq scope n && (nat_eq constraint k && has x tuple misused nillable))

abbrev pub counted_of : Target → Counted
counted_of target = one_target target.scope target.constraint target.tuple.now target.misused target.nillable

-- how often a key-sequence with its key is an own one of an element
abbrev pub own_tuples : Counted → ℕ → KeyTuple → ℕ
own_tuples c n y = c n y.key (with_keys y.tuple)
