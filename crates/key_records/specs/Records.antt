-- The records of the targets of identity constraints: Structures 3.11.4 and 3.11.5.
use Rattle.std.specs.Prelude.{◌≡◌, ◌+◌, ◌*◌, ◌≤◌, ◌&&◌, ℕ, nat_eq, nat_lt, Bool, true, false, not, List, Some}
use Rattle.simple_values.specs.declared.key.Key.{Key}
use Rattle.identity_tables.specs.KeyTables.{Tables, own_count}
use Rattle.identity_constraints.specs.Counting.{Links}
use Rattle.key_records.specs.Tables.{AreSettled, for_key, same_key_tuple, is_in_table}
use Rattle.key_records.specs.Counted.{Counted, with_keys, with_misuse, without_keys, with_nillable}
use Rattle.key_records.specs.Faults.{faults_at, weight}
use Rattle.key_records.specs.References.{key_of, is_referred}
use Rattle.key_records.specs.declared.references.References.{References}
use Rattle.key_records.specs.declared.records.KeyRecords.{KeyRecords}

abbrev pub own_from : Bool → Tables → Tables → ℕ → ℕ → List Key → ℕ
own_from true referred others n k tuple = own_count referred n (2 * k) tuple
own_from false referred others n k tuple = own_count others n (2 * k) tuple

-- how often a key-sequence is an own one of an element for a constraint that keyrefs refer to, or for another
abbrev pub own_in : Bool → KeyRecords → ℕ → ℕ → List Key → ℕ
own_in b r n k tuple = own_from b r.referred r.others n k tuple

-- how often a key-sequence is an own one of an element for a constraint
abbrev pub own_of : References → KeyRecords → ℕ → ℕ → List Key → ℕ
own_of refs r n k tuple = own_in (is_referred refs k) r n k tuple

-- the table of an element for a key or unique that is referred to has the key-sequence
abbrev pub is_shown : KeyRecords → ℕ → ℕ → List Key → Bool
is_shown r n key tuple = is_in_table r.referred n (for_key key tuple)

-- how often a key-sequence of a keyref is entered as one that is not in the table of the element
abbrev pub unmatched : KeyRecords → ℕ → ℕ → List Key → ℕ
unmatched r n keyref tuple = own_count r.others n (2 * keyref + 1) tuple

-- Of a keyref: the key-sequence is entered once where it is an own one of the element and not in the element's table for the key or
-- unique that is referred to.
abbrev pub IsMatched : References → KeyRecords → ℕ → ℕ → List Key → Type 0
IsMatched refs r n keyref tuple =
    (key : ℕ) → key_of refs keyref ≡ Some key → unmatched r n keyref tuple ≡ weight (nat_lt 0 (own_of refs r n keyref tuple) && not (is_shown r n key tuple))

-- a constraint to which no keyref refers has no own key-sequence among those of constraints that are referred to
abbrev pub AreBare : References → KeyRecords → Type 0
AreBare refs r = (n k : ℕ) (tuple : List Key) → is_referred refs k ≡ false → own_count r.referred n (2 * k) tuple ≡ 0

-- no key-sequence is entered twice
abbrev pub AreOnce : KeyRecords → Type 0
AreOnce r = (n k : ℕ) (tuple : List Key) → unmatched r n k tuple ≤ 1

-- the one has a key-sequence once more among the own ones of an element for a constraint
abbrev pub IsOneMoreTarget : References → KeyRecords → KeyRecords → ℕ → ℕ → List Key → Type 0
IsOneMoreTarget refs fewer more scope constraint tuple =
    (n k : ℕ) (other : List Key) → own_of refs more n k other
    ≡ own_of refs fewer n k other + weight (nat_eq scope n && same_key_tuple (for_key constraint tuple) (for_key k other))

-- What is entered of keyrefs has changed, and no other table; what was right is right.
pub record IsRematched (refs : References) (old new : KeyRecords) : Type 0 where
  pub referred_is : new.referred ≡ old.referred
  pub faults_are : new.faults ≡ old.faults
  pub own_is : (n k : ℕ) (tuple : List Key) → own_count new.others n (2 * k) tuple ≡ own_count old.others n (2 * k) tuple
  pub once : AreOnce new
  pub still : (n k : ℕ) (tuple : List Key) → IsMatched refs old n k tuple → IsMatched refs new n k tuple

-- a key-sequence was right at all elements but one, and still is
pub record IsChangedAt (refs : References) (old new : KeyRecords) (scope constraint : ℕ) (tuple : List Key) : Type 0 where
  pub faults_are : new.faults ≡ old.faults
  pub once : AreOnce new
  pub still : (n k : ℕ) (other : List Key) → (scope ≡ n → for_key constraint tuple ≡ for_key k other → ⊥) → IsMatched refs old n k other → IsMatched refs new n k other
  pub bare : AreBare refs old → AreBare refs new

abbrev pub AreMatched : References → KeyRecords → Type 0
AreMatched refs r = (n k : ℕ) (tuple : List Key) → IsMatched refs r n k tuple

-- The records are right by what is counted of targets: own key-sequences and faults are those of the targets, each element counts the child
-- elements in whose tables a key-sequence is, and those of keyrefs are entered that are not in the table of the element.
pub record AreRecords (t : Links) (refs : References) (c : Counted) (r : KeyRecords) : Type 0 where
  pub own_are : (n k : ℕ) (tuple : List Key) → own_of refs r n k tuple ≡ c n k (with_keys tuple)
  pub settled : AreSettled t r.referred
  pub matched : AreMatched refs r
  pub once : AreOnce r
  pub bare : AreBare refs r
  pub misused_are : (n k : ℕ) → (faults_at r.faults n k).misused ≡ c n k with_misuse
  pub lacking_are : (n k : ℕ) → (faults_at r.faults n k).lacking ≡ c n k without_keys
  pub nillable_are : (n k : ℕ) → (faults_at r.faults n k).nillable ≡ c n k with_nillable
