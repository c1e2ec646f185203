-- Which keys and uniques keyrefs refer to: Structures 3.11.1.
use Rattle.std.specs.Prelude.{◌≡◌, ◌<◌, ◌^◌, ◌++◌, ◌∷◌, ℕ, nat_eq, Bool, true, false, List, [], Option, None, Some, slice_get, if◌then◌else◌}
use Rattle.std.specs.Option.{option_and_then}
use Rattle.std.specs.Map.{lookup}
use Rattle.std.specs.declared.vec.Vec.{Vec}
use Rattle.std.specs.declared.alloc.Global.{Global}
use Rattle.identity_constraints.specs.Counting.{Has}
use Rattle.key_records.specs.declared.references.References.{References}

-- the key or unique of each constraint that is a keyref
abbrev pub refers : References → List (Option ℕ)
refers r = r.keys.items

abbrev pub key_of : References → ℕ → Option ℕ
key_of r constraint = option_and_then (λ (key : Option ℕ). key) (slice_get (refers r) constraint)

abbrev pub items_of : Option (Vec ℕ Global) → List ℕ
items_of None = []
items_of (Some keyrefs) = keyrefs.items

-- the keyrefs of a key or unique
abbrev pub keyrefs_of : References → ℕ → List ℕ
keyrefs_of r key = items_of (lookup (nat_eq key) r.keyrefs.entries)

abbrev pub has_any : List ℕ → Bool
has_any [] = false
has_any (x ∷ xs) = true

-- some keyref refers to it
abbrev pub is_referred : References → ℕ → Bool
is_referred r key = has_any (keyrefs_of r key)

-- each keyref is among those of its key or unique, and the numbers are small enough for those of tables
pub record AreReferences (r : References) : Type 0 where
  pub all_there : (keyref key : ℕ) → key_of r keyref ≡ Some key → Has keyref (keyrefs_of r key)
  pub few : (keyref key : ℕ) → key_of r keyref ≡ Some key → (keyref < 2 ^ 31) × (key < 2 ^ 31)

-- the one has a keyref behind those of a key
abbrev pub IsOneMoreKeyref : References → References → ℕ → ℕ → Type 0
IsOneMoreKeyref old new key keyref = (k : ℕ) → keyrefs_of new k ≡ (if nat_eq key k then keyrefs_of old k ++ keyref ∷ [] else keyrefs_of old k)
