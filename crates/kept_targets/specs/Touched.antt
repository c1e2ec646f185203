-- Elements that are looked at again where something below them is another.
use Rattle.std.specs.Prelude.{◌≡◌, ◌⊎◌, ℕ, List, [], true}
use Rattle.identity_constraints.specs.Targets.{constraints_of}
use Rattle.what_is_found.specs.Identity.{seen_element}
use Rattle.compiled_schema.specs.declared.compiled.Compiled.{Compiled}
use Rattle.scope_targets.specs.Kept.{targets_of}
use Rattle.doc_nodes.specs.Nodes.{Nodes, Has, is_element_at}
use Rattle.child_lists.specs.from_kept_forgetting.Below.{IsWithin}
use Rattle.child_lists.specs.from_kept_records.Slots.{KeptSlots, entry_at}
use Rattle.kept_targets.specs.declared.above.Touched.{Touched}
use Rattle.kept_targets.specs.declared.keys.TargetKeys.{TargetKeys}

-- the identity constraints of an element
abbrev pub scopes_at : Compiled → KeptSlots → ℕ → List ℕ
scopes_at c ks n = constraints_of c.parts (seen_element (entry_at ks n))

-- a number is behind others, or it need not be
pub record IsNoted (free : Type 0) (n : ℕ) (old new : List ℕ) : Type 0 where
  pub here : Has n new ⊎ free
  pub still : (m : ℕ) → Has m old → Has m new
  pub only : (m : ℕ) → Has m new → Has m old ⊎ (m ≡ n)

-- Of an element and all above it those are added that are kept as targets, and those that have identity constraints; all that are added
-- are such elements.
pub record IsTouching (c : Compiled) (ns : Nodes) (ks : KeptSlots) (keys : TargetKeys) (n : ℕ) (old new : Touched) : Type 0 where
  pub targets : (m : ℕ) → IsWithin ns m n → Has m new.targets.items ⊎ (targets_of keys.counted m ≡ [])
  pub scopes : (m : ℕ) → IsWithin ns m n → Has m new.scopes.items ⊎ (scopes_at c ks m ≡ [])
  pub still_targets : (m : ℕ) → Has m old.targets.items → Has m new.targets.items
  pub still_scopes : (m : ℕ) → Has m old.scopes.items → Has m new.scopes.items
  pub only_targets : (m : ℕ) → Has m new.targets.items → Has m old.targets.items ⊎ (is_element_at ns m ≡ true)
  pub only_scopes : (m : ℕ) → Has m new.scopes.items → Has m old.scopes.items ⊎ (is_element_at ns m ≡ true)
