-- What is kept of the elements of a document as targets of identity constraints: Structures 3.11.4.
use Rattle.std.specs.Prelude.{◌≡◌, ◌≢◌, ℕ, List, [], Option, None}
use Rattle.std.specs.Option.{option_map}
use Rattle.identity_constraints.specs.Seen.{KeyElement, KeyForest, element}
use Rattle.what_is_found.specs.Identity.{seen_element}
use Rattle.scope_targets.specs.Kin.{Kin, AreAbove, AreSeen}
use Rattle.scope_targets.specs.Targetings.{targetings_of}
use Rattle.scope_targets.specs.Kept.{AreKept, parent_of, targets_of}
use Rattle.scope_targets.specs.Linked.{links_by}
use Rattle.forest_keys.specs.inside.Keyrefs.{AreReferencesOf}
use Rattle.compiled_schema.specs.declared.compiled.Compiled.{Compiled}
use Rattle.doc_nodes.specs.Nodes.{Nodes, element_children}
use Rattle.doc_changes.specs.Held.{parent_at}
use Rattle.kept_slots.specs.Slots.{at}
use Rattle.child_lists.specs.from_kept_records.KeptElement.{KeptElement}
use Rattle.child_lists.specs.from_kept_records.Slots.{KeptSlots, IsMade, entry_at}
use Rattle.kept_targets.specs.declared.keys.ElementSign.{ElementSign}
use Rattle.kept_targets.specs.declared.keys.TargetKeys.{TargetKeys}

-- what identity constraints see of the elements of a document, with their parents and child elements
abbrev pub kin_of : Nodes → KeptSlots → Kin
kin_of ns ks = record { seen = λ n. seen_element (entry_at ks n); parent = parent_at ns; children = element_children ns }

-- the name of an element, and what governs it
abbrev pub sign_of : KeptElement → ElementSign
sign_of k = record { name = k.found.element.name; pair = k.found.governing }

abbrev pub sign_at : KeptSlots → ℕ → Option ElementSign
sign_at ks n = option_map sign_of (at ks n)

-- the first of some siblings is this element, with all that is below it
pub record IsFrom (ns : Nodes) (ks : KeptSlots) (n : ℕ) (f : KeyForest) : Type 0 where
  pub below : KeyForest
  pub next : KeyForest
  pub is : f ≡ element (seen_element (entry_at ks n)) below next
  pub seen : AreSeen (kin_of ns ks) (element_children ns n) below

module _ (c : Compiled) (ns : Nodes) (ks : KeptSlots) (keys : TargetKeys) where
  -- an element is kept as the targets that it is
  abbrev pub IsTargetOf : ℕ → Type 0
  IsTargetOf n =
      (above : List KeyElement) (below : KeyForest) → AreAbove (kin_of ns ks) (parent_at ns n) above → AreSeen (kin_of ns ks) (element_children ns n) below
      → targets_of keys.counted n ≡ targetings_of c.names c.parts c.identities.items above (seen_element (entry_at ks n)) below

  -- All that is counted is right: each element has its parent, its sign and the targets that it is, and no other number has any; and what
  -- is counted is what these targets come to.
  pub record AreTargets : Type 0 where
    pub references : AreReferencesOf c.parts.constraints.parts keys.counted.references
    pub kept : AreKept (links_by keys.counted.parents.items) keys.counted
    pub parents : (n : ℕ) → IsMade ks n → parent_of keys.counted n ≡ parent_at ns n
    pub alone : (n : ℕ) → ¬ IsMade ks n → parent_of keys.counted n ≡ None
    pub targets : (n : ℕ) → IsMade ks n → IsTargetOf n
    pub none : (n : ℕ) → ¬ IsMade ks n → targets_of keys.counted n ≡ []
    pub signs : (n : ℕ) → at keys.signs n ≡ sign_at ks n

  -- without identity constraints nothing is counted
  abbrev pub AreTargetsBy : Type 0
  AreTargetsBy = c.identities.items ≢ [] → AreTargets
