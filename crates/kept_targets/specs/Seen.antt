-- What identity constraints see of what is kept of the elements of a document (Structures 3.11.4).
use Rattle.std.specs.Prelude.{◌≡◌, ℕ, zero, suc, ◌+◌, ◌<◌, ◌^◌, List, [], ◌∷◌, ◌++◌, drop, slice_get, Option, None, Some}
use Rattle.identity_constraints.specs.Seen.{KeyForest, none, element}
use Rattle.what_is_found.specs.Identity.{seen_element}
use Rattle.tree_assess.specs.Entries.{entry_of}
use Rattle.doc_nodes.specs.Nodes.{Nodes, element_children}
use Rattle.kept_slots.specs.Slots.{at}
use Rattle.child_lists.specs.from_kept_records.KeptElement.{KeptElement}
use Rattle.child_lists.specs.from_kept_records.Slots.{KeptSlots, IsKept}
use Rattle.kept_targets.specs.declared.siblings.KeptSiblings.{KeptSiblings}

-- the child elements of an element; without one, the root
abbrev pub elements_under : Nodes → Option ℕ → List ℕ
elements_under ns None = 1 ∷ []
elements_under ns (Some n) = element_children ns n

-- an element and those behind it; none where nothing is kept of it
abbrev pub first_seen : Option KeptElement → KeyForest → KeyForest → KeyForest
first_seen None below next = none
first_seen (Some k) below next = element (seen_element (entry_of k.found)) below next

module _ (ks : KeptSlots) where
  -- siblings, with what is below each
  abbrev pub along : (ℕ → KeyForest) → List ℕ → KeyForest
  along below [] = none
  along below (n ∷ more) = first_seen (at ks n) (below n) (along below more)

  module _ (ns : Nodes) where
    -- siblings with all below them, as many levels as these
    abbrev pub seen_to : ℕ → List ℕ → KeyForest
    seen_to zero siblings = none
    seen_to (suc levels) siblings = along (λ n. seen_to levels (element_children ns n)) siblings

abbrev pub siblings_of : KeptSiblings → KeyForest
siblings_of s = seen_to s.records.now.slots s.doc.now s.levels (drop s.place (elements_under s.doc.now s.parent))

-- this element is the first of them, and this is kept of it
pub record IsFirstKept (s : KeptSiblings) (n : ℕ) (k : KeptElement) : Type 0 where
  pub there : slice_get (elements_under s.doc.now s.parent) s.place ≡ Some n
  pub kept : IsKept s.records.now.slots n k
  pub levels : 0 < s.levels
  pub place : s.place + 1 < 2 ^ 32

-- the numbers of elements in document order
abbrev pub numbers_in : KeyForest → List ℕ
numbers_in none = []
numbers_in (element own below next) = own.number ∷ (numbers_in below ++ numbers_in next)
