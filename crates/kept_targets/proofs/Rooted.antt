-- Elements that are added where a document is another than before.
use Rattle.std.proofs.Common.{◌≡◌, ◌⊎◌, ℕ, List, [], Some, true, inl, inr}
use Rattle.doc_nodes.specs.Nodes.{Nodes, Has, is_element_at, element_children}
use Rattle.doc_changes.specs.Held.{parent_at}
use Rattle.kept_targets.specs.Moved.{Adds}
use Rattle.kept_targets.specs.Turned.{list_of, own_of}
use Rattle.kept_targets.specs.declared.turn.Turn.{Turn}

module _ (ns : Nodes) (turn : Turn) where
  -- the own one of the turn, or a child element of the one whose child elements are others
  abbrev pub IsRoot : ℕ → Type 0
  IsRoot m = (own_of turn ≡ Some m) ⊎ ((p : ℕ) × (list_of ns turn ≡ Some p) × Has m (element_children ns p))

  -- each is one of these, or below another that was added
  pub only-by : (roots : ℕ → Type 0) → ((m : ℕ) → roots m → IsRoot m) → (moved : List ℕ) → Adds ns [] moved roots → (m : ℕ) → Has m moved → (is_element_at ns m ≡ true)
      × ((own_of turn ≡ Some m) ⊎ (((p : ℕ) × (list_of ns turn ≡ Some p) × Has m (element_children ns p)) ⊎ ((p : ℕ) × (parent_at ns m ≡ Some p) × Has p moved)))
  only-by roots from moved adds m h =
      elim (adds.only m h) [
        | inl none ↦ absurd none
        | inr new ↦ (new.0, elim new.1 [ inl root ↦ elim (from m root) [ inl own ↦ inl own | inr listed ↦ inr (inl listed) ] | inr up ↦ inr (inr up) ])
      ]
