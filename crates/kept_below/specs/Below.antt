-- What is settled from an element downwards, and what stays as it is.
use Rattle.std.specs.Prelude.{◌≡◌, ◌<◌, ℕ, List, Some}
use Rattle.compiled_schema.specs.declared.compiled.Compiled.{Compiled}
use Rattle.model_lists.specs.Lists.{KeepLists}
use Rattle.doc_nodes.specs.Nodes.{Nodes, node, depth_by, Has}
use Rattle.child_listing.specs.from_kept_records.Slots.{IsMade, kept_at, pair_at}
use Rattle.child_listing.specs.from_kept_state.Kept.{IsBeside}
use Rattle.child_listing.specs.from_kept_state.KeptChildren.{KeptChildren}
use Rattle.child_listing.specs.from_kept_state.Governed.{Governed}
use Rattle.child_listing.specs.from_kept_state.KeptState.{KeptState}
use Rattle.child_listing.specs.from_kept_judging.Judged.{IsJudgedAnew}
use Rattle.kept_forgetting.specs.Below.{IsWithin, KeepsBut}

-- these are at lesser depths than n
abbrev pub AreAbove : Nodes → ℕ → List ℕ → Type 0
AreAbove ns n those = (m : ℕ) → Has m those → depth_by (node ns m) < depth_by (node ns n)

-- ---- what stays

-- an element is governed so, and nothing is kept otherwise but of it and of what is below it
pub record IsSettled (ns : Nodes) (old new : KeptState) (element : Governed) : Type 0 where
  pub made : IsMade new.records.slots element.node
  pub pair_is : pair_at new.records.slots element.node ≡ element.pair
  pub rest : KeepsBut (IsWithin ns element.node) old new

-- each element has the codes of its identity constraints that it had
abbrev pub KeepsIdentity : KeptState → KeptState → Type 0
KeepsIdentity old new = (n : ℕ) → (kept_at new.records.slots n).identity ≡ (kept_at old.records.slots n).identity

-- ---- an element with its child elements

-- an element is kept anew: governed so, with this of its child elements, and judged by it; then the list that it had is given back
pub record IsMadeAnew (c : Compiled) (ns : Nodes) (old new : KeptState) (element : Governed) (children : KeptChildren) : Type 0 where
  pub mid : KeptState
  pub anew : IsJudgedAnew c ns old mid element.node element.pair children
  pub beside : IsBeside c ns mid
  pub rest : new ≡ record mid { lists = new.lists }
  pub lists : KeepLists mid.lists new.lists (λ h. (kept_at old.records.slots element.node).list ≡ Some h)
