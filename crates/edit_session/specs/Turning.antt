-- Where a document will be another by a change that begins at an element.
use Rattle.std.specs.Prelude.{◌≡◌, ◌↔◌, ℕ, true, Some}
use Rattle.std.specs.declared.alloc.Global.{Global}
use Rattle.std.specs.declared.vec.Vec.{Vec}
use Rattle.doc_nodes.specs.Nodes.{Nodes, Has, is_element_at}
use Rattle.doc_changes.specs.Held.{parent_at}
use Rattle.kept_inverses.specs.from_kept_changes.Spot.{Spot}
use Rattle.kept_inverses.specs.from_kept_changes.Spot.TheVariants.{Planted, Pruned, Retexted, Attributed, Renamed}
use Rattle.kept_inverses.specs.from_kept_forgetting.Below.{IsWithin}
use Rattle.kept_keys.specs.from_kept_targets.Turn.{Turn}
use Rattle.kept_keys.specs.from_kept_targets.Turn.TheVariants as turns

-- an element that is taken away is gone with all elements below it
pub record IsGone (ns : Nodes) (n : ℕ) (turn : Turn) : Type 0 where
  pub parent : ℕ
  pub parent_is : parent_at ns n ≡ Some parent
  pub numbers : Vec ℕ Global
  pub those : (m : ℕ) → Has m numbers.items ↔ ((is_element_at ns m ≡ true) × IsWithin ns n m)
  pub is : turn ≡ turns.Gone parent numbers

abbrev pub IsTurnOf : Nodes → Spot → Turn → Type 0
IsTurnOf ns (Planted n) turn = turn ≡ turns.Listed n
IsTurnOf ns (Pruned n) turn = IsGone ns n turn
IsTurnOf ns (Retexted n) turn = turn ≡ turns.Own n
IsTurnOf ns (Attributed n) turn = turn ≡ turns.Own n
IsTurnOf ns (Renamed n) turn = turn ≡ turns.Listed n
