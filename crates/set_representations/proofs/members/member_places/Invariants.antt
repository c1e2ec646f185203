use Rattle.std.proofs.Common.{◌≡◌, ℕ, ◌+◌, ◌≤◌, drop, length}
use Rattle.std.specs.Prelude.{reverse}
use Rattle.set_representations.specs.Members.{place_from, all_members}
use Rattle.set_representations.specs.inside.Building.{found}
use Rattle.set_representations.proofs.members.member_places.Given as goal

abbrev pub invariant-loop-left : goal.invariant-loop-left
invariant-loop-left l = record {
  within : l.left ≤ length l.shapes;
  members : l.members ≡ reverse (all_members (l.first + l.left) (drop l.left l.shapes));
  known : (item : ℕ) → found l.known item ≡ place_from (l.first + l.left) (drop l.left l.shapes) item;
}

abbrev pub decreases-loop-left : goal.decreases-loop-left
decreases-loop-left l = l.left
