use Rattle.std.proofs.Common.{◌≡◌, ℕ, length, take}
use Rattle.std.specs.Prelude.{All}
use Rattle.particle_models.specs.Asked.{IsAsked}
use Rattle.particle_models.proofs.asked.ask_all.Given as goal

abbrev pub invariant-loop-member : goal.invariant-loop-member
invariant-loop-member l = record {
  asks : All (IsAsked l.asked.items) (take l.member-index l.members);
  kept : (n : ℕ) → IsAsked l.initial.asked.items n → IsAsked l.asked.items n;
  count : length l.asked.items ≡ length l.initial.asked.items;
}
