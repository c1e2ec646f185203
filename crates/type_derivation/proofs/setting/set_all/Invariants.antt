use Rattle.std.proofs.Common.{◌≡◌, ℕ, take}
use Rattle.std.specs.Prelude.{All, Contains}
use Rattle.type_derivation.specs.Cycles.{IsGrown}
use Rattle.type_derivation.specs.Filled.{all_filled}
use Rattle.type_derivation.specs.inside.Filling.{IsDone, IsFilling}
use Rattle.type_derivation.proofs.setting.set_all.Given as goal

abbrev pub invariant-loop-number : goal.invariant-loop-number
invariant-loop-number l = record {
  filling : IsFilling l.parts l.done;
  known : All (IsDone l.done) (take l.number-index l.order);
  only : (n : ℕ) → IsDone l.done n → Contains (take l.number-index l.order) n;
  filled : l.parts ≡ all_filled l.initial.parts (take l.number-index l.order);
  grown : IsGrown l.initial.parts l.parts;
}
