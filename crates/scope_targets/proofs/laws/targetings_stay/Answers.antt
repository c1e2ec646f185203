use Rattle.std.proofs.Common.{◌≡◌, true, false}
use Rattle.scope_targets.proofs.Staying.{below-stays, targets-stay}
use Rattle.scope_targets.proofs.Bare.{bare-stays}
use Rattle.scope_targets.proofs.laws.targetings_stay.Goals as goal

pub returns : goal.returns
returns c = record {
  below = λ t old new touched steady leaves n is below new_below above new_above around.
      below-stays t old new (λ n. touched n ≡ false) (λ n. steady n ≡ true) leaves n is below new_below above new_above around;
  targets = λ names t identities old new touched steady leaves n is below new_below above new_above around.
      targets-stay t old new (λ n. touched n ≡ false) (λ n. steady n ≡ true) leaves n is below new_below above new_above around names identities;
  bare = λ names t identities old new touched steady leaves n is below new_below above new_above around bare.
      bare-stays names t identities old new (λ n. touched n ≡ false) (λ n. steady n ≡ true) leaves n is below new_below above new_above around bare;
}
