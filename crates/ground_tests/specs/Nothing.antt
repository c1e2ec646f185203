-- A summary that keeps nothing.
use Rattle.std.proofs.Common.{false, refl}
use Rattle.child_trees.specs.Laws.{SummaryLaws}

abbrev pub Nothing : Type 0
Nothing = Unit {0}

pub nothing_laws : SummaryLaws {Shape = Nothing} {Map = Nothing} {State = Nothing} (λ _ _. Nothing) (λ _ _. Nothing) (λ _. tt) (λ _ _. tt) (λ _ _. tt) (λ _ _. false)
nothing_laws = record {
  unit_is = λ h. tt;
  join_is = λ h m n _ _. tt;
  acts_is = λ h m s _ _. tt;
  left_unit = λ h m _. refl;
  right_unit = λ h m _. refl;
  assoc = λ h m n o _ _ _. refl;
  acts_unit = λ h s _. refl;
  acts_join = λ h m n s _ _ _. refl;
  stays_dead = λ h m s _ _ e. e;
}
