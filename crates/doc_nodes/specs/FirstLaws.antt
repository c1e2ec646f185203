-- The laws of what is kept of some children.
use Rattle.std.proofs.Common.{◌≡◌, ℕ, Option, Some, None, false, refl, sym, ap, ◌∙◌}
use Rattle.child_trees.specs.Laws.{SummaryLaws}
use Rattle.doc_nodes.specs.declared.firsts.First.{First}
use Rattle.doc_nodes.specs.Firsts.{no_child, either, firsts_joined, first_found}

either-none : (a : Option ℕ) → either a None ≡ a
either-none None = refl
either-none (Some n) = refl

either-assoc : (a b c : Option ℕ) → either (either a b) c ≡ either a (either b c)
either-assoc None b c = refl
either-assoc (Some n) b c = refl

joined-none : (m : First) → firsts_joined m no_child ≡ m
joined-none m = ap (λ z. record { child = z; element = either m.element None }) (either-none m.child) ∙ ap (λ z. record { child = m.child; element = z }) (either-none m.element)

joined-assoc : (m n o : First) → firsts_joined (firsts_joined m n) o ≡ firsts_joined m (firsts_joined n o)
joined-assoc m n o =
    ap (λ z. record { child = z; element = either (either m.element n.element) o.element }) (either-assoc m.child n.child o.child)
    ∙ ap (λ z. record { child = either m.child (either n.child o.child); element = z }) (either-assoc m.element n.element o.element)

pub first_laws : SummaryLaws {Shape = Unit {0}} {Map = First} {State = First} (λ _ _. Unit {0}) (λ _ _. Unit {0}) (λ _. no_child) firsts_joined first_found (λ _ _. false)
first_laws = record {
  unit_is = λ h. tt;
  join_is = λ h m n _ _. tt;
  acts_is = λ h m s _ _. tt;
  left_unit = λ h m _. refl;
  right_unit = λ h m _. joined-none m;
  assoc = λ h m n o _ _ _. joined-assoc m n o;
  acts_unit = λ h s _. joined-none s;
  acts_join = λ h m n s _ _ _. sym (joined-assoc s m n);
  stays_dead = λ h m s _ _ e. e;
}
