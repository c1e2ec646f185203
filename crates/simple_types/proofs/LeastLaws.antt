-- The first of rules, and of judged types, is the least of their faults.
use Rattle.std.proofs.Common.{◌≡◌, ◌⊎◌, inl, inr, Bool, true, false, if◌then◌else◌, List, [], ◌∷◌, ◌++◌, Option, None, Some, refl, sym, ap, subst, ◌∙◌}
use Rattle.xs_codes.specs.declared.fault.Fault.{Fault}
use Rattle.xs_codes.specs.Least.{IsLeast}
use Rattle.xs_codes.proofs.LeastLaws.{fault_not_itself, least-sum, least-same}
use Rattle.facet_rules.specs.First.{Rule, fault_at, sooner, first_from, first_fault}
use Rattle.simple_types.specs.declared.judged.JudgedType.{JudgedType}
use Rattle.simple_types.specs.declared.types.SimpleTypes.{SimpleTypes}
use Rattle.simple_types.specs.SimpleTypes.{sooner_if, first_of, first_fault_of}
use Rattle.simple_types.specs.Least.{faults_of_rules, with_fault, faults_in, faults_of_types, IsAmong}

-- the least of some faults and of one that is known
abbrev least : Option Fault → List Fault → Option Fault
least best [] = best
least best (fault ∷ faults) = least (sooner best fault) faults

module _ (A : Fault → Type 0) (f : Fault) where
  itself : IsLeast (λ g. g ≡ f) (Some f)
  itself = (refl, λ g same. rw same (fault_not_itself f))

  one-more : (best : Option Fault) → IsLeast A best → IsLeast (λ g. A g ⊎ (g ≡ f)) (sooner best f)
  one-more None is = least-sum A (λ g. g ≡ f) None (Some f) is itself
  one-more (Some b) is = least-sum A (λ g. g ≡ f) (Some b) (Some f) is itself

  gathered : (fs : List Fault) (g : Fault) → (A g ⊎ (g ≡ f)) ⊎ IsAmong g fs → A g ⊎ IsAmong g (f ∷ fs)
  gathered fs g (inl (inl a)) = inl a
  gathered fs g (inl (inr same)) = inr (inl same)
  gathered fs g (inr more) = inr (inr more)

  parted : (fs : List Fault) (g : Fault) → A g ⊎ IsAmong g (f ∷ fs) → (A g ⊎ (g ≡ f)) ⊎ IsAmong g fs
  parted fs g (inl a) = inl (inl a)
  parted fs g (inr (inl same)) = inl (inr same)
  parted fs g (inr (inr more)) = inr more

least-is : (fs : List Fault) (A : Fault → Type 0) (best : Option Fault) → IsLeast A best → IsLeast (λ f. A f ⊎ IsAmong f fs) (least best fs)
least-is [] A best is = least-same A (λ f. A f ⊎ ⊥) (λ f a. inl a) (λ f either. elim either [ inl a ↦ a | inr never ↦ absurd never ]) best is
least-is (f ∷ fs) A best is =
    least-same (λ g. (A g ⊎ (g ≡ f)) ⊎ IsAmong g fs) (λ g. A g ⊎ IsAmong g (f ∷ fs)) (gathered A f fs) (parted A f fs) (least (sooner best f) fs)
    (least-is fs (λ g. A g ⊎ (g ≡ f)) (sooner best f) (one-more A f best is))

-- where nothing is known
least-alone : (fs : List Fault) → IsLeast (λ f. IsAmong f fs) (least None fs)
least-alone fs =
    least-same (λ f. ⊥ ⊎ IsAmong f fs) (λ f. IsAmong f fs) (λ f either. elim either [ inl never ↦ absurd never | inr among ↦ among ]) (λ f among. inr among) (least None fs)
    (least-is fs (λ f. ⊥) None (λ f never. never))

rules-least : (rules : List Rule) (best : Option Fault) → first_from best rules ≡ least best (faults_of_rules rules)
rules-least [] best = refl
rules-least (r ∷ rs) best = by r.broken (λ best. rules-least rs best)
  where
    by : (b : Bool) → ((best : Option Fault) → first_from best rs ≡ least best (faults_of_rules rs))
        → first_from (if b then sooner best (fault_at r.at r.code) else best) rs ≡ least best (if b then fault_at r.at r.code ∷ faults_of_rules rs else faults_of_rules rs)
    by true rec = rec (sooner best (fault_at r.at r.code))
    by false rec = rec best

types-least : (types : List JudgedType) (best : Option Fault) → first_of best types ≡ least best (faults_in types)
types-least [] best = refl
types-least (j ∷ js) best = by j.fault (λ best. types-least js best)
  where
    by : (fault : Option Fault) → ((best : Option Fault) → first_of best js ≡ least best (faults_in js)) → first_of (sooner_if best fault) js ≡ least best (with_fault fault (faults_in js))
    by None rec = rec best
    by (Some fault) rec = rec (sooner best fault)

least-append : (xs ys : List Fault) (best : Option Fault) → least best (xs ++ ys) ≡ least (least best xs) ys
least-append [] ys best = refl
least-append (x ∷ xs) ys best = least-append xs ys (sooner best x)

pub rules_are_least : (rules : List Rule) → IsLeast (λ f. IsAmong f (faults_of_rules rules)) (first_fault rules)
rules_are_least rules = subst (IsLeast (λ f. IsAmong f (faults_of_rules rules))) (sym (rules-least rules None)) (least-alone (faults_of_rules rules))

-- with those of which the first is known
pub rules_from_least : (Earlier : Fault → Type 0) (rules : List Rule) (best : Option Fault) → IsLeast Earlier best →
    IsLeast (λ f. Earlier f ⊎ IsAmong f (faults_of_rules rules)) (first_from best rules)
rules_from_least Earlier rules best known =
    subst (IsLeast (λ f. Earlier f ⊎ IsAmong f (faults_of_rules rules))) (sym (rules-least rules best)) (least-is (faults_of_rules rules) Earlier best known)

pub types_are_least : (types : SimpleTypes) → IsLeast (λ f. IsAmong f (faults_of_types types)) (first_fault_of types)
types_are_least types =
    let both : first_fault_of types ≡ least None (faults_of_types types) =
    types-least types.complexes (first_of None types.simples)
    ∙ ap (λ best. least best (faults_in types.complexes)) (types-least types.simples None)
    ∙ sym (least-append (faults_in types.simples) (faults_in types.complexes) None) in
    subst (IsLeast (λ f. IsAmong f (faults_of_types types))) (sym both) (least-alone (faults_of_types types))
