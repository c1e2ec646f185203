-- The least fault of redefining components with one original, one by one.
use Rattle.std.proofs.Common.{◌≡◌, ◌⊎◌, inl, inr, ℕ, ◌+◌, ◌<◌, ◌≤◌, ◌==◌, Bool, true, false, List, Option, None, Some, length, refl, sym, ap, subst, ◌∙◌, arith}
use Rattle.std.specs.Prelude.{slice_get, if◌then◌else◌}
use Rattle.std.proofs.lemmas.Bool.{false≢true}
use Rattle.std.proofs.lemmas.Bool.Decides.{nat_tests}
use Rattle.std.proofs.lemmas.Option.{slice_get_within, same_Some}
use Rattle.xs_codes.specs.declared.fault.Fault.{Fault}
use Rattle.xs_codes.specs.Least.{is_before, sooner, IsLeast}
use Rattle.xs_codes.proofs.LeastLaws.{fault_not_itself, least-sum, least-same}
use Rattle.representations.specs.declared.parts.Representation.{Representation}
use Rattle.redefine_names.specs.Shared.{is_shared, shared_fault, IsShared}
use Rattle.redefine_names.specs.inside.Below.{SharedBelow}

module _ (reps : List Representation) (originals : List (Option ℕ)) where
  pub none-below : IsLeast (SharedBelow reps originals 0) None
  none-below = λ fault h. let no : ⊥ = omega (arith, h.2) in absurd no

  pub all-below : (count : ℕ) (best : Option Fault) → length reps ≤ count → IsLeast (SharedBelow reps originals count) best → IsLeast (IsShared reps originals) best
  all-below count best long least =
      least-same (SharedBelow reps originals count) (IsShared reps originals) (λ f h. (h.0, h.1, h.3, h.4, h.5)) (λ f h. let w = slice_get_within reps h.0 h.1 h.2 in (h.0, h.1, omega (arith, w, long), h.2, h.3, h.4)) best least

  -- the fault at a place
  abbrev IsHere : Bool → Representation → Fault → Type 0
  IsHere broken rep fault = (broken ≡ true) × (fault ≡ shared_fault rep.at)

  here : (broken : Bool) (rep : Representation) → IsLeast (IsHere broken rep) (if broken then Some (shared_fault rep.at) else None)
  here false rep = λ fault h. false≢true h.0
  here true rep = ((refl, refl), λ fault h. subst (λ (f : Fault). is_before f (shared_fault rep.at) ≡ false) (sym h.1) (fault_not_itself (shared_fault rep.at)))

  module _ (i : ℕ) (rep : Representation) (at : slice_get reps i ≡ Some rep) where
    forth : (fault : Fault) → SharedBelow reps originals i fault ⊎ IsHere (is_shared originals i) rep fault → SharedBelow reps originals (i + 1) fault
    forth fault (inl h) = (h.0, h.1, omega (arith, h.2), h.3, h.4, h.5)
    forth fault (inr h) = (i, rep, omega arith, at, h.0, h.1)

    back-at : (fault : Fault) (place : ℕ) (own : Representation) → place < i + 1 → slice_get reps place ≡ Some own → is_shared originals place ≡ true → fault ≡ shared_fault own.at → (b : Bool) → (place == i) ≡ b
        → SharedBelow reps originals i fault ⊎ IsHere (is_shared originals i) rep fault
    back-at fault place own l there shared is true e =
        let same : place ≡ i = grind (arith, nat_tests) in
        let one : own ≡ rep = same_Some own rep (sym there ∙ (ap (λ (p : ℕ). slice_get reps p) same ∙ at)) in
        inr (sym (ap (is_shared originals) same) ∙ shared, is ∙ ap (λ (r : Representation). shared_fault r.at) one)
    back-at fault place own l there shared is false e =
        let before : place < i = grind (arith, nat_tests) in
        inl (place, own, before, there, shared, is)

    back : (fault : Fault) → SharedBelow reps originals (i + 1) fault → SharedBelow reps originals i fault ⊎ IsHere (is_shared originals i) rep fault
    back fault h = back-at fault h.0 h.1 h.2 h.3 h.4 h.5 (h.0 == i) refl

    pub one-more : (best new : Option Fault) → new ≡ sooner best (if is_shared originals i then Some (shared_fault rep.at) else None) → IsLeast (SharedBelow reps originals i) best → IsLeast (SharedBelow reps originals (i + 1)) new
    one-more best new is least =
        subst (IsLeast (SharedBelow reps originals (i + 1))) (sym is)
        (least-same (λ f. SharedBelow reps originals i f ⊎ IsHere (is_shared originals i) rep f) (SharedBelow reps originals (i + 1)) forth back (sooner best (if is_shared originals i then Some (shared_fault rep.at) else None))
        (least-sum (SharedBelow reps originals i) (IsHere (is_shared originals i) rep) best (if is_shared originals i then Some (shared_fault rep.at) else None) least (here (is_shared originals i) rep)))
