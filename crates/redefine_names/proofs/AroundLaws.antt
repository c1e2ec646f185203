-- Versions around elements, found in one walk from the front.
use Rattle.std.proofs.Common.{◌≡◌, ℕ, suc, ◌+◌, ◌<◌, ◌≤◌, ◌==◌, Bool, true, false, List, Option, None, Some, All, length, set, refl, sym, ap, ◌∙◌, arith}
use Rattle.std.specs.Prelude.{slice_get, slice_index_or, if◌then◌else◌}
use Rattle.std.specs.List.{list_any}
use Rattle.std.proofs.lemmas.Bool.Decides.{nat_tests}
use Rattle.std.proofs.lemmas.List.{get_or-set_same, get_or-set_other}
use Rattle.std.proofs.lemmas.List.Elements.{All-weaker}
use Rattle.std.proofs.lemmas.List.Folds.{list_any_none}
use Rattle.representations.specs.Behind.{IsBetween, AreBehind}
use Rattle.representations.specs.declared.parts.Representation.{Representation}
use Rattle.redefine_names.specs.VersionNames.{original_at}
use Rattle.redefine_names.specs.Redirections.{is_in, version_or, version_above, version_around}

-- a place that is not behind another does not stand in it
apart : (i n place : ℕ) (members : List ℕ) → All (IsBetween i n) members → place ≤ i → list_any (λ member. member == place) members ≡ false
apart i n place members each l =
    list_any_none (λ member. member == place) members
    (All-weaker (IsBetween i n) (λ member. (member == place) ≡ false) (λ member between. let b = between.0 in grind (arith, nat_tests)) members each)

module _ (reps : List Representation) (originals : List (Option ℕ)) (behind : AreBehind reps) (i : ℕ) (rep : Representation) (at : slice_get reps i ≡ Some rep) (within : i < length reps)
    (was new : List (Option ℕ)) (here : Option ℕ) (many : length was ≡ length reps)
    (done : (place : ℕ) → place < i → slice_index_or was place None ≡ version_around reps originals place)
    (ahead : (place : ℕ) → i ≤ place → slice_index_or was place None ≡ version_above reps originals i place)
    (is : here ≡ version_or i (original_at originals i) (slice_index_or was i None))
    (put : (place : ℕ) → slice_index_or new place None ≡ (if list_any (λ member. member == place) rep.members then here else slice_index_or (set was i here) place None))
  where
    same : here ≡ version_around reps originals i
    same = let l : i ≤ i = omega arith in is ∙ ap (version_or i (original_at originals i)) (ahead i l)

    kept : (place : ℕ) → place ≤ i → slice_index_or new place None ≡ slice_index_or (set was i here) place None
    kept place l = put place ∙ ap (λ (b : Bool). if b then here else slice_index_or (set was i here) place None) (apart i (length reps) place rep.members (behind i rep at) l)

    other : (place : ℕ) → (place ≡ i → ⊥) → slice_index_or (set was i here) place None ≡ slice_index_or was place None
    other place differ = get_or-set_other was i place here None differ

    at-one : (place : ℕ) → place < i + 1 → (b : Bool) → (place == i) ≡ b → slice_index_or new place None ≡ version_around reps originals place
    at-one place l true e =
        let is : place ≡ i = grind (arith, nat_tests) in
        let w : i < length was = omega (arith, within, many) in
        kept place (omega (arith, is)) ∙ (ap (λ (p : ℕ). slice_index_or (set was i here) p None) is ∙ (get_or-set_same was i here None w ∙ (same ∙ ap (version_around reps originals) (sym is))))
    at-one place l false e =
        let before : place < i = grind (arith, nat_tests) in
        kept place (omega (arith, before)) ∙ (other place (λ is. omega (arith, is, before)) ∙ done place before)

    pub done-step : (place : ℕ) → place < i + 1 → slice_index_or new place None ≡ version_around reps originals place
    done-step place l = at-one place l (place == i) refl

    pub ahead-step : (place : ℕ) → i + 1 ≤ place → slice_index_or new place None ≡ version_above reps originals (i + 1) place
    ahead-step place l =
        let on : i + 1 ≡ suc i = omega arith in
        put place
        ∙ (ap (λ (o : Option ℕ). if list_any (λ member. member == place) rep.members then here else o) (other place (λ e. omega (arith, e, l)) ∙ ahead place (omega (arith, l)))
        ∙ (ap (λ (o : Option ℕ). if list_any (λ member. member == place) rep.members then o else version_above reps originals i place) same
        ∙ (ap (λ (r : Option Representation). if is_in place r then version_around reps originals i else version_above reps originals i place) (sym at)
        ∙ ap (λ (n : ℕ). version_above reps originals n place) (sym on))))
