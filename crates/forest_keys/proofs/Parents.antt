-- The parents of places, one element more with all below it.
use Rattle.std.proofs.Common.{◌≡◌, ◌+◌, ℕ, List, [], ◌∷◌, ◌++◌, length, Option, Some, refl, sym, ap, ◌∙◌, append_assoc, append-nil, arith}
use Rattle.std.proofs.lemmas.List.{length-append}
use Rattle.identity_constraints.specs.Seen.{KeyElement, KeyForest, none, element}
use Rattle.path_walk.specs.Sight.{IsFirst, below_first, behind_first}
use Rattle.path_walk.specs.inside.Walk.{size}
use Rattle.forest_keys.specs.inside.Places.{parents_along}
use Rattle.forest_keys.proofs.Places.{parents-length}

parents-first : (q : ℕ) (parent : Option ℕ) (f : KeyForest) (first : KeyElement) → IsFirst f first
    → parents_along q parent f ≡ parent ∷ (parents_along (q + 1) (Some q) (below_first f) ++ parents_along (q + 1 + size (below_first f)) parent (behind_first f))
parents-first q parent none first is = absurd is
parents-first q parent (element own below next) first is = refl

pub parents-next : (f below behind : KeyForest) (first : KeyElement) (parent : Option ℕ) (place : ℕ) (old middle new total : List (Option ℕ)) → IsFirst f first → below ≡ below_first f → behind ≡ behind_first f
    → place ≡ length old → middle ≡ old ++ parent ∷ [] → new ≡ middle ++ parents_along (length middle) (Some place) below
    → old ++ parents_along (length old) parent f ≡ total → new ++ parents_along (length new) parent behind ≡ total
parents-next f below behind first parent place old middle new total is under after at put more so =
    let q = length old in
    let xs = parents_along (q + 1) (Some q) (below_first f) in
    let one : length middle ≡ q + 1 = (let long = ap length put in let parts = length-append old (parent ∷ []) in omega (arith, long, parts)) in
    let same : new ≡ (old ++ parent ∷ []) ++ xs = more ∙ (λ i. put i ++ parents_along (one i) (Some (at i)) (under i)) in
    let two : length new ≡ q + 1 + size (below_first f) =
    (let long = ap length same in let parts = length-append (old ++ parent ∷ []) xs in let front = length-append old (parent ∷ []) in let size_is = parents-length (q + 1) (Some q) (below_first f) in omega (arith, long, parts, front, size_is)) in
    let ys = parents_along (q + 1 + size (below_first f)) parent (behind_first f) in
    (λ i. same i ++ parents_along (two i) parent (after i))
    ∙ append_assoc (old ++ parent ∷ []) xs ys ∙ append_assoc old (parent ∷ []) (xs ++ ys)
    ∙ ap (λ zs. old ++ zs) (sym (parents-first q parent f first is)) ∙ so

pub parents-end : (f : KeyForest) (parent : Option ℕ) (old total : List (Option ℕ)) → f ≡ none → old ++ parents_along (length old) parent f ≡ total → old ≡ total
parents-end f parent old total e so = sym (append-nil old) ∙ ap (λ (g : KeyForest). old ++ parents_along (length old) parent g) (sym e) ∙ so
