-- Looking through documents, depth first and each once.
use Rattle.std.proofs.Common.{◌≡◌, ℕ, zero, suc, ◌+◌, ◌-◌, ◌<◌, ◌⊎◌, inl, inr, List, [], ◌∷◌, ◌++◌, length, set, get_or, Bool, true, false, true≢false, Option, refl, sym, ap, ◌∙◌, subst, arith}
use Rattle.std.specs.Prelude.{Contains, reverse}
use Rattle.std.proofs.lemmas.Bool.{cases_eq}
use Rattle.std.proofs.lemmas.Option.{none-some}
use Rattle.std.proofs.lemmas.List.{get_or-set_same, get_or-set_other, reverse-append}
use Rattle.std.proofs.lemmas.List.Elements.{Contains-push, Contains-push_cases, Contains-append_left, Contains-append_right, Contains-append_cases}
use Rattle.schema_set.specs.declared.documents.Available.{Available}
use Rattle.schema_set.specs.Order.{IsNumber}
use Rattle.redefine_originals.specs.declared.versions.Redefinable.{Redefinable}
use Rattle.redefine_originals.specs.Versions.{Version, inclusions, Finds, nowhere, again, here, further}
use Rattle.redefine_originals.specs.inside.Marks.{marked, AreSeen, weight}

-- ---- lists
pub one-more : (d : ℕ) (xs : List ℕ) → reverse (xs ++ d ∷ []) ≡ d ∷ reverse xs
one-more d xs = reverse-append xs (d ∷ [])

among-first : (d : ℕ) (xs : List ℕ) → Contains (d ∷ xs) d
among-first d xs = Contains-append_left (d ∷ []) xs d (Contains-push [] d)

among-cases : (d x : ℕ) (xs : List ℕ) → Contains (d ∷ xs) x → (d ≡ x) ⊎ Contains xs x
among-cases d x xs c = elim (Contains-append_cases (d ∷ []) xs x c) [
  | inl one ↦ elim (Contains-push_cases [] d x one) [ inl none ↦ absurd (omega (arith, none.1)) | inr same ↦ inl same ]
  | inr more ↦ inr more
]

-- ---- what is found is one
module _ (available : List Available) (of : Redefinable) (name : List ℕ) where
  pub finds-one : (left seen : List ℕ) (a b : Option Version) → Finds available of name left seen a → Finds available of name left seen b → a ≡ b
  finds-one _ _ _ _ (nowhere seen) (nowhere _) = refl
  finds-one _ _ _ _ (again d left seen a c f) (again _ _ _ b _ g) = finds-one left seen a b f g
  finds-one _ _ _ _ (again d left seen a c f) (here _ _ _ v out _) = absurd (out c)
  finds-one _ _ _ _ (again d left seen a c f) (further _ _ _ b out _ _) = absurd (out c)
  finds-one _ _ _ _ (here d left seen v out e) (again _ _ _ b c _) = absurd (out c)
  finds-one _ _ _ _ (here d left seen v out e) (here _ _ _ w _ g) = sym e ∙ g
  finds-one _ _ _ _ (here d left seen v out e) (further _ _ _ b _ none _) = absurd (none-some v (sym none ∙ e))
  finds-one _ _ _ _ (further d left seen a out none f) (again _ _ _ b c _) = absurd (out c)
  finds-one _ _ _ _ (further d left seen a out none f) (here _ _ _ w _ g) = absurd (none-some w (sym none ∙ g))
  finds-one _ _ _ _ (further d left seen a out none f) (further _ _ _ b _ _ g) = finds-one (inclusions available d ++ left) (d ∷ seen) a b f g

-- ---- marks
module _ (available : List Available) where
  pub marked-more : (d : ℕ) (marks : List Bool) (seen : List ℕ) → IsNumber available d → length marks ≡ length available → AreSeen available marks seen → AreSeen available (set marks (d - 1) true) (d ∷ seen)
  marked-more d marks seen is len are x number = elim (cases_eq x d) [
    | inl same ↦ (
        let there : d - 1 < length marks = omega (arith, len, is.0, is.1) in
        (λ m. subst (Contains (d ∷ seen)) (sym same) (among-first d seen), λ c. subst (λ y. marked (set marks (d - 1) true) y ≡ true) (sym same) (get_or-set_same marks (d - 1) true false there))
        )
    | inr other ↦ (
        let apart : (x - 1 ≡ d - 1) → ⊥ = λ e. other (omega (arith, e, is.0, number.0)) in
        let kept = get_or-set_other marks (d - 1) (x - 1) true false apart in (
          λ m. Contains-append_right (d ∷ []) seen x ((are x number).0 (sym kept ∙ m)),
          λ c. elim (among-cases d x seen c) [ inl same ↦ absurd (other (sym same)) | inr before ↦ kept ∙ (are x number).1 before ],
        )
        )
  ]

  pub weight-less : (n k : ℕ) (marks : List Bool) → k < length marks → get_or marks k false ≡ false → weight available n (set marks k true) + length (inclusions available (n + k)) ≡ weight available n marks
  weight-less n k [] h e = absurd (omega (arith, h))
  weight-less n zero (true ∷ marks) h e = absurd (true≢false e)
  weight-less n zero (false ∷ marks) h e =
      let same : n + 0 ≡ n = omega arith in
      let count : length (inclusions available (n + 0)) ≡ length (inclusions available n) = ap (λ m. length (inclusions available m)) same in
      omega (arith, count)
  weight-less n (suc k) (m ∷ marks) h e =
      let rest = weight-less (n + 1) k marks (omega (arith, h)) e in
      let same : n + 1 + k ≡ n + suc k = omega arith in
      let count : length (inclusions available (n + 1 + k)) ≡ length (inclusions available (n + suc k)) = ap (λ i. length (inclusions available i)) same in
      omega (arith, rest, count)
