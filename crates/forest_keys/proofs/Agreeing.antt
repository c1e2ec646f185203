-- Codes by the numbers of elements, of which no two have one.
use Rattle.std.proofs.Common.{◌≡◌, ℕ, ◌+◌, ◌≤◌, ◌==◌, Bool, true, false, if◌then◌else◌, List, [], ◌++◌, refl, sym, ap, subst, ◌∙◌, arith, append-nil}
use Rattle.xs_names.specs.Names.{NameTable}
use Rattle.xs_names.specs.Scope.{first_scope}
use Rattle.xs_codes.specs.declared.fault.Found.{Found}
use Rattle.xs_components.specs.Tables.{Tables}
use Rattle.tree_rows.specs.Forest.{Forest, none, text, element, Document}
use Rattle.tree_rows.specs.Whole.{HasRoot, IsTree, times}
use Rattle.assess_records.specs.Numbered.{Scope, heads, scope_in}
use Rattle.elem_governing.specs.declared.pairs.Governing.{Governing}
use Rattle.xpath_subset.specs.declared.paths.IdentityPaths.{IdentityPaths}
use Rattle.identity_constraints.specs.Satisfied.{identity_codes, identity_at}
use Rattle.assessment.specs.Attribution.{SchemaSet}
use Rattle.assessment.specs.Assessment.{Beside, Assessed, nothing, entry, other_pairs, root_pairs, AreAssessed, IsAssessment}
use Rattle.assessment.specs.Joined.{is_root}
use Rattle.what_is_found.specs.Identity.{seen, seen_element, has_invalid, with_more, with_all}
use Rattle.forest_keys.proofs.Coding.{Agrees}

-- how many elements have the number
abbrev pub found_times : ℕ → Assessed → ℕ
found_times n nothing = 0
found_times n (entry own below next) = (if own.number == n then 1 else 0) + (found_times n below + found_times n next)

-- the first is the root
abbrev pub IsRootOf : Forest → Assessed → Type 0
IsRootOf f nothing = ⊥
IsRootOf f (entry own below next) = (n : ℕ) → is_root f n ≡ (own.number == n)

-- those of the document, at most
module _ (s : SchemaSet) (b : Beside) where
  times-within : (n : ℕ) (f : Forest) (scope : Scope) (pairs : List Governing) (found : Assessed) → AreAssessed s b scope pairs f found → found_times n found ≤ times n f
  times-within n none scope pairs found a = subst (λ (x : Assessed). found_times n x ≤ times n none) (sym a) (omega arith)
  times-within n (text number chars next) scope pairs found a = omega (arith, times-within n next scope pairs found a)
  times-within n (element number name bindings attributes children next) scope pairs found a =
      let under = times-within n children (scope_in s.names bindings scope) a.1 a.2 a.6 in
      let behind = times-within n next scope (other_pairs pairs) a.3 a.7 in
      let own : ◌≡◌ {A = ℕ} (if a.0.number == n then 1 else 0) (if number == n then 1 else 0) = ap (λ (m : ℕ). if m == n then 1 else 0) a.5.number_is in
      let all : found_times n (entry a.0 a.2 a.3) ≤ times n (element number name bindings attributes children next) = omega (arith, under, behind, own) in
      subst (λ (x : Assessed). found_times n x ≤ times n (element number name bindings attributes children next)) (sym a.4) all

  pub found_once : (d : Document) → IsTree d → (found : Assessed) → IsAssessment s b d.forest found → (n : ℕ) → found_times n found ≤ 1
  found_once d tree found is n =
      let within = times-within n d.forest first_scope (root_pairs s (heads s.names first_scope d.forest)) found is in
      omega (arith, within, tree.differ n)

  pub root_of : (f : Forest) (found : Assessed) → HasRoot f → IsAssessment s b f found → IsRootOf f found
  root_of none found root a = absurd root
  root_of (text number chars next) found root a = absurd root
  root_of (element number name bindings attributes children next) found root a =
      subst (IsRootOf (element number name bindings attributes children next)) (sym a.4) (λ n. ap (λ m. m == n) (sym a.5.number_is))

-- ---- by the number that an element has

abbrev weight : Bool → ℕ
weight b = if b then 1 else 0

pub at-own : (n : ℕ) → (n == n) ≡ true
at-own n = grind arith

pub none-of : {A : Type 0} (m n : ℕ) (x y : A) → ◌≡◌ {A = ℕ} (if m == n then 1 else 0) 0 → (if m == n then x else y) ≡ y
none-of m n x y e = other (m == n) e
  where
    other : (b : Bool) → ◌≡◌ {A = ℕ} (if b then 1 else 0) 0 → (if b then x else y) ≡ y
    other true h = absurd (omega (arith, h))
    other false h = refl

module _ (names : NameTable) (t : Tables) (identities : List IdentityPaths) where
  abbrev at : ℕ → Assessed → List Found
  at n found = identity_at names t identities n (seen found)

  none-at : (n : ℕ) (found : Assessed) → found_times n found ≡ 0 → at n found ≡ []
  none-at n nothing h = refl
  none-at n (entry own below next) h =
      let first = none-of own.number n (identity_codes names t identities (seen_element own) (seen below)) [] (omega (arith, h)) in
      let one = none-at n below (omega (arith, h)) in
      let two = none-at n next (omega (arith, h)) in
      λ i. first i ++ (one i ++ two i)

  agrees-for : (k other : ℕ → List Found) (found : Assessed) → ((n : ℕ) → 1 ≤ found_times n found → k n ≡ other n) → Agrees names t identities other found → Agrees names t identities k found
  agrees-for k other nothing same agrees = tt
  agrees-for k other (entry own below next) same agrees =
      let here = ap weight (at-own own.number) in (
        same own.number (omega (arith, here)) ∙ agrees.0,
        (agrees-for k other below (λ n h. same n (omega (arith, h))) agrees.1.0, agrees-for k other next (λ n h. same n (omega (arith, h))) agrees.1.1),
      )

  pub at_agrees : (found : Assessed) → ((n : ℕ) → found_times n found ≤ 1) → Agrees names t identities (λ n. at n found) found
  at_agrees nothing once = tt
  at_agrees (entry own below next) once =
      let here = ap weight (at-own own.number) in
      let codes = identity_codes names t identities (seen_element own) (seen below) in (
        (let first : (if own.number == own.number then codes else []) ≡ codes = ap (λ (b : Bool). if b then codes else []) (at-own own.number) in
            let one = none-at own.number below (omega (arith, here, once own.number)) in
            let two = none-at own.number next (omega (arith, here, once own.number)) in
            (λ i. first i ++ (one i ++ two i)) ∙ append-nil codes),
        (
          agrees-for (λ n. at n (entry own below next)) (λ n. at n below) below
              (λ n h. let first = none-of own.number n codes [] (omega (arith, h, once n)) in let two = none-at n next (omega (arith, h, once n)) in (λ i. first i ++ (at n below ++ two i)) ∙ append-nil (at n below))
              (at_agrees below (λ n. omega (arith, once n))),
          agrees-for (λ n. at n (entry own below next)) (λ n. at n next) next
              (λ n h. let first = none-of own.number n codes [] (omega (arith, h, once n)) in let one = none-at n below (omega (arith, h, once n)) in λ i. first i ++ (one i ++ at n next))
              (at_agrees next (λ n. omega (arith, once n))),
        ),
      )

-- codes that are the same of all that are there
pub all_same : (k other : ℕ → List Found) (found : Assessed) → ((n : ℕ) → 1 ≤ found_times n found → k n ≡ other n) → with_all k found ≡ with_all other found
all_same k other nothing same = refl
all_same k other (entry own below next) same =
    let here = ap weight (at-own own.number) in
    let first = same own.number (omega (arith, here)) in
    let one = all_same k other below (λ n h. same n (omega (arith, h))) in
    let two = all_same k other next (λ n h. same n (omega (arith, h))) in
    λ i. entry (record own { element = with_more (first i) (has_invalid (one i)) own.element }) (one i) (two i)
