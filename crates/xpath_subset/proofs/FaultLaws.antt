-- The least fault of paths and constraints, one after another.
use Rattle.std.proofs.Common.{◌≡◌, ◌≢◌, ◌⊎◌, inl, inr, ℕ, ◌+◌, ◌<◌, ◌≤◌, Bool, true, false, if◌then◌else◌, List, [], ◌∷◌, ◌++◌, Option, None, Some, length, get_or, take, slice_get, refl, sym, ap, ◌∙◌, subst, arith}
use Rattle.std.specs.Prelude.{Any, Err}
use Rattle.std.specs.List.{AllZip}
use Rattle.std.proofs.lemmas.Bool.{cases_lt}
use Rattle.std.proofs.lemmas.Grind.{common_steps}
use Rattle.std.proofs.lemmas.List.{take_more, take_all}
use Rattle.std.proofs.lemmas.List.Quantifiers.{Any-push}
use Rattle.std.proofs.lemmas.Option.{none-some, same_Some}
use Rattle.xs_codes.specs.Least.{IsLeast, is_before, sooner}
use Rattle.xs_codes.proofs.LeastLaws.{fault_not_itself, least-sum, least-same}
use Rattle.xs_codes.specs.declared.code.Code.{Code}
use Rattle.xs_codes.specs.declared.code.Code.TheVariants.{CPropsCorrect2}
use Rattle.xs_codes.specs.declared.fault.Fault.{Fault}
use Rattle.xs_components.specs.Tables.{Tables}
use Rattle.xs_components.specs.declared.constraint.Constraint.{Constraint}
use Rattle.xs_components.specs.declared.constraint.ConstraintKind.TheVariants.{Keyref}
use Rattle.xs_components.specs.declared.constraint.PathText.{PathText}
use Rattle.xpath_subset.specs.Grammar.{WrittenPaths, IsReading, paths_meaning}
use Rattle.xpath_subset.specs.declared.path.Path.{Path}
use Rattle.xpath_subset.specs.declared.reading.XPathFault.{XPathFault}
use Rattle.xpath_subset.specs.declared.reading.XPathFault.TheVariants.{Syntax, Unbound}
use Rattle.xpath_subset.specs.Reads.{IsReadAs}
use Rattle.xpath_subset.specs.Faults.{fault_at, IsUnreadable, IsCountFault}

-- ---- one path

-- a path that is read has no fault
pub read-faultless : (IsWritten : List ℕ → WrittenPaths → Type 0) (code : Code) (path : PathText) (paths : List Path) → IsReadAs IsWritten path paths → IsLeast (IsUnreadable IsWritten code path) None
read-faultless IsWritten code path paths read f x = x.0 paths read

-- one that is not read is read as nothing
pub unread : (IsWritten : List ℕ → WrittenPaths → Type 0) (path : PathText) (fault : XPathFault) → IsReading (IsWritten path.text) (paths_meaning path.scope) (Err fault) → (paths : List Path) → IsReadAs IsWritten path paths → ⊥
unread IsWritten path Syntax fails paths read = fails read.0.0 read.0.1
unread IsWritten path Unbound fails paths read = none-some paths (sym (fails.1 read.0.0 read.0.1) ∙ read.1 read.0.0 read.0.1)

pub read-fault : (IsWritten : List ℕ → WrittenPaths → Type 0) (code : Code) (path : PathText) (xpath_fault : XPathFault) (fault : Fault) → IsReading (IsWritten path.text) (paths_meaning path.scope) (Err xpath_fault) → fault ≡ fault_at path.at code →
    IsLeast (IsUnreadable IsWritten code path) (Some fault)
read-fault IsWritten code path xpath_fault fault fails is = (
  (unread IsWritten path xpath_fault fails, is),
  λ g x. subst (λ f. is_before f fault ≡ false) (is ∙ sym x.1) (fault_not_itself fault),
)

-- ---- several, one after another

module _ {X : Type 0} (P : X → Type 0) where
  any-before : (xs : List X) (y : X) → Any P xs → Any P (xs ++ y ∷ [])
  any-before xs y a = let within = a.2 in let is = a.3 in (a.0, a.1, grind (arith, common_steps), grind (arith, common_steps), a.4)

  any-split : (xs : List X) (y : X) → Any P (xs ++ y ∷ []) → Any P xs ⊎ P y
  any-split xs y a =
      let within = a.2 in
      let is = a.3 in
      elim (cases_lt a.0 (length xs)) [
        | inl early ↦ inl (a.0, a.1, early, grind (arith, common_steps), a.4)
        | inr late ↦ let last : a.1 ≡ y = grind (arith, common_steps) in inr (subst P last a.4)
      ]

module _ {X : Type 0} (Broken : X → Fault → Type 0) (xs : List X) (i : ℕ) (d : X) (within : i < length xs) where
  -- with the next one
  pub least-next : (best found new : Option Fault) → new ≡ sooner best found → IsLeast (λ f. Any (λ x. Broken x f) (take i xs)) best → IsLeast (Broken (get_or xs i d)) found → IsLeast (λ f. Any (λ x. Broken x f) (take (i + 1) xs)) new
  least-next best found new is before own =
      let more = take_more xs i d within in
      subst (λ r. IsLeast (λ f. Any (λ x. Broken x f) (take (i + 1) xs)) r) (sym is)
      (subst (λ ys. IsLeast (λ f. Any (λ x. Broken x f) ys) (sooner best found)) (sym more)
      (least-same (λ f. Any (λ x. Broken x f) (take i xs) ⊎ Broken (get_or xs i d) f) (λ f. Any (λ x. Broken x f) (take i xs ++ get_or xs i d ∷ []))
      (λ f either. elim either [ inl x ↦ any-before (λ x. Broken x f) (take i xs) (get_or xs i d) x | inr x ↦ Any-push (λ x. Broken x f) (take i xs) (get_or xs i d) x ])
      (λ f x. any-split (λ x. Broken x f) (take i xs) (get_or xs i d) x)
      (sooner best found) (least-sum (λ f. Any (λ x. Broken x f) (take i xs)) (Broken (get_or xs i d)) best found before own)))

pub least-none : {X : Type 0} (Broken : X → Fault → Type 0) (xs : List X) → IsLeast (λ f. Any (λ x. Broken x f) (take 0 xs)) None
least-none Broken [] f x = absurd (omega (arith, x.2))
least-none Broken (y ∷ ys) f x = absurd (omega (arith, x.2))

pub least-all : {X : Type 0} (Broken : X → Fault → Type 0) (xs : List X) (i : ℕ) (best : Option Fault) → length xs ≤ i → IsLeast (λ f. Any (λ x. Broken x f) (take i xs)) best → IsLeast (λ f. Any (λ x. Broken x f) xs) best
least-all Broken xs i best past least = subst (λ ys. IsLeast (λ f. Any (λ x. Broken x f) ys) best) (take_all i xs past) least

module _ {A B : Type 0} (R : A → B → Type 0) where
  pub zip-push : (xs : List A) (ys : List B) (x : A) (y : B) → AllZip R xs ys → R x y → AllZip R (xs ++ x ∷ []) (ys ++ y ∷ [])
  zip-push [] [] x y z r = (r, tt)
  zip-push [] (b ∷ ys) x y z r = absurd z
  zip-push (a ∷ xs) [] x y z r = absurd z
  zip-push (a ∷ xs) (b ∷ ys) x y z r = (z.0, zip-push xs ys x y z.1 r)

  -- with the next one
  pub zip-next : (xs : List A) (ys : List B) (i : ℕ) (d : A) (y : B) → i < length xs → AllZip R (take i xs) ys → R (get_or xs i d) y → AllZip R (take (i + 1) xs) (ys ++ y ∷ [])
  zip-next xs ys i d y within z r = subst (λ front. AllZip R front (ys ++ y ∷ [])) (sym (take_more xs i d within)) (zip-push (take i xs) ys (get_or xs i d) y z r)

  pub zip-none : (xs : List A) → AllZip R (take 0 xs) []
  zip-none [] = tt
  zip-none (x ∷ xs) = tt

  pub zip-all : (xs : List A) (ys : List B) (i : ℕ) → length xs ≤ i → AllZip R (take i xs) ys → AllZip R xs ys
  zip-all xs ys i past z = subst (λ front. AllZip R front ys) (take_all i xs past) z

-- neither of two faults is there
neither-of : (first other : Fault) (before : Bool) → (if before then Some other else Some first) ≡ None → ⊥
neither-of first other true e = none-some other (sym e)
neither-of first other false e = none-some first (sym e)

pub neither : (a b : Option Fault) → sooner a b ≡ None → (a ≡ None) × (b ≡ None)
neither None b e = (refl, e)
neither (Some first) None e = absurd (none-some first (sym e))
neither (Some first) (Some other) e = absurd (neither-of first other (is_before other first) e)

-- what is known of the first so many, with the next one
module _ {X Y : Type 0} (Broken : X → Fault → Type 0) (R : X → Y → Type 0) (xs : List X) (i : ℕ) (x : X) (within : i < length xs) (is : x ≡ get_or xs i x) (best found new : Option Fault) (joined : new ≡ sooner best found) where
  pub known-least : IsLeast (λ f. Any (λ y. Broken y f) (take i xs)) best → IsLeast (Broken x) found → IsLeast (λ f. Any (λ y. Broken y f) (take (i + 1) xs)) new
  known-least before own = least-next Broken xs i x within best found new joined before (subst (λ y. IsLeast (Broken y) found) is own)

  pub known-read : (ys more : List Y) (y : Y) → more ≡ ys ++ y ∷ [] → (best ≡ None → AllZip R (take i xs) ys) → (found ≡ None → R x y) → new ≡ None → AllZip R (take (i + 1) xs) more
  known-read ys more y pushed before own none =
      let both = neither best found (sym joined ∙ none) in
      subst (AllZip R (take (i + 1) xs)) (sym pushed) (zip-next R xs ys i x y within (before both.0) (subst (λ z. R z y) is (own both.1)))

-- ---- a keyref's fields

module _ (t : Tables) (c : Constraint) where
  pub no-keyref : ((key : ℕ) → c.kind ≡ Keyref key → ⊥) → IsLeast (IsCountFault t c) None
  no-keyref none f x = none x.key x.refers

  module _ (key : ℕ) (refers : c.kind ≡ Keyref key) where
    same-key : (f : Fault) (x : IsCountFault t c f) → x.key ≡ key
    same-key f x = let both : Keyref x.key ≡ Keyref key = sym x.refers ∙ refers in cc

    pub no-key : slice_get t.constraints.parts key ≡ None → IsLeast (IsCountFault t c) None
    no-key none f x = none-some x.referred (sym none ∙ (ap (slice_get t.constraints.parts) (sym (same-key f x)) ∙ x.is))

    module _ (referred : Constraint) (is : slice_get t.constraints.parts key ≡ Some referred) where
      same-referred : (f : Fault) (x : IsCountFault t c f) → x.referred ≡ referred
      same-referred f x = same_Some x.referred referred (sym x.is ∙ (ap (slice_get t.constraints.parts) (same-key f x) ∙ is))

      pub as-many : length c.fields ≡ length referred.fields → IsLeast (IsCountFault t c) None
      as-many same f x = x.differ (same ∙ ap (λ (r : Constraint). length r.fields) (sym (same-referred f x)))

      pub other-many : length c.fields ≢ length referred.fields → (fault : Fault) → fault ≡ fault_at c.at CPropsCorrect2 → IsLeast (IsCountFault t c) (Some fault)
      other-many differ fault here = (
        record { key = key; refers = refers; referred = referred; is = is; differ = differ; fault_is = here },
        λ g x. subst (λ f. is_before f fault ≡ false) (here ∙ sym x.fault_is) (fault_not_itself fault),
      )
