-- The codes of an element by its number, which no other has.
use Rattle.std.proofs.Common.{◌≡◌, ℕ, ◌≤◌, ◌==◌, Bool, true, false, if◌then◌else◌, inl, inr, List, [], ◌++◌, refl, ap, ◌∙◌, arith, append-nil}
use Rattle.std.proofs.lemmas.Bool.{eq-eqb}
use Rattle.xs_names.specs.Names.{NameTable}
use Rattle.xs_codes.specs.declared.fault.Found.{Found}
use Rattle.xs_components.specs.Tables.{Tables}
use Rattle.xpath_subset.specs.declared.paths.IdentityPaths.{IdentityPaths}
use Rattle.identity_constraints.specs.Seen.{KeyElement, KeyForest, none, element}
use Rattle.identity_constraints.specs.Satisfied.{identity_codes, identity_at}
use Rattle.scope_targets.specs.Targetings.{HasWithin, uses}

abbrev pub weight : Bool → ℕ
weight b = if b then 1 else 0

module _ (names : NameTable) (t : Tables) (identities : List IdentityPaths) where
  abbrev at : KeyForest → ℕ → List Found
  at f n = identity_at names t identities n f

  none-of : (m n : ℕ) (x : List Found) → weight (m == n) ≡ 0 → (if m == n then x else []) ≡ []
  none-of m n x e = other (m == n) e
    where
      other : (b : Bool) → weight b ≡ 0 → (if b then x else []) ≡ []
      other true h = absurd (omega (arith, h))
      other false h = refl

  none-at : (n : ℕ) (f : KeyForest) → uses n f ≡ 0 → at f n ≡ []
  none-at n none h = refl
  none-at n (element own below next) h =
      let first = none-of own.number n (identity_codes names t identities own below) (omega (arith, h)) in
      let one = none-at n below (omega (arith, h)) in
      let two = none-at n next (omega (arith, h)) in
      λ i. first i ++ (one i ++ two i)

  own-first : (n : ℕ) (x : List Found) → (if n == n then x else []) ≡ x
  own-first n x = ap (λ (b : Bool). if b then x else []) (eq-eqb n n refl)

  -- an element that is there is counted
  within-times : (own : KeyElement) (below : KeyForest) (f : KeyForest) → HasWithin own below f → 1 ≤ uses own.number f
  within-times own below none h = absurd h
  within-times own below (element other under next) (inl e) =
      let one : weight (other.number == own.number) ≡ 1 = ap (λ (x : KeyElement). weight (x.number == own.number)) e.0 ∙ ap weight (eq-eqb own.number own.number refl) in
      omega (arith, one)
  within-times own below (element other under next) (inr (inl h)) = let some = within-times own below under h in omega (arith, some)
  within-times own below (element other under next) (inr (inr h)) = let some = within-times own below next h in omega (arith, some)

  -- the codes by its number are its own, where no two elements have one number
  pub codes-within : (own : KeyElement) (below f : KeyForest) → ((n : ℕ) → uses n f ≤ 1) → HasWithin own below f → at f own.number ≡ identity_codes names t identities own below
  codes-within own below none once h = absurd h
  codes-within own below (element other under next) once (inl e) =
      let codes = identity_codes names t identities own below in
      let here : weight (own.number == own.number) ≡ 1 = ap weight (eq-eqb own.number own.number refl) in
      let same : weight (other.number == own.number) ≡ 1 = ap (λ (x : KeyElement). weight (x.number == own.number)) e.0 ∙ here in
      let none-below = none-at own.number under (omega (arith, same, once own.number)) in
      let none-next = none-at own.number next (omega (arith, same, once own.number)) in
      (λ i. (if (e.0 i).number == own.number then identity_codes names t identities (e.0 i) (e.1 i) else []) ++ (none-below i ++ none-next i))
      ∙ (λ i. own-first own.number codes i ++ ([] ++ [])) ∙ append-nil codes
  codes-within own below (element other under next) once (inr (inl h)) =
      let some = within-times own below under h in
      let first = none-of other.number own.number (identity_codes names t identities other under) (omega (arith, some, once own.number)) in
      let behind = none-at own.number next (omega (arith, some, once own.number)) in
      (λ i. first i ++ (at under own.number ++ behind i)) ∙ append-nil (at under own.number) ∙ codes-within own below under (λ n. omega (arith, once n)) h
  codes-within own below (element other under next) once (inr (inr h)) =
      let some = within-times own below next h in
      let first = none-of other.number own.number (identity_codes names t identities other under) (omega (arith, some, once own.number)) in
      let inner = none-at own.number under (omega (arith, some, once own.number)) in
      (λ i. first i ++ (inner i ++ at next own.number)) ∙ codes-within own below next (λ n. omega (arith, once n)) h
