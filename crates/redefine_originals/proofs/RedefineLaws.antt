-- The redefines of a document, one by one, and what stands in them.
use Rattle.std.proofs.Common.{◌≡◌, ℕ, zero, suc, ◌+◌, ◌<◌, ◌==◌, ◌&&◌, ◌||◌, not, List, [], ◌∷◌, ◌++◌, map, length, take, get_or, Bool, true, false, if◌then◌else◌, cond, Option, None, Some, refl, sym, ap, ◌∙◌, arith}
use Rattle.std.specs.Prelude.{slice_get, filter_map}
use Rattle.std.specs.List.{filter, flat_map}
use Rattle.std.proofs.lemmas.Bool.{eqb-true, eq-eqb}
use Rattle.std.proofs.lemmas.Grind.{flat_map-append}
use Rattle.std.proofs.lemmas.Option.{none-some, same_Some}
use Rattle.std.proofs.lemmas.List.{append-nil, append_assoc, take_more, map-append, length-map, length-take-le}
use Rattle.std.proofs.lemmas.List.Elements.{filter-append}
use Rattle.schema_shape.specs.declared.forms.Shape.{Shape}
use Rattle.redefine_originals.specs.Versions.{Child, redefined, redefining, children_at}
use Rattle.redefine_originals.specs.inside.Redefines.{redefine_at, redefines, is_in, owner_numbers, repeated, child_in, all_inside}

-- ---- in which redefines elements stand
pub set-now : (known here : Bool) → cond here true known ≡ (known || here)
set-now true true = refl
set-now true false = refl
set-now false true = refl
set-now false false = refl

or-false : (b : Bool) → b ≡ (b || false)
or-false true = refl
or-false false = refl

-- a member is noted once
pub noted-step : (known : ℕ → Bool) (x q number : ℕ) (is_new : Bool) (before now new : List ℕ) → is_new ≡ not (known x) → now ≡ before ++ (if known q then number ∷ [] else [])
    → new ≡ now ++ (if is_new && (x == q) then number ∷ [] else []) → new ≡ before ++ (if known q || (x == q) then number ∷ [] else [])
noted-step known x q number is_new before now new e so_far step = by (x == q) (known x) refl refl
  where
    if-so : Bool → List ℕ
    if-so b = if b then number ∷ [] else []

    none : before ++ if-so (known q) ≡ (before ++ if-so (known q)) ++ []
    none = sym (append-nil (before ++ if-so (known q)))

    grown : new ≡ (before ++ if-so (known q)) ++ if-so (not (known x) && (x == q))
    grown = step ∙ ap (λ l. l ++ if-so (is_new && (x == q))) so_far ∙ ap (λ b. (before ++ if-so (known q)) ++ if-so (b && (x == q))) e

    by : (here seen : Bool) → (x == q) ≡ here → known x ≡ seen → new ≡ before ++ if-so (known q || (x == q))
    by true true h g =
        let same : known q ≡ true = ap known (sym (eqb-true x q h)) ∙ g in
        grown ∙ rw (h, g, same) (append-nil (before ++ number ∷ []))
    by true false h g =
        let same : known q ≡ false = ap known (sym (eqb-true x q h)) ∙ g in
        grown ∙ rw (h, g, same) (ap (λ l. l ++ number ∷ []) (append-nil before))
    by false true h g = grown ∙ rw (h, g) (append-nil (before ++ if-so (known q)) ∙ ap (λ b. before ++ if-so b) (or-false (known q)))
    by false false h g = grown ∙ rw (h, g) (append-nil (before ++ if-so (known q)) ∙ ap (λ b. before ++ if-so b) (or-false (known q)))

numbers-push : (item n : ℕ) (rs : List (List ℕ × List ℕ)) (r : List ℕ × List ℕ) → owner_numbers item n (rs ++ r ∷ []) ≡ owner_numbers item n rs ++ (if is_in item r then (n + length rs) ∷ [] else [])
numbers-push item n [] r =
    let same : n ≡ n + 0 = omega arith in
    append-nil (if is_in item r then n ∷ [] else []) ∙ ap (λ k. if is_in item r then k ∷ [] else []) same
numbers-push item n (x ∷ rs) r =
    let same : n + 1 + length rs ≡ n + length (x ∷ rs) = omega arith in
    ap (λ l. (if is_in item x then n ∷ [] else []) ++ l) (numbers-push item (n + 1) rs r ∙ ap (λ k. owner_numbers item (n + 1) rs ++ (if is_in item r then k ∷ [] else [])) same)
    ∙ sym (append_assoc (if is_in item x then n ∷ [] else []) (owner_numbers item (n + 1) rs) (if is_in item r then (n + length (x ∷ rs)) ∷ [] else []))

-- one redefine more
pub numbers-more : {D : Type 0} (entry : D → List ℕ × List ℕ) (item : ℕ) (rs : List D) (i : ℕ) (r : D) (number : ℕ) (now new : List ℕ) → i < length rs → r ≡ get_or rs i r → number ≡ i
    → new ≡ now ++ (if is_in item (entry r) then number ∷ [] else []) → now ≡ owner_numbers item 0 (map entry (take i rs)) → new ≡ owner_numbers item 0 (map entry (take (i + 1) rs))
numbers-more {D} entry item rs i r number now new h is e step so_far =
    let long : number ≡ 0 + length (map entry (take i rs)) = omega (arith, e, length-map (take i rs) entry, length-take-le i rs (omega (arith, h))) in
    let more : map entry (take (i + 1) rs) ≡ map entry (take i rs) ++ entry r ∷ [] =
    ap (map entry) (take_more rs i r h) ∙ map-append entry (take i rs) (get_or rs i r ∷ []) ∙ ap (λ (x : D). map entry (take i rs) ++ entry x ∷ []) (sym is) in
    step ∙ ap (λ l. l ++ (if is_in item (entry r) then number ∷ [] else [])) so_far
    ∙ ap (λ k. owner_numbers item 0 (map entry (take i rs)) ++ (if is_in item (entry r) then k ∷ [] else [])) long
    ∙ sym (ap (owner_numbers item 0) more ∙ numbers-push item 0 (map entry (take i rs)) (entry r))

-- ---- what stands in a redefine
-- one element more
pub flat-more : {A B : Type 0} (f : A → List B) (xs : List A) (i : ℕ) (x : A) (old new : List B) → i < length xs → x ≡ get_or xs i x → new ≡ old ++ f x → old ≡ flat_map f (take i xs) → new ≡ flat_map f (take (i + 1) xs)
flat-more {A} f xs i x old new h is put so_far =
    put ∙ ap (λ l. l ++ f x) so_far
    ∙ sym (ap (flat_map f) (take_more xs i x h ∙ ap (λ (y : A). take i xs ++ y ∷ []) (sym is)) ∙ (flat_map-append f (take i xs) (x ∷ []) ∙ ap (λ l. flat_map f (take i xs) ++ l) (append-nil (f x))))

equal-not : (a b : ℕ) → a < b → (b == a) ≡ false
equal-not a b h = by (b == a) refl
  where
    by : (r : Bool) → (b == a) ≡ r → (b == a) ≡ false
    by true e = let same = eqb-true b a e in absurd (omega (arith, h, same))
    by false e = e

one-kept : (item k n : ℕ) (r : List ℕ × List ℕ) → (n == k) ≡ false → filter (λ o. o == k) (if is_in item r then n ∷ [] else []) ≡ []
one-kept item k n r e = by (is_in item r)
  where
    by : (b : Bool) → filter (λ o. o == k) (if b then n ∷ [] else []) ≡ []
    by true = rw e refl
    by false = refl

none-below : (item k n : ℕ) (rs : List (List ℕ × List ℕ)) → k < n → filter (λ o. o == k) (owner_numbers item n rs) ≡ []
none-below item k n [] h = refl
none-below item k n (r ∷ rs) h =
    filter-append (λ o. o == k) (if is_in item r then n ∷ [] else []) (owner_numbers item (n + 1) rs)
    ∙ ap (λ l. l ++ filter (λ o. o == k) (owner_numbers item (n + 1) rs)) (one-kept item k n r (equal-not k n h))
    ∙ none-below item k (n + 1) rs (omega (arith, h))

-- the number of a redefine is once among those of what stands in it
once : (item n : ℕ) (rs : List (List ℕ × List ℕ)) (k : ℕ) (r : List ℕ × List ℕ) → slice_get rs k ≡ Some r → filter (λ o. o == n + k) (owner_numbers item n rs) ≡ (if is_in item r then (n + k) ∷ [] else [])
once item n [] k r e = absurd (none-some r e)
once item n (x ∷ rs) zero r e =
    let same : n ≡ n + 0 = omega arith in
    filter-append (λ o. o == n + 0) (if is_in item x then n ∷ [] else []) (owner_numbers item (n + 1) rs)
    ∙ ap (λ l. filter (λ o. o == n + 0) (if is_in item x then n ∷ [] else []) ++ l) (none-below item (n + 0) (n + 1) rs (omega arith))
    ∙ append-nil (filter (λ o. o == n + 0) (if is_in item x then n ∷ [] else []))
    ∙ by (is_in item x) (eq-eqb n (n + 0) same) same
    ∙ ap (λ y. if is_in item y then (n + 0) ∷ [] else []) (same_Some x r e)
  where
    by : (b : Bool) → (n == n + 0) ≡ true → n ≡ n + 0 → filter (λ o. o == n + 0) (if b then n ∷ [] else []) ≡ (if b then (n + 0) ∷ [] else [])
    by true t s = rw t (ap (λ m. m ∷ []) s)
    by false t s = refl
once item n (x ∷ rs) (suc k) r e =
    let same : n + 1 + k ≡ n + suc k = omega arith in
    filter-append (λ o. o == n + suc k) (if is_in item x then n ∷ [] else []) (owner_numbers item (n + 1) rs)
    ∙ ap (λ l. l ++ filter (λ o. o == n + suc k) (owner_numbers item (n + 1) rs)) (one-kept item (n + suc k) n x (before n (n + suc k) (omega arith)))
    ∙ ap (λ m. filter (λ o. o == m) (owner_numbers item (n + 1) rs)) (sym same)
    ∙ once item (n + 1) rs k r e
    ∙ ap (λ m. if is_in item r then m ∷ [] else []) same
  where
    before : (a b : ℕ) → a < b → (a == b) ≡ false
    before a b h = by (a == b) refl
      where
        by : (r : Bool) → (a == b) ≡ r → (a == b) ≡ false
        by true t = let s = eqb-true a b t in absurd (omega (arith, h, s))
        by false f = f

module _ (rs : List (List ℕ × List ℕ)) (k : ℕ) (r : List ℕ × List ℕ) (at : slice_get rs k ≡ Some r) where
  repeated-is : (s : Shape) → repeated k (owner_numbers s.item 0 rs) s ≡ filter (λ (t : Shape). is_in t.item r) (s ∷ [])
  repeated-is s =
      let same : 0 + k ≡ k = omega arith in
      ap (map (λ owner. s)) (ap (λ m. filter (λ o. o == m) (owner_numbers s.item 0 rs)) (sym same) ∙ once s.item 0 rs k r at) ∙ by (is_in s.item r) refl
    where
      by : (b : Bool) → is_in s.item r ≡ b → map (λ owner. s) (if is_in s.item r then (0 + k) ∷ [] else []) ≡ filter (λ (t : Shape). is_in t.item r) (s ∷ [])
      by true e = rw e refl
      by false e = rw e refl

  pub inside-is : (shapes : List Shape) → flat_map (λ s. repeated k (owner_numbers s.item 0 rs) s) shapes ≡ filter (λ (s : Shape). is_in s.item r) shapes
  inside-is [] = refl
  inside-is (s ∷ shapes) =
      ap (λ l. l ++ flat_map (λ s. repeated k (owner_numbers s.item 0 rs) s) shapes) (repeated-is s)
      ∙ ap (λ l. filter (λ (t : Shape). is_in t.item r) (s ∷ []) ++ l) (inside-is shapes)
      ∙ sym (filter-append (λ (t : Shape). is_in t.item r) (s ∷ []) shapes)

module _ (shapes : List Shape) where
  abbrev children_in : List ℕ × List ℕ → List Child
  children_in r = map (child_in r.0) (filter (λ (s : Shape). is_in s.item r) shapes)

  all-is : (f : ℕ → List Shape) (n : ℕ) (rs : List (List ℕ × List ℕ)) → ((k : ℕ) (r : List ℕ × List ℕ) → slice_get rs k ≡ Some r → f (n + k) ≡ filter (λ (s : Shape). is_in s.item r) shapes) → all_inside f n rs ≡ flat_map children_in rs
  all-is f n [] h = refl
  all-is f n (r ∷ rs) h =
      let first : f n ≡ filter (λ (s : Shape). is_in s.item r) shapes = let same : n ≡ n + 0 = omega arith in ap f same ∙ h 0 r refl in
      let rest : (k : ℕ) (x : List ℕ × List ℕ) → slice_get rs k ≡ Some x → f (n + 1 + k) ≡ filter (λ (s : Shape). is_in s.item x) shapes =
      λ k x e. let same : n + 1 + k ≡ n + suc k = omega arith in ap f same ∙ h (suc k) x e in
      ap (λ l. map (child_in r.0) l ++ all_inside f (n + 1) rs) first ∙ ap (λ l. children_in r ++ l) (all-is f (n + 1) rs rest)

  at-each : (xs : List Shape) → flat_map children_in (filter_map redefine_at xs) ≡ flat_map (λ s. children_at shapes s (redefined s.form)) xs
  at-each [] = refl
  at-each (x ∷ xs) = by (redefined x.form) refl (at-each xs)
    where
      by : (o : Option (List ℕ)) → redefined x.form ≡ o → flat_map children_in (filter_map redefine_at xs) ≡ flat_map (λ s. children_at shapes s (redefined s.form)) xs
          → flat_map children_in (filter_map redefine_at (x ∷ xs)) ≡ flat_map (λ s. children_at shapes s (redefined s.form)) (x ∷ xs)
      by None e rest = rw e rest
      by (Some location) e rest = rw e (ap (λ l. children_at shapes x (Some location) ++ l) rest)

  -- what stands in the redefines of a document, as it is found
  pub redefining-is : (f : ℕ → List Shape) (rs : List (List ℕ × List ℕ)) (owners : ℕ → List ℕ) → rs ≡ redefines shapes → ((item : ℕ) → owners item ≡ owner_numbers item 0 rs)
      → ((k : ℕ) → f k ≡ flat_map (λ s. repeated k (owners s.item) s) shapes) → all_inside f 0 rs ≡ redefining shapes
  redefining-is f rs owners is own h =
      all-is f 0 rs (λ k r e. let same : 0 + k ≡ k = omega arith in ap f same ∙ h k ∙ flat-same k shapes ∙ inside-is rs k r e shapes) ∙ ap (flat_map children_in) is ∙ at-each shapes
    where
      flat-same : (k : ℕ) (xs : List Shape) → flat_map (λ s. repeated k (owners s.item) s) xs ≡ flat_map (λ s. repeated k (owner_numbers s.item 0 rs) s) xs
      flat-same k [] = refl
      flat-same k (x ∷ xs) = ap (λ l. repeated k l x ++ flat_map (λ s. repeated k (owners s.item) s) xs) (own x.item) ∙ ap (λ l. repeated k (owner_numbers x.item 0 rs) x ++ l) (flat-same k xs)
