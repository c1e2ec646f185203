-- Documents each once: what is found is the same.
use Rattle.std.proofs.Common.{◌≡◌, ℕ, suc, ◌+◌, ◌-◌, ◌<◌, ◌≤◌, ◌==◌, inl, inr, not, List, [], ◌∷◌, ◌++◌, length, length-append, take, drop, get_or, set, Bool, true, false, if◌then◌else◌, Option, refl, sym, ap, ◌∙◌, subst, arith}
use Rattle.std.specs.Prelude.{All, Contains, reverse}
use Rattle.std.specs.List.{list_any}
use Rattle.std.proofs.lemmas.List.{append_assoc, take_more, drop_more, length-reverse}
use Rattle.std.proofs.lemmas.List.Elements.{All-cons, All-head, All-tail, Contains-push, Contains-push_cases, Contains-append_left}
use Rattle.schema_set.specs.declared.documents.Available.{Available}
use Rattle.schema_set.specs.Order.{IsNumber}
use Rattle.redefine_originals.specs.declared.versions.Redefinable.{Redefinable}
use Rattle.redefine_originals.specs.Versions.{Version, inclusions, Finds, again, here, further}
use Rattle.redefine_originals.specs.inside.Marks.{marked, work}
use Rattle.redefine_originals.specs.inside.Orders.{firsts}
use Rattle.redefine_originals.proofs.FindsLaws.{weight-less}
use Rattle.redefine_originals.proofs.InsideLaws.{contains-first, contains-rest, any-from}

-- one document more
pub firsts-more : (documents : List ℕ) (i d : ℕ) (is_new : Bool) (old new all : List ℕ) → i < length documents → d ≡ get_or documents i d → is_new ≡ not (list_any (λ other. other == d) (take i documents))
    → new ≡ old ++ (if is_new then d ∷ [] else []) → old ++ firsts (take i documents) (drop i documents) ≡ all → new ++ firsts (take (i + 1) documents) (drop (i + 1) documents) ≡ all
firsts-more documents i d is_new old new all h is e put so_far =
    let before : take (i + 1) documents ≡ take i documents ++ d ∷ [] = take_more documents i d h ∙ ap (λ x. take i documents ++ x ∷ []) (sym is) in
    let rest : drop i documents ≡ d ∷ drop (i + 1) documents = drop_more documents i d h ∙ ap (λ x. x ∷ drop (i + 1) documents) (sym is) in
    let after = firsts (take i documents ++ d ∷ []) (drop (i + 1) documents) in
    ap (λ l. l ++ firsts (take (i + 1) documents) (drop (i + 1) documents)) put
    ∙ ap (λ l. (old ++ (if is_new then d ∷ [] else [])) ++ firsts l (drop (i + 1) documents)) before
    ∙ append_assoc old (if is_new then d ∷ [] else []) after
    ∙ ap (λ b. old ++ ((if b then d ∷ [] else []) ++ after)) e
    ∙ ap (λ l. old ++ (l ++ after)) (turned (list_any (λ other. other == d) (take i documents)))
    ∙ sym (ap (λ l. old ++ firsts (take i documents) l) rest) ∙ so_far
  where
    turned : (b : Bool) → (if not b then d ∷ [] else []) ≡ (if b then [] else d ∷ [])
    turned true = refl
    turned false = refl

pub firsts-all : (P : ℕ → Type 0) (before xs : List ℕ) → All P xs → All P (firsts before xs)
firsts-all P before [] all = all
firsts-all P before (x ∷ xs) all = by (list_any (λ other. other == x) before) refl (firsts-all P (before ++ x ∷ []) xs (All-tail P x xs all))
  where
    by : (b : Bool) → list_any (λ other. other == x) before ≡ b → All P (firsts (before ++ x ∷ []) xs) → All P (firsts before (x ∷ xs))
    by true e rest = rw e rest
    by false e rest = rw e (All-cons P x (firsts (before ++ x ∷ []) xs) (All-head P x xs all) rest)

firsts-length : (before xs : List ℕ) → length (firsts before xs) ≤ length xs
firsts-length before [] = omega arith
firsts-length before (x ∷ xs) = by (list_any (λ other. other == x) before) refl (firsts-length (before ++ x ∷ []) xs)
  where
    by : (b : Bool) → list_any (λ other. other == x) before ≡ b → length (firsts (before ++ x ∷ []) xs) ≤ length xs → length (firsts before (x ∷ xs)) ≤ suc (length xs)
    by true e rest = rw e (omega (arith, rest))
    by false e rest = rw e (omega (arith, rest))

-- the second list is the first without some documents that stand before
data Thin : List ℕ → List ℕ → List ℕ → Type 0 where
  same : (known xs : List ℕ) → Thin known xs xs
  keep : (known xs ys : List ℕ) (x : ℕ) → Thin (known ++ x ∷ []) xs ys → Thin known (x ∷ xs) (x ∷ ys)
  leave : (known xs ys : List ℕ) (x : ℕ) → Contains known x → Thin known xs ys → Thin known (x ∷ xs) ys

with-last : (known more : List ℕ) (x : ℕ) → ((y : ℕ) → Contains known y → Contains more y) → (y : ℕ) → Contains (known ++ x ∷ []) y → Contains (more ++ x ∷ []) y
with-last known more x sub y c = elim (Contains-push_cases known x y c) [ inl old ↦ Contains-append_left more (x ∷ []) y (sub y old) | inr is ↦ subst (Contains (more ++ x ∷ [])) is (Contains-push more x) ]

thin-more : (known more xs ys : List ℕ) → ((y : ℕ) → Contains known y → Contains more y) → Thin known xs ys → Thin more xs ys
thin-more _ more _ _ sub (same known xs) = same more xs
thin-more _ more _ _ sub (keep known xs ys x t) = keep more xs ys x (thin-more (known ++ x ∷ []) (more ++ x ∷ []) xs ys (with-last known more x sub) t)
thin-more _ more _ _ sub (leave known xs ys x c t) = leave more xs ys x (sub x c) (thin-more known more xs ys sub t)

thin-behind : (zs known xs ys : List ℕ) → Thin known xs ys → Thin known (zs ++ xs) (zs ++ ys)
thin-behind [] known xs ys t = t
thin-behind (z ∷ zs) known xs ys t =
    keep known (zs ++ xs) (zs ++ ys) z (thin-behind zs (known ++ z ∷ []) xs ys (thin-more known (known ++ z ∷ []) xs ys (λ y c. Contains-append_left known (z ∷ []) y c) t))

firsts-thin : (before xs rest : List ℕ) → Thin before (xs ++ rest) (firsts before xs ++ rest)
firsts-thin before [] rest = same before rest
firsts-thin before (x ∷ xs) rest = by (list_any (λ other. other == x) before) refl (firsts-thin (before ++ x ∷ []) xs rest)
  where
    by : (b : Bool) → list_any (λ other. other == x) before ≡ b → Thin (before ++ x ∷ []) (xs ++ rest) (firsts (before ++ x ∷ []) xs ++ rest) → Thin before (x ∷ (xs ++ rest)) (firsts before (x ∷ xs) ++ rest)
    by false e t = rw e (keep before (xs ++ rest) (firsts (before ++ x ∷ []) xs ++ rest) x t)
    by true e t =
        let c = any-from x before e in
        rw e (leave before (xs ++ rest) (firsts (before ++ x ∷ []) xs ++ rest) x c
        (thin-more (before ++ x ∷ []) before (xs ++ rest) (firsts (before ++ x ∷ []) xs ++ rest)
        (λ y d. elim (Contains-push_cases before x y d) [ inl old ↦ old | inr is ↦ subst (Contains before) is c ]) t))

module _ (available : List Available) where
  pub work-thin : (d : ℕ) (marks : List Bool) (left new : List ℕ) → IsNumber available d → length marks ≡ length available → marked marks d ≡ false → reverse new ≡ firsts [] (inclusions available d) ++ reverse left
      → work available (set marks (d - 1) true) new < work available marks (left ++ d ∷ [])
  work-thin d marks left new is len free e =
      let there : d - 1 < length marks = omega (arith, len, is.0, is.1) in
      let weighs = weight-less available 1 (d - 1) marks there free in
      let one : 1 + (d - 1) ≡ d = omega (arith, is.0) in
      let count : length (inclusions available (1 + (d - 1))) ≡ length (inclusions available d) = ap (λ i. length (inclusions available i)) one in
      let few = firsts-length [] (inclusions available d) in
      let lengths : length (reverse new) ≡ length (firsts [] (inclusions available d) ++ reverse left) = ap length e in
      let a = length-reverse new in let b = length-reverse left in let c = length-append (firsts [] (inclusions available d)) (reverse left) in
      let more = length-append left (d ∷ []) in
      omega (arith, weighs, count, few, lengths, a, b, c, more)

  module _ (of : Redefinable) (name : List ℕ) where
    thin-finds : (ys seen : List ℕ) (found : Option Version) → Finds available of name ys seen found → (known xs : List ℕ) → Thin known xs ys → ((y : ℕ) → Contains known y → Contains seen y) → Finds available of name xs seen found
    thin-finds ys seen found f _ _ (same known xs) sub = f
    thin-finds ys seen found f _ _ (leave known xs _ x c t) sub = again x xs seen found (sub x c) (thin-finds ys seen found f known xs t sub)
    thin-finds _ seen found (again _ ys _ _ c f) _ _ (keep known xs _ x t) sub =
        again x xs seen found c (thin-finds ys seen found f (known ++ x ∷ []) xs t (λ y e. elim (Contains-push_cases known x y e) [ inl old ↦ sub y old | inr is ↦ subst (Contains seen) is c ]))
    thin-finds _ seen _ (here _ ys _ v out e) _ _ (keep known xs _ x t) sub = here x xs seen v out e
    thin-finds _ seen found (further _ ys _ _ out none f) _ _ (keep known xs _ x t) sub =
        further x xs seen found out none
        (thin-finds (inclusions available x ++ ys) (x ∷ seen) found f (known ++ x ∷ []) (inclusions available x ++ xs) (thin-behind (inclusions available x) (known ++ x ∷ []) xs ys t)
        (λ y e. elim (Contains-push_cases known x y e) [ inl old ↦ contains-rest x y seen (sub y old) | inr is ↦ subst (Contains (x ∷ seen)) is (contains-first x seen) ]))

    -- a document that stands among others more than once is looked at once
    pub firsts-find : (documents rest seen : List ℕ) (found : Option Version) → Finds available of name (firsts [] documents ++ rest) seen found → Finds available of name (documents ++ rest) seen found
    firsts-find documents rest seen found f =
        thin-finds (firsts [] documents ++ rest) seen found f [] (documents ++ rest) (firsts-thin [] documents rest) (λ y c. absurd (omega (arith, c.1)))
