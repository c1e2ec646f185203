-- The places of the elements of a set, one by one.
use Rattle.std.proofs.Common.{◌≡◌, ℕ, ◌+◌, ◌<◌, ◌==◌, ◌&&◌, ◌||◌, List, [], ◌∷◌, ◌++◌, length, take, get_or, Bool, true, false, if◌then◌else◌, Option, None, Some, refl, sym, ap, ◌∙◌, subst, arith}
use Rattle.std.specs.List.{list_any, position_from}
use Rattle.std.specs.Option.{option_or}
use Rattle.std.proofs.lemmas.Bool.{true≢false}
use Rattle.std.proofs.lemmas.List.{append-nil, take_more, length-take-le}
use Rattle.std.proofs.lemmas.List.Folds.{list_any-append}
use Rattle.schema_set.specs.declared.documents.SetDocument.{SetDocument}
use Rattle.schema_set.specs.Order.{same_target}
use Rattle.redefine_originals.specs.declared.places.PlacedDocument.{PlacedDocument}
use Rattle.redefine_originals.specs.Originals.{shapes_of, version_place}
use Rattle.redefine_originals.specs.inside.Places.{place_found, HasPlaces, found_in, total, is_asked, has_target, ArePlaced}

-- ---- the elements of a document
module _ {X : Type 0} (p : X → Bool) where
  position-push : (n : ℕ) (xs : List X) (x : X) → position_from p n (xs ++ x ∷ []) ≡ option_or (position_from p n xs) (if p x then Some (n + length xs) else None)
  position-push n [] x = let same : n ≡ n + 0 = omega arith in ap (λ k. if p x then Some k else None) same
  position-push n (y ∷ xs) x = by (p y) refl (position-push (n + 1) xs x)
    where
      same : n + 1 + length xs ≡ n + length (y ∷ xs)
      same = omega arith

      by : (b : Bool) → p y ≡ b → position_from p (n + 1) (xs ++ x ∷ []) ≡ option_or (position_from p (n + 1) xs) (if p x then Some (n + 1 + length xs) else None)
          → position_from p n (y ∷ (xs ++ x ∷ [])) ≡ option_or (position_from p n (y ∷ xs)) (if p x then Some (n + length (y ∷ xs)) else None)
      by true e rest = rw e refl
      by false e rest = rw e (rest ∙ ap (λ k. option_or (position_from p (n + 1) xs) (if p x then Some k else None)) same)

  -- one element more
  pub position-more : (n : ℕ) (xs : List X) (i : ℕ) (x : X) (at : ℕ) (now new : Option ℕ) → i < length xs → x ≡ get_or xs i x → at ≡ n + i
      → new ≡ option_or now (if p x then Some at else None) → now ≡ position_from p n (take i xs) → new ≡ position_from p n (take (i + 1) xs)
  position-more n xs i x at now new h is e step so_far =
      let long : n + length (take i xs) ≡ at = omega (arith, length-take-le i xs (omega (arith, h)), e) in
      step ∙ ap (λ o. option_or o (if p x then Some at else None)) so_far
      ∙ ap (λ k. option_or (position_from p n (take i xs)) (if p x then Some k else None)) (sym long)
      ∙ sym (ap (position_from p n) (take_more xs i x h ∙ ap (λ y. take i xs ++ y ∷ []) (sym is)) ∙ position-push n (take i xs) x)

-- ---- the documents of a set
or-false : (b : Bool) → (b || false) ≡ b
or-false true = refl
or-false false = refl

total-push : (ds : List SetDocument) (d : SetDocument) → total (ds ++ d ∷ []) ≡ total ds + length (shapes_of d)
total-push [] d = omega arith
total-push (e ∷ ds) d = let rest = total-push ds d in omega (arith, rest)

module _ (target : Option (List ℕ)) (document item : ℕ) where
  abbrev own : ℕ → SetDocument → Option ℕ
  own place d = position_from (λ s. s.item == item) place (shapes_of d)

  version-none : (place : ℕ) (ds : List SetDocument) → list_any (is_asked target document) ds ≡ false → version_place place ds target document item ≡ None
  version-none place [] e = refl
  version-none place (d ∷ ds) e = by (is_asked target document d) refl (version-none (place + length (shapes_of d)) ds)
    where
      by : (b : Bool) → is_asked target document d ≡ b → (list_any (is_asked target document) ds ≡ false → version_place (place + length (shapes_of d)) ds target document item ≡ None)
          → version_place place (d ∷ ds) target document item ≡ None
      by true t rest = absurd (true≢false (rw t at e))
      by false t rest = rw t (rest (rw t at e))

  version-push : (place : ℕ) (ds : List SetDocument) (d : SetDocument) → version_place place (ds ++ d ∷ []) target document item
      ≡ (if list_any (is_asked target document) ds then version_place place ds target document item else (if is_asked target document d then own (place + total ds) d else None))
  version-push place [] d = let same : place ≡ place + 0 = omega arith in ap (λ k. if is_asked target document d then own k d else None) same
  version-push place (e ∷ ds) d = by (is_asked target document e) refl (version-push (place + length (shapes_of e)) ds d)
    where
      same : place + length (shapes_of e) + total ds ≡ place + total (e ∷ ds)
      same = omega arith

      by : (b : Bool) → is_asked target document e ≡ b
          → version_place (place + length (shapes_of e)) (ds ++ d ∷ []) target document item
          ≡ (if list_any (is_asked target document) ds then version_place (place + length (shapes_of e)) ds target document item else (if is_asked target document d then own (place + length (shapes_of e) + total ds) d else None))
          → version_place place (e ∷ (ds ++ d ∷ [])) target document item
          ≡ (if list_any (is_asked target document) (e ∷ ds) then version_place place (e ∷ ds) target document item else (if is_asked target document d then own (place + total (e ∷ ds)) d else None))
      by true t rest = rw t refl
      by false t rest =
          rw t (rest ∙ ap (λ k. if list_any (is_asked target document) ds then version_place (place + length (shapes_of e)) ds target document item else (if is_asked target document d then own k d else None)) same)

  found-push : (ps : List PlacedDocument) (p : PlacedDocument) → found_in (ps ++ p ∷ []) target item
      ≡ (if list_any (has_target target) ps then found_in ps target item else (if has_target target p then place_found p.places item else None))
  found-push [] p = refl
  found-push (q ∷ ps) p = by (has_target target q) refl (found-push ps p)
    where
      by : (b : Bool) → has_target target q ≡ b
          → found_in (ps ++ p ∷ []) target item ≡ (if list_any (has_target target) ps then found_in ps target item else (if has_target target p then place_found p.places item else None))
          → found_in (q ∷ (ps ++ p ∷ [])) target item
          ≡ (if list_any (has_target target) (q ∷ ps) then found_in (q ∷ ps) target item else (if has_target target p then place_found p.places item else None))
      by true t rest = rw t refl
      by false t rest = rw t rest

  module _ (ds : List SetDocument) (d : SetDocument) (documents : ℕ → List PlacedDocument) (p : PlacedDocument) (are : ArePlaced ds documents) (target-is : p.target.now ≡ d.target) (have : HasPlaces (total ds) (shapes_of d) p.places) where
    -- the document has the number, or another
    among-push : (b : Bool) → (d.number == document) ≡ b → list_any (has_target target) (documents document ++ (if b then p ∷ [] else [])) ≡ list_any (is_asked target document) (ds ++ d ∷ [])
    among-push true e =
        list_any-append (has_target target) (documents document) (p ∷ [])
        ∙ ap (λ b. b || (has_target target p || false)) (are.among target document)
        ∙ ap (λ t. list_any (is_asked target document) ds || (same_target t target || false)) target-is
        ∙ ap (λ b. list_any (is_asked target document) ds || ((b && same_target d.target target) || false)) (sym e)
        ∙ sym (list_any-append (is_asked target document) ds (d ∷ []))
    among-push false e =
        ap (list_any (has_target target)) (append-nil (documents document)) ∙ are.among target document ∙ sym (or-false (list_any (is_asked target document) ds))
        ∙ ap (λ b. list_any (is_asked target document) ds || ((b && same_target d.target target) || false)) (sym e)
        ∙ sym (list_any-append (is_asked target document) ds (d ∷ []))

    found-more : (b : Bool) → (d.number == document) ≡ b → found_in (documents document ++ (if b then p ∷ [] else [])) target item ≡ version_place 0 (ds ++ d ∷ []) target document item
    found-more true e =
        let from : total ds ≡ 0 + total ds = omega arith in
        found-push (documents document) p
        ∙ ap (λ b. if b then found_in (documents document) target item else (if has_target target p then place_found p.places item else None)) (are.among target document)
        ∙ ap (λ o. if list_any (is_asked target document) ds then o else (if has_target target p then place_found p.places item else None)) (are.found target document item)
        ∙ ap (λ t. if list_any (is_asked target document) ds then version_place 0 ds target document item else (if same_target t target then place_found p.places item else None)) target-is
        ∙ ap (λ b. if list_any (is_asked target document) ds then version_place 0 ds target document item else (if b && same_target d.target target then place_found p.places item else None)) (sym e)
        ∙ ap (λ o. if list_any (is_asked target document) ds then version_place 0 ds target document item else (if is_asked target document d then o else None)) (have item ∙ ap (λ k. own k d) from)
        ∙ sym (version-push 0 ds d)
    found-more false e =
        ap (λ ps. found_in ps target item) (append-nil (documents document)) ∙ are.found target document item ∙ by (list_any (is_asked target document) ds) refl ∙ sym (version-push 0 ds d)
      where
        by : (b : Bool) → list_any (is_asked target document) ds ≡ b → version_place 0 ds target document item
            ≡ (if list_any (is_asked target document) ds then version_place 0 ds target document item else (if is_asked target document d then own (0 + total ds) d else None))
        by true t = rw t refl
        by false t = rw (t, e) (version-none 0 ds t)

module _ (set : List SetDocument) (i : ℕ) (d : SetDocument) (h : i < length set) (is : d ≡ get_or set i d) where
  more : take (i + 1) set ≡ take i set ++ d ∷ []
  more = take_more set i d h ∙ ap (λ x. take i set ++ x ∷ []) (sym is)

  pub total-more : (place count : ℕ) → place ≡ total (take i set) → count ≡ length (shapes_of d) → place + count ≡ total (take (i + 1) set)
  total-more place count e f =
      let all : total (take (i + 1) set) ≡ total (take i set) + length (shapes_of d) = ap total more ∙ total-push (take i set) d in
      omega (arith, all, e, f)

  -- one document more
  pub placed-more : (old new : ℕ → List PlacedDocument) (p : PlacedDocument) (place : ℕ) → place ≡ total (take i set) → ArePlaced (take i set) old → p.target.now ≡ d.target → HasPlaces place (shapes_of d) p.places
      → ((q : ℕ) → new q ≡ old q ++ (if d.number == q then p ∷ [] else [])) → ArePlaced (take (i + 1) set) new
  placed-more old new p place e are target-is have put =
      let own = subst (λ k. HasPlaces k (shapes_of d) p.places) e have in
      record {
        among = λ target document. ap (list_any (has_target target)) (put document) ∙ among-push target document 0 (take i set) d old p are target-is own (d.number == document) refl ∙ ap (list_any (is_asked target document)) (sym more);
        found = λ target document item. ap (λ ps. found_in ps target item) (put document) ∙ found-more target document item (take i set) d old p are target-is own (d.number == document) refl
            ∙ ap (λ ds. version_place 0 ds target document item) (sym more);
      }
