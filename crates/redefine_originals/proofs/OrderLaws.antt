-- The order in which documents are looked through, one by one.
use Rattle.std.proofs.Common.{◌≡◌, ℕ, zero, suc, ◌+◌, ◌-◌, ◌<◌, List, [], ◌∷◌, ◌++◌, length, length-set, set, get_or, Bool, true, false, true≢false, Option, None, Some, refl, sym, ap, ◌∙◌, subst, arith}
use Rattle.std.specs.Prelude.{All, Contains, reverse, slice_get}
use Rattle.std.specs.Option.{option_or}
use Rattle.std.proofs.lemmas.Option.{none-some, same_Some, slice_get-get_or, get_or_from_slice_get, slice_get_read}
use Rattle.std.proofs.lemmas.List.Elements.{All-cons, All-nil, All-head, All-tail, All-append}
use Rattle.schema_set.specs.declared.documents.Available.{Available}
use Rattle.schema_set.specs.Order.{IsNumber}
use Rattle.redefine_originals.specs.declared.versions.Redefinable.{Redefinable}
use Rattle.redefine_originals.specs.Versions.{Version, shapes_of, shapes_at, version_at, inclusions, Finds, nowhere, again, here, further}
use Rattle.redefine_originals.specs.inside.Marks.{marked}
use Rattle.redefine_originals.specs.inside.Orders.{IsByNumber, firsts, first_of, IsOrder, IsOrdering}
use Rattle.redefine_originals.proofs.FindsLaws.{one-more, marked-more}
use Rattle.redefine_originals.proofs.FirstsLaws.{firsts-all, firsts-find}
use Rattle.redefine_originals.proofs.NamedLaws.{or-none, or-assoc}

-- ---- what there is for each document
module _ {X : Type 0} (Holds : ℕ → X → Type 0) where
  put-last : (xs : List X) (x : X) (base : ℕ) → ((place : ℕ) (y : X) → slice_get xs place ≡ Some y → Holds (place + base) y) → Holds (length xs + base) x
      → (place : ℕ) (y : X) → slice_get (xs ++ x ∷ []) place ≡ Some y → Holds (place + base) y
  put-last [] x base each new zero y is = subst (Holds (0 + base)) (same_Some x y is) new
  put-last [] x base each new (suc place) y is = absurd (none-some y is)
  put-last (z ∷ xs) x base each new zero y is = each zero y is
  put-last (z ∷ xs) x base each new (suc place) y is =
      let same : (k : ℕ) → k + (base + 1) ≡ suc k + base = λ k. omega arith in
      subst (λ n. Holds n y) (same place)
      (put-last xs x (base + 1) (λ k w e. subst (λ n. Holds n w) (sym (same k)) (each (suc k) w e)) (subst (λ n. Holds n x) (sym (same (length xs))) new) place y is)

  -- one document more
  pub numbered-more : (xs new : List X) (x : X) (number : ℕ) → ((place : ℕ) (y : X) → slice_get xs place ≡ Some y → Holds (place + 1) y) → number ≡ length xs + 1 → Holds number x → new ≡ xs ++ x ∷ []
      → (place : ℕ) (y : X) → slice_get new place ≡ Some y → Holds (place + 1) y
  numbered-more xs new x number each is h put =
      subst (λ (l : List X). (place : ℕ) (y : X) → slice_get l place ≡ Some y → Holds (place + 1) y) (sym put) (put-last xs x 1 each (subst (λ n. Holds n x) is h))

  -- what there is for a document, as it is read
  pub read-number : (available : List Available) (xs : List X) (x : X) (number place : ℕ) → IsByNumber Holds available xs → IsNumber available number → place ≡ number - 1 → x ≡ get_or xs place x → Holds number x
  read-number available xs x number place all is e read =
      let len = all.len in
      let there : place < length xs = omega (arith, is.0, is.1, len, e) in
      let same : place + 1 ≡ number = omega (arith, is.0, e) in
      subst (λ n. Holds n x) same (all.each place x (slice_get-get_or xs place x there ∙ ap (λ y. Some y) (sym read)))

-- what the elements of a document of this number declare
pub shapes-read : (available : List Available) (a : Available) (i number : ℕ) → i < length available → a ≡ get_or available i a → number ≡ i + 1 → shapes_at available number ≡ a.shaped.shapes
shapes-read available a i number h is e =
    let same : number - 1 ≡ i = omega (arith, e) in
    ap (λ k. shapes_of (slice_get available k)) same ∙ ap shapes_of (slice_get_read available (length available) i a refl h is)

-- ---- one document after the other
module _ (available : List Available) where
  first-push : (of : Redefinable) (name : List ℕ) (order : List ℕ) (d : ℕ) → first_of available of name (order ++ d ∷ []) ≡ option_or (first_of available of name order) (version_at available of name d)
  first-push of name [] d = or-none (version_at available of name d)
  first-push of name (x ∷ order) d =
      ap (option_or (version_at available of name x)) (first-push of name order d) ∙ sym (or-assoc (version_at available of name x) (first_of available of name order) (version_at available of name d))

  module _ (start : ℕ) where
    pub ordering-begun : (marks : List Bool) (left order : List ℕ) → ((d : ℕ) → marked marks d ≡ false) → length marks ≡ length available → IsNumber available start → left ≡ [] ++ start ∷ [] → order ≡ [] → IsOrdering available start marks left order
    ordering-begun marks left order none len is e empty = record {
      seen = [];
      len = len;
      numbers = subst (λ l. All (IsNumber available) (reverse l)) (sym e) (All-cons (IsNumber available) start [] is (All-nil (IsNumber available)));
      ordered = subst (All (IsNumber available)) (sym empty) (All-nil (IsNumber available));
      are = λ d number. (λ m. absurd (true≢false (sym m ∙ none d)), λ c. absurd (omega (arith, c.1)));
      leads = λ of name found f.
          subst (λ o. Finds available of name (start ∷ []) [] (option_or (first_of available of name o) found)) (sym empty) (subst (λ l. Finds available of name (reverse l) [] found) e f);
    }

    module _ (d : ℕ) (marks : List Bool) (left order : List ℕ) (l : IsOrdering available start marks (left ++ d ∷ []) order) where
      pub next-number : IsNumber available d
      next-number = All-head (IsNumber available) d (reverse left) (subst (All (IsNumber available)) (one-more d left) l.numbers)

      -- the mark of the next, as it is read
      pub mark-read : (v b : Bool) → v ≡ get_or marks (d - 1) v → v ≡ b → marked marks d ≡ b
      mark-read v b e is =
          let n = next-number in let len = l.len in
          let there : d - 1 < length marks = omega (arith, n.0, n.1, len) in
          get_or_from_slice_get marks (d - 1) (get_or marks (d - 1) v) false (slice_get-get_or marks (d - 1) v there) ∙ sym e ∙ is

      left-numbers : All (IsNumber available) (reverse left)
      left-numbers = All-tail (IsNumber available) d (reverse left) (subst (All (IsNumber available)) (one-more d left) l.numbers)

      onward : (of : Redefinable) (name : List ℕ) (found : Option Version) → Finds available of name (d ∷ reverse left) l.seen found → Finds available of name (start ∷ []) [] (option_or (first_of available of name order) found)
      onward of name found f = l.leads of name found (subst (λ ds. Finds available of name ds l.seen found) (sym (one-more d left)) f)

      new-one : marked marks d ≡ false → Contains l.seen d → ⊥
      new-one free c = true≢false (sym ((l.are d next-number).1 c) ∙ free)

      pub ordering-again : marked marks d ≡ true → IsOrdering available start marks left order
      ordering-again m = record {
        seen = l.seen;
        len = l.len;
        numbers = left-numbers;
        ordered = l.ordered;
        are = l.are;
        leads = λ of name found f. onward of name found (again d (reverse left) l.seen found ((l.are d next-number).0 m) f);
      }

      -- what is found from here on, with the document's own version first
      found-on : marked marks d ≡ false → (of : Redefinable) (name : List ℕ) (found : Option Version) (own : Option Version) → version_at available of name d ≡ own
          → Finds available of name (inclusions available d ++ reverse left) (d ∷ l.seen) found → Finds available of name (d ∷ reverse left) l.seen (option_or own found)
      found-on free of name found None e f = further d (reverse left) l.seen found (new-one free) e f
      found-on free of name found (Some v) e f = here d (reverse left) l.seen v (new-one free) e

      pub ordering-further : (new longer : List ℕ) → marked marks d ≡ false → All (IsNumber available) (inclusions available d) → reverse new ≡ firsts [] (inclusions available d) ++ reverse left → longer ≡ order ++ d ∷ []
          → IsOrdering available start (set marks (d - 1) true) new longer
      ordering-further new longer free numbers e put = record {
        seen = d ∷ l.seen;
        len = length-set marks (d - 1) true ∙ l.len;
        numbers = subst (All (IsNumber available)) (sym e) (All-append (IsNumber available) (firsts [] (inclusions available d)) (reverse left) (firsts-all (IsNumber available) [] (inclusions available d) numbers) left-numbers);
        ordered = subst (All (IsNumber available)) (sym put) (All-append (IsNumber available) order (d ∷ []) l.ordered (All-cons (IsNumber available) d [] next-number (All-nil (IsNumber available))));
        are = marked-more available d marks l.seen next-number l.len l.are;
        leads = λ of name found f.
            let own = version_at available of name d in
            let so_far = first_of available of name order in
            let same : option_or so_far (option_or own found) ≡ option_or (first_of available of name longer) found =
            sym (or-assoc so_far own found) ∙ ap (λ o. option_or o found) (sym (ap (first_of available of name) put ∙ first-push of name order d)) in
            subst (Finds available of name (start ∷ []) []) same
            (onward of name (option_or own found) (found-on free of name found own refl (firsts-find available of name (inclusions available d) (reverse left) (d ∷ l.seen) found (subst (λ ds. Finds available of name ds (d ∷ l.seen) found) e f))));
      }

    pub ordering-ended : (marks : List Bool) (left order : List ℕ) → length left ≡ 0 → IsOrdering available start marks left order → IsOrder available start order
    ordering-ended marks [] order e l = record {
      numbers = l.ordered;
      finds = λ of name. subst (Finds available of name (start ∷ []) []) (or-none (first_of available of name order)) (l.leads of name None (nowhere l.seen));
    }
    ordering-ended marks (d ∷ left) order e l = absurd (omega (arith, e))
