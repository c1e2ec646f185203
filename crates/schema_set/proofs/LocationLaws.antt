-- The numbers of documents by their locations.
use Rattle.std.proofs.Common.{◌≡◌, ℕ, ◌+◌, ◌<◌, ◌≤◌, List, [], ◌∷◌, ◌++◌, length, take, get_or, Bool, true, false, ◌||◌, if◌then◌else◌, Option, None, Some, refl, sym, ap, ◌∙◌, arith, bytes_eq}
use Rattle.std.specs.Option.{option_or, IfSome}
use Rattle.std.specs.List.{list_any}
use Rattle.std.specs.Map.{update}
use Rattle.std.proofs.lemmas.Option.{none-some, same_Some}
use Rattle.std.proofs.lemmas.List.{length-take-le, take_more}
use Rattle.std.proofs.lemmas.List.Folds.{list_any_more}
use Rattle.std.proofs.lemmas.Slice.Eq.{bytes_eq-Decides}
use Rattle.xs_names.specs.WhiteSpace.{collapsed}
use Rattle.schema_set.specs.EffectiveSet.{document_from, document_at}
use Rattle.schema_set.specs.declared.documents.Available.{Available}
use Rattle.schema_set.specs.Order.{IsNumber}

abbrev has : List ℕ → Available → Bool
has location a = list_any (λ other. bytes_eq (collapsed other) (collapsed location)) a.locations

abbrev some_if : Bool → ℕ → Option ℕ
some_if b n = if b then Some n else None

-- one document more
document_from-push : (number : ℕ) (location : List ℕ) (xs : List Available) (a : Available)
    → document_from number location (xs ++ a ∷ []) ≡ option_or (document_from number location xs) (some_if (has location a) (number + length xs))
document_from-push number location [] a = let e : number ≡ number + 0 = omega arith in ap (some_if (has location a)) e
document_from-push number location (x ∷ xs) a = by (has location x) refl (document_from-push (number + 1) location xs a)
  where
    by : (r : Bool) → has location x ≡ r → document_from (number + 1) location (xs ++ a ∷ []) ≡ option_or (document_from (number + 1) location xs) (some_if (has location a) (number + 1 + length xs))
        → document_from number location (x ∷ (xs ++ a ∷ [])) ≡ option_or (document_from number location (x ∷ xs)) (some_if (has location a) (number + length (x ∷ xs)))
    by true e rest = rw e refl
    by false e rest =
        let same : number + 1 + length xs ≡ number + length (x ∷ xs) = omega arith in
        rw e (rest ∙ ap (λ n. option_or (document_from (number + 1) location xs) (some_if (has location a) n)) same)

pub document_at-push : (location : List ℕ) (xs : List Available) (a : Available) (n : ℕ) → n ≡ length xs + 1
    → document_at (xs ++ a ∷ []) location ≡ option_or (document_at xs location) (if list_any (λ other. bytes_eq (collapsed other) (collapsed location)) a.locations then Some n else None)
document_at-push location xs a n e =
    let same : 1 + length xs ≡ n = omega (arith, e) in
    document_from-push 1 location xs a ∙ ap (λ k. option_or (document_at xs location) (some_if (has location a) k)) same

document_from-within : (number : ℕ) (location : List ℕ) (xs : List Available) (k : ℕ) → document_from number location xs ≡ Some k → (number ≤ k) × (k < number + length xs)
document_from-within number location [] k e = absurd (none-some k e)
document_from-within number location (x ∷ xs) k e = by (has location x) refl (document_from-within (number + 1) location xs k)
  where
    by : (r : Bool) → has location x ≡ r → (document_from (number + 1) location xs ≡ Some k → (number + 1 ≤ k) × (k < number + 1 + length xs)) → (number ≤ k) × (k < number + length (x ∷ xs))
    by true t rest = let here : Some number ≡ Some k = rw t at e in let same = same_Some number k here in (omega (arith, same), omega (arith, same))
    by false t rest = let w = rest (rw t at e) in (omega (arith, w.0), omega (arith, w.1))

pub document_at-within : (available : List Available) (location : List ℕ) (number : ℕ) → document_at available location ≡ Some number → IsNumber available number
document_at-within available location number e = let w = document_from-within 1 location available number e in (omega (arith, w.0), omega (arith, w.1))

or-none : (o : Option ℕ) → option_or o None ≡ o
or-none None = refl
or-none (Some n) = refl

some-stays : (o p : Option ℕ) (k : ℕ) → Some k ≡ o → option_or o p ≡ o
some-stays None p k e = absurd (none-some k (sym e))
some-stays (Some n) p k e = refl

-- a text that has no number as yet
pub noted-first : (old : List ℕ → Option ℕ) (key : List ℕ) (number : ℕ) → None ≡ old key → (q : List ℕ) → update bytes_eq old key (Some number) q ≡ option_or (old q) (if bytes_eq key q then Some number else None)
noted-first old key number none q = by (bytes_eq key q) refl
  where
    by : (r : Bool) → bytes_eq key q ≡ r → update bytes_eq old key (Some number) q ≡ option_or (old q) (if bytes_eq key q then Some number else None)
    by true e =
        let same : key ≡ q = (bytes_eq-Decides key q).0 e in
        let empty : old q ≡ None = ap old (sym same) ∙ sym none in
        rw (e, empty) refl
    by false e = rw e (sym (or-none (old q)))

-- one that has a number
pub noted-again : (old : List ℕ → Option ℕ) (key : List ℕ) (number k : ℕ) → Some k ≡ old key → (q : List ℕ) → old q ≡ option_or (old q) (if bytes_eq key q then Some number else None)
noted-again old key number k some q = by (bytes_eq key q) refl
  where
    by : (r : Bool) → bytes_eq key q ≡ r → old q ≡ option_or (old q) (if bytes_eq key q then Some number else None)
    by true e =
        let same : key ≡ q = (bytes_eq-Decides key q).0 e in
        sym (some-stays (old q) (if bytes_eq key q then Some number else None) k (some ∙ ap old same))
    by false e = rw e (sym (or-none (old q)))

either : (o : Option ℕ) (b c : Bool) (n : ℕ) → option_or (option_or o (some_if b n)) (some_if c n) ≡ option_or o (some_if (b || c) n)
either None true true n = refl
either None true false n = refl
either None false true n = refl
either None false false n = refl
either (Some k) b c n = refl

-- the locations of a document, one by one
pub locations-more : (test : List ℕ → Bool) (xs : List (List ℕ)) (i : ℕ) (x : List ℕ) (number : ℕ) (old now new : Option ℕ) → i < length xs → x ≡ get_or xs i x
    → new ≡ option_or now (some_if (test x) number) → now ≡ option_or old (some_if (list_any test (take i xs)) number) → new ≡ option_or old (some_if (list_any test (take (i + 1) xs)) number)
locations-more test xs i x number old now new h is step so_far =
    let more : list_any test (take (i + 1) xs) ≡ (list_any test (take i xs) || test x) = list_any_more test xs i x h ∙ ap (λ y. list_any test (take i xs) || test y) (sym is) in
    step ∙ ap (λ o. option_or o (some_if (test x) number)) so_far ∙ either old (list_any test (take i xs)) (test x) number ∙ ap (λ b. option_or old (some_if b number)) (sym more)

pub locations-none : (test : List ℕ → Bool) (xs : List (List ℕ)) (number : ℕ) (old : Option ℕ) → old ≡ option_or old (some_if (list_any test (take 0 xs)) number)
locations-none test xs number old = sym (or-none old)

-- the documents, one by one
pub documents-more : (location : List ℕ) (xs : List Available) (i : ℕ) (x : Available) (number : ℕ) (now new : Option ℕ) → i < length xs → x ≡ get_or xs i x → number ≡ i + 1
    → new ≡ option_or now (some_if (has location x) number) → now ≡ document_at (take i xs) location → new ≡ document_at (take (i + 1) xs) location
documents-more location xs i x number now new h is e step so_far =
    let long : length (take i xs) ≡ i = length-take-le i xs (omega (arith, h)) in
    let more : take (i + 1) xs ≡ take i xs ++ x ∷ [] = take_more xs i x h ∙ ap (λ y. take i xs ++ y ∷ []) (sym is) in
    step ∙ ap (λ o. option_or o (some_if (has location x) number)) so_far ∙ sym (document_at-push location (take i xs) x number (omega (arith, long, e))) ∙ ap (λ ys. document_at ys location) (sym more)

-- what is found is the number of a document
pub found-number : (available : List Available) (location : List ℕ) (o : Option ℕ) → o ≡ document_at available location → IfSome o (IsNumber available)
found-number available location None e = tt
found-number available location (Some number) e = document_at-within available location number (sym e)
