-- How a name test can be written as a text.
use Rattle.std.proofs.Common.{lit<, ◌≡◌, ℕ, ◌==◌, ◌||◌, ◌+◌, Bool, true, false, not, List, [], ◌∷◌, ◌++◌, Option, None, Some, length, refl, sym, ◌∙◌, ap, subst, true≢false, arith, length-append, append_assoc, rules, ◌≢◌}
use Rattle.std.specs.Prelude.{codes, bytes_eq}
use Rattle.std.specs.Option.{option_map}
use Rattle.std.specs.List.{list_any, slice_split}
use Rattle.std.specs.Str.{chars, IsUtf8}
use Rattle.std.proofs.lemmas.List.{append_cancel_right}
use Rattle.std.proofs.lemmas.Str.{chars-append, chars_past_char, encode_ascii, IsUtf8-append, IsUtf8-encode}
use Rattle.xs_names.specs.QName.{IsNoQName}
use Rattle.xs_names.specs.Scope.{resolved}
use Rattle.xpath_subset.specs.declared.path.NameTest.TheVariants as tests
use Rattle.xpath_subset.specs.Grammar.{WrittenTest, star, any_of, name, IsName, IsTest, test_meaning}
use Rattle.xpath_subset.proofs.Trims.{both}
use Rattle.xpath_subset.proofs.Pieces.{split_none, split_at, any_append, eqb_true}
use Rattle.xpath_subset.proofs.Plain.{name_without, name_some, equal_outside}

pub any_at : (p : ℕ → Bool) (xs : List ℕ) (y : ℕ) (ys : List ℕ) → p y ≡ true → list_any p (xs ++ y ∷ ys) ≡ true
any_at p [] y ys e = ap (λ b. b || list_any p ys) e
any_at p (x ∷ xs) y ys e = by (p x) (any_at p xs y ys e)
  where
    by : (b : Bool) → list_any p (xs ++ y ∷ ys) ≡ true → b || list_any p (xs ++ y ∷ ys) ≡ true
    by true h = refl
    by false h = h

pub no_colon : (bs : List ℕ) → IsName bs → list_any (λ b. b == 58) bs ≡ false
no_colon bs named = name_without (λ b. b == 58) (equal_outside 58 (lit< tt) refl) bs named

pub no_star : (bs : List ℕ) → IsName bs → list_any (λ b. b == 42) bs ≡ false
no_star bs named = name_without (λ b. b == 42) (equal_outside 42 (lit< tt) refl) bs named

-- a QName has no star
pub name_no_star : (prefix : Option (List ℕ)) (local text : List ℕ) → IsTest (name prefix local) text → list_any (λ b. b == 42) text ≡ false
name_no_star None local text reads = ap (list_any (λ b. b == 42)) reads.0 ∙ no_star local reads.1
name_no_star (Some prefix) local text reads = ap (list_any (λ b. b == 42)) reads.0 ∙ any_append (λ b. b == 42) prefix (58 ∷ local) (no_star prefix reads.1.0) (no_star local reads.1.1)

pub star_only : (scope : List (List ℕ × ℕ)) (test : WrittenTest) → IsTest test (codes "*") → test_meaning scope test ≡ Some tests.Any
star_only scope star reads = refl
star_only scope (any_of prefix) reads = absurd (let all = ap length reads.0 ∙ length-append prefix (58 ∷ 42 ∷ []) in omega (arith, all))
star_only scope (name None local) reads = absurd (true≢false (name_no_star None local (codes "*") reads))
star_only scope (name (Some prefix) local) reads = absurd (true≢false (name_no_star (Some prefix) local (codes "*") reads))

-- the parts of a QName
same_parts : (xs ys vs ws : List ℕ) → xs ++ 58 ∷ ys ≡ vs ++ 58 ∷ ws → list_any (λ b. b == 58) xs ≡ false → list_any (λ b. b == 58) ys ≡ false → list_any (λ b. b == 58) vs ≡ false → list_any (λ b. b == 58) ws ≡ false → (xs ≡ vs) × (ys ≡ ws)
same_parts xs ys vs ws e f g h i =
    let cuts : xs ∷ ys ∷ [] ≡ vs ∷ ws ∷ [] = ap (λ rest. xs ∷ rest) (sym (split_none (λ b. b == 58) ys g)) ∙ sym (split_at (λ b. b == 58) xs 58 ys f refl) ∙ ap (slice_split (λ b. b == 58)) e ∙ split_at (λ b. b == 58) vs 58 ws h refl ∙ ap (λ rest. vs ∷ rest) (split_none (λ b. b == 58) ws i) in
    (cc, cc)

-- a text that ends in `:*`
pub any_of_only : (scope : List (List ℕ × ℕ)) (prefix : List ℕ) (test : WrittenTest) → IsTest test (prefix ++ 58 ∷ 42 ∷ []) → IsName prefix × (test_meaning scope test ≡ option_map tests.Namespace (resolved scope (Some prefix)))
any_of_only scope prefix star reads = absurd (let all = sym (length-append prefix (58 ∷ 42 ∷ [])) ∙ ap length reads.0 in omega (arith, all))
any_of_only scope prefix (any_of other) reads =
    let same = append_cancel_right other prefix (58 ∷ 42 ∷ []) (sym reads.0) in
    (subst IsName same reads.1, ap (λ p. option_map tests.Namespace (resolved scope (Some p))) same)
any_of_only scope prefix (name p local) reads = absurd (true≢false (sym (any_at (λ b. b == 42) (prefix ++ 58 ∷ []) 42 [] refl) ∙ ap (list_any (λ b. b == 42)) (append_assoc prefix (58 ∷ []) (42 ∷ [])) ∙ name_no_star p local (prefix ++ 58 ∷ 42 ∷ []) reads))

-- a name alone, and a prefix and a local part
pub local_only : (scope : List (List ℕ × ℕ)) (local : List ℕ) (test : WrittenTest) → IsName local → IsTest test local → test_meaning scope test ≡ Some (tests.Name 0 local)
local_only scope local star named reads = absurd (true≢false (sym (ap (list_any (λ b. b == 42)) reads.0) ∙ no_star local named))
local_only scope local (any_of prefix) named reads = absurd (true≢false (sym (any_at (λ b. b == 58) prefix 58 (42 ∷ []) refl) ∙ sym (ap (list_any (λ b. b == 58)) reads.0) ∙ no_colon local named))
local_only scope local (name None other) named reads = ap (λ l. Some (tests.Name 0 l)) (sym reads.0)
local_only scope local (name (Some prefix) other) named reads = absurd (true≢false (sym (any_at (λ b. b == 58) prefix 58 other refl) ∙ sym (ap (list_any (λ b. b == 58)) reads.0) ∙ no_colon local named))

pub prefixed_only : (scope : List (List ℕ × ℕ)) (prefix local : List ℕ) (test : WrittenTest) → IsName prefix → IsName local → IsTest test (prefix ++ 58 ∷ local) → test_meaning scope test ≡ option_map (λ space. tests.Name space local) (resolved scope (Some prefix))
prefixed_only scope prefix local star p l reads = absurd (true≢false (sym (any_at (λ b. b == 58) prefix 58 local refl) ∙ ap (list_any (λ b. b == 58)) reads.0))
prefixed_only scope prefix local (any_of other) p l reads =
    let same = same_parts other (42 ∷ []) prefix local (sym reads.0) (no_colon other reads.1) refl (no_colon prefix p) (no_colon local l) in
    absurd (true≢false (ap (list_any (λ b. b == 42)) same.1 ∙ no_star local l))
prefixed_only scope prefix local (name None other) p l reads = absurd (true≢false (sym (any_at (λ b. b == 58) prefix 58 local refl) ∙ ap (list_any (λ b. b == 58)) reads.0 ∙ no_colon other reads.1))
prefixed_only scope prefix local (name (Some front) other) p l reads =
    let same = same_parts front other prefix local (sym reads.0) (no_colon front reads.1.0) (no_colon other reads.1.1) (no_colon prefix p) (no_colon local l) in
    ap (λ l. option_map (λ space. tests.Name space l) (resolved scope (Some front))) same.1 ∙ ap (λ f. option_map (λ space. tests.Name space local) (resolved scope (Some f))) same.0

-- a text that is a QName in no way, and does not end in `:*`
pub no_test : (test : WrittenTest) (text : List ℕ) → IsNoQName (chars text) → text ≢ codes "*" → ((front : List ℕ) → text ≢ front ++ codes ":*") → IsTest test text → ⊥
no_test star text never one end reads = one reads.0
no_test (any_of prefix) text never one end reads = end prefix reads.0
no_test (name None local) text never one end reads = never None (chars local) (ap chars reads.0, reads.1.1)
no_test (name (Some prefix) local) text never one end reads =
    let utf8 : IsUtf8 (58 ∷ local) = IsUtf8-append (58 ∷ []) local (subst IsUtf8 (encode_ascii 58 (lit< tt)) (IsUtf8-encode 58 (search rules))) reads.1.1.0 in
    let colon : chars (58 ∷ local) ≡ 58 ∷ chars local = chars_past_char (58 ∷ local) local 58 utf8 (ap (λ code. code ++ local) (sym (encode_ascii 58 (lit< tt)))) in
    never (Some (chars prefix)) (chars local) (ap chars reads.0 ∙ chars-append prefix (58 ∷ local) reads.1.0.0 ∙ ap (λ rest. chars prefix ++ rest) colon, reads.1.0.1, reads.1.1.1)

-- texts that are equal byte by byte, and that are not
pub bytes_same : (xs ys : List ℕ) → bytes_eq xs ys ≡ true → xs ≡ ys
bytes_same [] [] e = refl
bytes_same [] (y ∷ ys) e = absurd (true≢false (sym e))
bytes_same (x ∷ xs) [] e = absurd (true≢false (sym e))
bytes_same (x ∷ xs) (y ∷ ys) e =
    let parts = both (x == y) (bytes_eq xs ys) e in
    ap (λ z. z ∷ xs) (eqb_true x y parts.0) ∙ ap (λ zs. y ∷ zs) (bytes_same xs ys parts.1)

eqb_same : (b : ℕ) → b == b ≡ true
eqb_same b = grind arith

bytes_self : (xs : List ℕ) → bytes_eq xs xs ≡ true
bytes_self [] = refl
bytes_self (x ∷ xs) = rw (eqb_same x) (bytes_self xs)

pub bytes_other : (xs ys : List ℕ) → false ≡ bytes_eq xs ys → xs ≢ ys
bytes_other xs ys e same = true≢false (sym (bytes_self ys) ∙ ap (λ zs. bytes_eq zs ys) (sym same) ∙ sym e)

pub bytes_not_other : (xs ys : List ℕ) → false ≡ not (bytes_eq xs ys) → xs ≡ ys
bytes_not_other xs ys e = bytes_same xs ys (by (bytes_eq xs ys) e)
  where
    by : (b : Bool) → false ≡ not b → b ≡ true
    by true e = refl
    by false e = absurd (true≢false (sym e))

pub bytes_not_same : (xs ys : List ℕ) → true ≡ not (bytes_eq xs ys) → xs ≢ ys
bytes_not_same xs ys e = bytes_other xs ys (by (bytes_eq xs ys) e)
  where
    by : (b : Bool) → true ≡ not b → false ≡ b
    by true e = absurd (true≢false e)
    by false e = refl

length-cons : (b : ℕ) (bs : List ℕ) → length (b ∷ bs) ≡ length bs + 1
length-cons b bs = omega arith

-- no name test has two colons side by side
abbrev second : List (List ℕ) → List ℕ
second [] = []
second (x ∷ []) = []
second (x ∷ y ∷ pieces) = y

pub test_no_colons : (front more : List ℕ) → list_any (λ b. b == 58) front ≡ false → (test : WrittenTest) → IsTest test (front ++ 58 ∷ 58 ∷ more) → ⊥
test_no_colons front more none star reads = true≢false (sym (any_at (λ b. b == 58) front 58 (58 ∷ more) refl) ∙ ap (list_any (λ b. b == 58)) reads.0)
test_no_colons front more none (any_of prefix) reads =
    let cuts : front ∷ [] ∷ slice_split (λ b. b == 58) more ≡ prefix ∷ (42 ∷ []) ∷ [] = ap (λ rest. front ∷ rest) (sym (split_at (λ b. b == 58) [] 58 more refl refl)) ∙ sym (split_at (λ b. b == 58) front 58 (58 ∷ more) none refl) ∙ ap (slice_split (λ b. b == 58)) reads.0 ∙ split_at (λ b. b == 58) prefix 58 (42 ∷ []) (no_colon prefix reads.1) refl in
    let seconds : [] ≡ 42 ∷ [] = ap second cuts in
    let lengths : 0 ≡ 1 = ap length seconds in
    omega (arith, lengths)
test_no_colons front more none (name None local) reads = true≢false (sym (any_at (λ b. b == 58) front 58 (58 ∷ more) refl) ∙ ap (list_any (λ b. b == 58)) reads.0 ∙ no_colon local reads.1)
test_no_colons front more none (name (Some prefix) local) reads =
    let cuts : front ∷ [] ∷ slice_split (λ b. b == 58) more ≡ prefix ∷ local ∷ [] = ap (λ rest. front ∷ rest) (sym (split_at (λ b. b == 58) [] 58 more refl refl)) ∙ sym (split_at (λ b. b == 58) front 58 (58 ∷ more) none refl) ∙ ap (slice_split (λ b. b == 58)) reads.0 ∙ split_at (λ b. b == 58) prefix 58 local (no_colon prefix reads.1.0) refl ∙ ap (λ rest. prefix ∷ rest) (split_none (λ b. b == 58) local (no_colon local reads.1.1)) in
    let seconds : [] ≡ local = ap second cuts in
    let some = name_some local reads.1.1 in
    let lengths : 0 ≡ length some.1 + 1 = ap length (seconds ∙ some.2) ∙ length-cons some.0 some.1 in
    omega (arith, lengths)
