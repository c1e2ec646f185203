-- Symbols are printed in one order.
use Rattle.std.proofs.Common.{◌≡◌, ◌==◌, ℕ, suc, zero, ◌+◌, ◌<◌, ◌≤◌, List, [], ◌∷◌, ◌++◌, Bool, true, false, Some, length, map, get_or, refl, sym, ap, ◌∙◌, subst, inl, inr, arith}
use Rattle.std.specs.Prelude.{All, Contains, ◌⊎◌, if◌then◌else◌, slice_get, IsPermutation, IsSortedBy}
use Rattle.std.specs.Cmp.{IsTotalOrder}
use Rattle.std.specs.Cmp.Lexicographic.{slice_cmp}
use Rattle.std.specs.List.{sum_by}
use Rattle.std.specs.Ordering.{nat_cmp, ordering_then, ordering_reverse, is_lt}
use Rattle.std.specs.declared.cmp.Ordering.{Ordering}
use Rattle.std.specs.declared.cmp.Ordering.TheVariants.{Less, Equal, Greater}
use Rattle.std.proofs.lemmas.Bool.{true≢false, false≢true, cases_eq, eq-eqb, ne_eqb}
use Rattle.std.proofs.lemmas.List.Elements.{All-head, All-tail}
use Rattle.std.proofs.lemmas.List.MinMax.{ranks_by}
use Rattle.std.proofs.lemmas.List.Sorted.{sum_by-IsPermutation, sorted_far}
use Rattle.std.proofs.lemmas.List.Sums.{sum_by-cons}
use Rattle.std.proofs.lemmas.Map.Lookups.{exact_bytes, exact_unsigned}
use Rattle.std.proofs.lemmas.Option.{slice_get-get_or, get_or_from_slice_get}
use Rattle.xs_names.specs.Names.{NameTable, IsSound, space_of, local_of}
use Rattle.xs_names.specs.Numbering.{HasNoRepeats}
use Rattle.content_automaton.proofs.Items.{contains_cases, contains_tail, contains_head, none_contained}
use Rattle.kept_next.specs.Next.{IsNamed}
use Rattle.kept_next.specs.Order.{IsOrderOf, is_before, kind_of, local_name, numbered, print_order, space_name, symbols_of}
use Rattle.kept_next.specs.declared.order.Symbol.{Symbol}
use Rattle.kept_next.specs.declared.symbol.SymbolName.{SymbolName}
use Rattle.kept_next.specs.declared.symbol.SymbolName.TheVariants.{Name, Namespace, Other}
use Rattle.kept_next.proofs.Orders.{print-total}

-- ---- sums

nothing : 0 < 0 → ⊥
nothing h = omega (arith, h)

one-some : (m n : ℕ) → 0 < m + n → (0 < m) ⊎ (0 < n)
one-some zero n h = inr (omega (arith, h))
one-some (suc m) n h = inl (omega arith)

module _ {X : Type 0} (f : X → ℕ) where
  abbrev added : List X → ℕ
  added [] = 0
  added (x ∷ xs) = f x + added xs

  added-sum : (xs : List X) → sum_by f xs ≡ added xs
  added-sum [] = refl
  added-sum (x ∷ xs) = sum_by-cons f x xs ∙ ap (λ (n : ℕ). f x + n) (added-sum xs)

  added-append : (xs ys : List X) → added (xs ++ ys) ≡ added xs + added ys
  added-append [] ys = omega arith
  added-append (x ∷ xs) ys = let rest = added-append xs ys in omega (arith, rest)

  moved : (xs ys : List X) → IsPermutation xs ys → added ys ≡ added xs
  moved xs ys p = sym (added-sum ys) ∙ sum_by-IsPermutation f xs ys p ∙ added-sum xs

-- ---- symbols that are not told apart by their texts are the same

both-equal : (a b : Ordering) → ordering_then a b ≡ Equal → (a ≡ Equal) × (b ≡ Equal)
both-equal Less b e = let clash : Less ≡ Equal = e in absurd (cc clash)
both-equal Equal b e = (refl, e)
both-equal Greater b e = let clash : Greater ≡ Equal = e in absurd (cc clash)

neither-less : (r s : Ordering) → r ≡ ordering_reverse s → is_lt r ≡ false → is_lt s ≡ false → r ≡ Equal
neither-less Less s e a b = absurd (true≢false a)
neither-less Equal s e a b = refl
neither-less Greater Less e a b = absurd (true≢false b)
neither-less Greater Equal e a b = e
neither-less Greater Greater e a b = let clash : Greater ≡ Less = e in absurd (cc clash)

module _ (t : NameTable) (sound : IsSound t) where
  same-space : (x y : ℕ) → x < length t.spaces → y < length t.spaces → get_or t.spaces x [] ≡ get_or t.spaces y [] → x ≡ y
  same-space x y l m e =
      sound.spaces_once x y (get_or t.spaces x []) (slice_get-get_or t.spaces x [] l)
      (slice_get-get_or t.spaces y [] m ∙ ap Some (sym e))

  same-name : (x y : ℕ) → x < length t.names → y < length t.names → get_or t.spaces (space_of t x) [] ≡ get_or t.spaces (space_of t y) [] → local_of t x ≡ local_of t y → x ≡ y
  same-name x y l m spaces locals =
      let at = slice_get-get_or t.names x (0, []) l in
      let there = slice_get-get_or t.names y (0, []) m in
      let space = same-space (space_of t x) (space_of t y) (sound.within x (space_of t x) (local_of t x) at) (sound.within y (space_of t y) (local_of t y) there) spaces in
      sound.names_once x y (space_of t x, local_of t x) at (there ∙ sym (λ i. Some (space i, locals i)))

  by-texts : (a b : SymbolName) → IsNamed t a → IsNamed t b → kind_of a ≡ kind_of b → space_name t a ≡ space_name t b → local_name t a ≡ local_name t b → a ≡ b
  by-texts (Name x) (Name y) l m kinds spaces locals = ap Name (same-name x y l m spaces locals)
  by-texts (Name x) (Namespace y) l m kinds spaces locals = let k : ◌≡◌ {A = ℕ} 0 1 = kinds in absurd (omega (arith, k))
  by-texts (Name x) Other l m kinds spaces locals = let k : ◌≡◌ {A = ℕ} 0 2 = kinds in absurd (omega (arith, k))
  by-texts (Namespace x) (Name y) l m kinds spaces locals = let k : ◌≡◌ {A = ℕ} 1 0 = kinds in absurd (omega (arith, k))
  by-texts (Namespace x) (Namespace y) l m kinds spaces locals = ap Namespace (same-space x y l m spaces)
  by-texts (Namespace x) Other l m kinds spaces locals = let k : ◌≡◌ {A = ℕ} 1 2 = kinds in absurd (omega (arith, k))
  by-texts Other (Name y) l m kinds spaces locals = let k : ◌≡◌ {A = ℕ} 2 0 = kinds in absurd (omega (arith, k))
  by-texts Other (Namespace y) l m kinds spaces locals = let k : ◌≡◌ {A = ℕ} 2 1 = kinds in absurd (omega (arith, k))
  by-texts Other Other l m kinds spaces locals = refl

  pub same-symbol : (a b : SymbolName) → IsNamed t a → IsNamed t b → is_lt (print_order t a b) ≡ false → is_lt (print_order t b a) ≡ false → a ≡ b
  same-symbol a b l m first second =
      let equal = neither-less (print_order t a b) (print_order t b a) ((print-total t).antisymm a b) first second in
      let one = both-equal (nat_cmp (kind_of a) (kind_of b)) (ordering_then (slice_cmp nat_cmp (space_name t a) (space_name t b)) (slice_cmp nat_cmp (local_name t a) (local_name t b))) equal in
      let two = both-equal (slice_cmp nat_cmp (space_name t a) (space_name t b)) (slice_cmp nat_cmp (local_name t a) (local_name t b)) one.1 in
      by-texts a b l m (exact_unsigned (kind_of a) (kind_of b) one.0) (exact_bytes (space_name t a) (space_name t b) two.0) (exact_bytes (local_name t a) (local_name t b) two.1)

-- ---- how often a symbol comes

-- 1 where they are the same
abbrev hit : SymbolName → SymbolName → ℕ
hit (Name n) (Name m) = if m == n then 1 else 0
hit (Namespace n) (Namespace m) = if m == n then 1 else 0
hit Other Other = 1
hit _ _ = 0

hit-self : (a : SymbolName) → hit a a ≡ 1
hit-self (Name n) = ap {B = ℕ} (λ (b : Bool). if b then 1 else 0) (eq-eqb n n refl)
hit-self (Namespace n) = ap {B = ℕ} (λ (b : Bool). if b then 1 else 0) (eq-eqb n n refl)
hit-self Other = refl

if-hit : (named : ℕ → SymbolName) (n m : ℕ) → 0 < (if m == n then 1 else 0) → named n ≡ named m
if-hit named n m some = elim (cases_eq m n) [
  | inl e ↦ ap named (sym e)
  | inr d ↦ absurd (let none : ◌≡◌ {A = ℕ} (if m == n then 1 else 0) 0 = ap {B = ℕ} (λ (b : Bool). if b then 1 else 0) (ne_eqb m n d) in omega (arith, some, none))
]

hit-same : (a b : SymbolName) → 0 < hit a b → a ≡ b
hit-same (Name n) (Name m) some = if-hit Name n m some
hit-same (Name n) (Namespace m) some = absurd (nothing some)
hit-same (Name n) Other some = absurd (nothing some)
hit-same (Namespace n) (Name m) some = absurd (nothing some)
hit-same (Namespace n) (Namespace m) some = if-hit Namespace n m some
hit-same (Namespace n) Other some = absurd (nothing some)
hit-same Other (Name m) some = absurd (nothing some)
hit-same Other (Namespace m) some = absurd (nothing some)
hit-same Other Other some = refl

-- ---- how often a number comes in a list in which none comes twice

abbrev pub among : ℕ → List ℕ → ℕ
among n xs = added (λ m. if m == n then 1 else 0) xs

is-hit : (m n : ℕ) → m ≡ n → ◌≡◌ {A = ℕ} (if m == n then 1 else 0) 1
is-hit m n e = ap {B = ℕ} (λ (b : Bool). if b then 1 else 0) (eq-eqb m n e)

no-hit : (m n : ℕ) → (m ≡ n → ⊥) → ◌≡◌ {A = ℕ} (if m == n then 1 else 0) 0
no-hit m n d = ap {B = ℕ} (λ (b : Bool). if b then 1 else 0) (ne_eqb m n d)

found-or-not : (xs : List ℕ) (n : ℕ) → Contains xs n ⊎ (Contains xs n → ⊥)
found-or-not [] n = inr (none_contained n)
found-or-not (x ∷ xs) n = elim (cases_eq x n) [
  | inl e ↦ inl (contains_head x xs n (sym e))
  | inr d ↦ elim (found-or-not xs n) [
    | inl c ↦ inl (contains_tail x xs n c)
    | inr none ↦ inr (λ c. elim (contains_cases x xs n c) [ inl e ↦ d (sym e) | inr later ↦ none later ])
  ]
]

absent : (xs : List ℕ) (n : ℕ) → (Contains xs n → ⊥) → among n xs ≡ 0
absent [] n none = refl
absent (x ∷ xs) n none =
    let first = no-hit x n (λ e. none (contains_head x xs n (sym e))) in
    let rest = absent xs n (λ c. none (contains_tail x xs n c)) in
    omega (arith, first, rest)

tail-once : {X : Type 0} (x : X) (xs : List X) → HasNoRepeats (x ∷ xs) → HasNoRepeats xs
tail-once x xs once i j y s t = let e = once (suc i) (suc j) y s t in omega (arith, e)

head-once : (x : ℕ) (xs : List ℕ) → HasNoRepeats (x ∷ xs) → Contains xs x → ⊥
head-once x xs once (k, l, e) =
    let two = once 0 (suc k) x refl (slice_get-get_or xs k x l ∙ ap Some e) in omega (arith, two)

present : (xs : List ℕ) (n : ℕ) → HasNoRepeats xs → Contains xs n → among n xs ≡ 1
present [] n once c = absurd (none_contained n c)
present (x ∷ xs) n once c = elim (cases_eq x n) [
  | inl e ↦ (let first = is-hit x n e in
      let rest = absent xs n (λ d. head-once x xs once (subst (Contains xs) (sym e) d)) in omega (arith, first, rest))
  | inr d ↦ elim (contains_cases x xs n c) [
    | inl e ↦ absurd (d (sym e))
    | inr later ↦ (let first = no-hit x n d in let rest = present xs n (tail-once x xs once) later in omega (arith, first, rest))
  ]
]

module _ (xs ys : List ℕ) (xs_once : HasNoRepeats xs) (ys_once : HasNoRepeats ys) (there : (n : ℕ) → Contains xs n → Contains ys n) (back : (n : ℕ) → Contains ys n → Contains xs n) where
  same-among : (n : ℕ) → among n xs ≡ among n ys
  same-among n = elim (found-or-not xs n) [
    | inl c ↦ present xs n xs_once c ∙ sym (present ys n ys_once (there n c))
    | inr none ↦ absent xs n none ∙ sym (absent ys n (λ c. none (back n c)))
  ]

zeros : (xs : List ℕ) → added (λ m. 0) xs ≡ 0
zeros [] = refl
zeros (x ∷ xs) = let rest = zeros xs in omega (arith, rest)

-- ---- how often a symbol comes among those of a content model

abbrev count : SymbolName → List Symbol → ℕ
count a xs = added (λ (x : Symbol). hit a x.name) xs

numbered-count : (a : SymbolName) (named : ℕ → SymbolName) (k : ℕ) (xs : List ℕ) → count a (numbered named k xs) ≡ added (λ n. hit a (named n)) xs
numbered-count a named k [] = refl
numbered-count a named k (x ∷ xs) = ap (λ (n : ℕ). hit a (named x) + n) (numbered-count a named (suc k) xs)

all-count : (a : SymbolName) (own spaces : List ℕ) → count a (symbols_of own spaces) ≡ (added (λ n. hit a (Name n)) own + added (λ n. hit a (Namespace n)) spaces) + (hit a Other + 0)
all-count a own spaces =
    let other : List Symbol = record { number = length own + length spaces; name = Other } ∷ [] in
    added-append (λ (x : Symbol). hit a x.name) (numbered Name 0 own ++ numbered Namespace (length own) spaces) other
    ∙ ap (λ (n : ℕ). n + (hit a Other + 0)) (added-append (λ (x : Symbol). hit a x.name) (numbered Name 0 own) (numbered Namespace (length own) spaces))
    ∙ (λ i. (numbered-count a Name 0 own i + numbered-count a Namespace (length own) spaces i) + (hit a Other + 0))

module _ (own own2 spaces spaces2 : List ℕ) (names : (n : ℕ) → among n own ≡ among n own2) (nss : (n : ℕ) → among n spaces ≡ among n spaces2) where
  parts-same : (a : SymbolName) → (added (λ n. hit a (Name n)) own ≡ added (λ n. hit a (Name n)) own2) × (added (λ n. hit a (Namespace n)) spaces ≡ added (λ n. hit a (Namespace n)) spaces2)
  parts-same (Name n) = (names n, zeros spaces ∙ sym (zeros spaces2))
  parts-same (Namespace n) = (zeros own ∙ sym (zeros own2), nss n)
  parts-same Other = (zeros own ∙ sym (zeros own2), zeros spaces ∙ sym (zeros spaces2))

  all-same : (a : SymbolName) → count a (symbols_of own spaces) ≡ count a (symbols_of own2 spaces2)
  all-same a =
      let same = parts-same a in
      all-count a own spaces ∙ (λ i. (same.0 i + same.1 i) + (hit a Other + 0)) ∙ sym (all-count a own2 spaces2)

-- ---- sorted symbols of which each comes as often are the same

module _ (t : NameTable) (sound : IsSound t) where
  -- none is before the first
  abbrev Rises : List Symbol → Type 0
  Rises [] = Unit {0}
  Rises (x ∷ xs) = All (λ (y : Symbol). is_before t y x ≡ false) xs × Rises xs

  rises : (xs : List Symbol) → IsSortedBy (is_before t) xs → Rises xs
  rises [] up = tt
  rises (x ∷ xs) up = (
    (λ n d l. sorted_far (is_before t) (ranks_by (print-total t) (λ (y : Symbol). y.name)) (x ∷ xs) up 0 (suc n) d (omega arith) (omega (arith, l))),
    rises xs (λ k d low high.
        let next : suc k + 1 ≡ suc (k + 1) = omega arith in
        subst (λ (n : ℕ). is_before t (get_or (x ∷ xs) n d) (get_or xs k d) ≡ false) next (up (suc k) d (omega arith) (omega (arith, high)))),
  )

  among-all : (Q : SymbolName → Type 0) (a : SymbolName) (xs : List Symbol) → All (λ (x : Symbol). Q x.name) xs → 0 < count a xs → Q a
  among-all Q a [] all some = absurd (nothing some)
  among-all Q a (x ∷ xs) all some = elim (one-some (hit a x.name) (count a xs) some) [
    | inl first ↦ subst Q (sym (hit-same a x.name first)) (All-head (λ (y : Symbol). Q y.name) x xs all)
    | inr rest ↦ among-all Q a xs (All-tail (λ (y : Symbol). Q y.name) x xs all) rest
  ]

  -- the first of some is the first of the others, or not after it
  first-of : (x y : Symbol) (xs ys : List Symbol) → Rises (y ∷ ys) → count x.name (x ∷ xs) ≡ count x.name (y ∷ ys) → (x.name ≡ y.name) ⊎ (is_lt (print_order t x.name y.name) ≡ false)
  first-of x y xs ys up same =
      let own = hit-self x.name in
      elim (one-some (hit x.name y.name) (count x.name ys) (omega (arith, own, same))) [
        | inl first ↦ inl (hit-same x.name y.name first)
        | inr rest ↦ inr (among-all (λ (a : SymbolName). is_lt (print_order t a y.name) ≡ false) x.name ys up.0 rest)
      ]

  names-same : (xs ys : List Symbol) → All (λ (x : Symbol). IsNamed t x.name) xs → All (λ (x : Symbol). IsNamed t x.name) ys → Rises xs → Rises ys
      → ((a : SymbolName) → count a xs ≡ count a ys) → map (λ (x : Symbol). x.name) xs ≡ map (λ (x : Symbol). x.name) ys
  names-same [] [] l m up also same = refl
  names-same [] (y ∷ ys) l m up also same = absurd (let none = same y.name in let own = hit-self y.name in omega (arith, none, own))
  names-same (x ∷ xs) [] l m up also same = absurd (let none = same x.name in let own = hit-self x.name in omega (arith, none, own))
  names-same (x ∷ xs) (y ∷ ys) l m up also same =
      let first = one (first-of x y xs ys also (same x.name)) (first-of y x ys xs up (sym (same y.name))) in
      let rest = names-same xs ys (All-tail (λ (z : Symbol). IsNamed t z.name) x xs l) (All-tail (λ (z : Symbol). IsNamed t z.name) y ys m) up.1 also.1
      (λ a. let all = same a in let here = ap (hit a) first in omega (arith, all, here)) in
      λ i. first i ∷ rest i
    where
      one : (x.name ≡ y.name) ⊎ (is_lt (print_order t x.name y.name) ≡ false) → (y.name ≡ x.name) ⊎ (is_lt (print_order t y.name x.name) ≡ false) → x.name ≡ y.name
      one (inl e) b = e
      one (inr a) (inl e) = sym e
      one (inr a) (inr b) = same-symbol t sound x.name y.name (All-head (λ (z : Symbol). IsNamed t z.name) x xs l) (All-head (λ (z : Symbol). IsNamed t z.name) y ys m) a b

  -- all symbols of a content model in the order in which they are printed are the same
  module _ (own own2 spaces spaces2 : List ℕ) (names : (n : ℕ) → among n own ≡ among n own2) (nss : (n : ℕ) → among n spaces ≡ among n spaces2) where
    pub order-same : (xs ys : List Symbol) → IsOrderOf t own spaces xs → IsOrderOf t own2 spaces2 ys → All (λ (x : Symbol). IsNamed t x.name) xs → All (λ (x : Symbol). IsNamed t x.name) ys
        → map (λ (x : Symbol). x.name) xs ≡ map (λ (x : Symbol). x.name) ys
    order-same xs ys o p l m =
        names-same xs ys l m (rises xs o.rises) (rises ys p.rises)
        (λ a. moved (λ (x : Symbol). hit a x.name) (symbols_of own spaces) xs o.all
        ∙ all-same own own2 spaces spaces2 names nss a
        ∙ sym (moved (λ (x : Symbol). hit a x.name) (symbols_of own2 spaces2) ys p.all))

-- two lists with the same numbers, none of which comes twice, have each as often
pub as-often : (xs ys : List ℕ) → HasNoRepeats xs → HasNoRepeats ys → ((n : ℕ) → Contains xs n → Contains ys n) → ((n : ℕ) → Contains ys n → Contains xs n)
    → (n : ℕ) → among n xs ≡ among n ys
as-often xs ys once also there back = same-among xs ys once also there back
