-- Numbers are compared by their digits.
use Rattle.std.proofs.Common.{◌≡◌, ℕ, suc, ◌+◌, ◌-◌, ◌*◌, ◌≤◌, ◌<◌, ◌≢◌, min, Bool, true, false, ◌&&◌, ◌||◌, ◌==◌, nat_lt, nat_le, if◌then◌else◌, List, [], ◌∷◌, length, get_or, drop, add-one, drop-cons, refl, ap, sym, ◌∙◌, subst, arith}
use Rattle.std.proofs.lemmas.Bool.Decides.{nat_tests}
use Rattle.std.proofs.lemmas.Cmp.{ranked}
use Rattle.std.specs.Ordering.{MatchOrdering}
use Rattle.std.specs.List.{list_all}
use Rattle.std.specs.Ordering.{nat_cmp, ordering_then, is_le}
use Rattle.std.specs.Cmp.Lexicographic.{slice_cmp}
use Rattle.std.specs.declared.cmp.Ordering.{Ordering}
use Rattle.std.specs.declared.cmp.Ordering.TheVariants.{Less, Equal, Greater}
use Rattle.pattern_syntax.specs.Characters.{is_ascii_digit}
use Rattle.std.specs.Char.{digit_value}
use Rattle.std.specs.Str.Parse.{digits_value_after}
use Rattle.std.proofs.lemmas.Str.{digit_value_digit}
use Rattle.pattern_syntax.specs.Grammar.{number}
use Rattle.pattern_syntax.specs.Numbers.{skip_zeros}
use Rattle.pattern_syntax.proofs.Choosing.{on_if, left_of, right_of}

-- what a digit is worth
worth : (d : ℕ) → is_ascii_digit d ≡ true → digit_value d + 48 ≡ d
worth d e = digit_value_digit d (grind (arith, nat_tests))

digit_low : (d : ℕ) → is_ascii_digit d ≡ true → digit_value d ≤ 9
digit_low d e = let w = worth d e in let l : d ≤ 57 = grind (arith, nat_tests) in omega arith

less_step : (m n u v : ℕ) → m < n → u ≤ 9 → m * 10 + u < n * 10 + v
less_step m n u v l low = omega arith

-- a smaller number stays smaller behind as many digits
less_stays : (m n : ℕ) (xs ys : List ℕ) → m < n → length xs ≡ length ys → list_all is_ascii_digit xs ≡ true → digits_value_after 10 m xs < digits_value_after 10 n ys
less_stays m n [] [] l same e = l
less_stays m n [] (y ∷ ys) l same e = absurd (omega arith)
less_stays m n (x ∷ xs) [] l same e = absurd (omega arith)
less_stays m n (x ∷ xs) (y ∷ ys) l same e =
    let low = digit_low x (left_of (is_ascii_digit x) (list_all is_ascii_digit xs) e) in
    less_stays (m * 10 + digit_value x) (n * 10 + digit_value y) xs ys (less_step m n (digit_value x) (digit_value y) l low) (omega arith) (right_of (is_ascii_digit x) (list_all is_ascii_digit xs) e)

not_whole : (a b : ℕ) → a ≤ suc b → (a == suc b) ≡ false → a ≤ b
not_whole a b l e = grind (arith, nat_tests)

zero_digit : (d : ℕ) → (d == 48) ≡ true → 0 ≡ 0 * 10 + digit_value d
zero_digit d e = let same : d ≡ 48 = grind (arith, nat_tests) in let none : digit_value d ≡ 0 = ap digit_value same in rw none refl

above : (d : ℕ) → is_ascii_digit d ≡ true → (d == 48) ≡ false → nat_lt 48 d ≡ true
above d e f = grind (arith, nat_tests)

above_zero : (d : ℕ) → is_ascii_digit d ≡ true → nat_lt 48 d ≡ true → 0 < 0 * 10 + digit_value d
above_zero d digit e = let more : 48 < d = grind (arith, nat_tests) in let w = worth d digit in omega arith

by_length : (n x : ℕ) (xs ys : List ℕ) → 0 < n → length ys ≤ length (x ∷ xs) → list_all is_ascii_digit ys ≡ true →
    (length ys ≤ length xs → number ys < digits_value_after 10 (n * 10 + digit_value x) xs) → (t : Bool) → (length ys == length (x ∷ xs)) ≡ t → number ys < digits_value_after 10 n (x ∷ xs)
by_length n x xs ys l k e again true same = less_stays 0 n ys (x ∷ xs) l (grind (arith, nat_tests)) e
by_length n x xs ys l k e again false other = again (not_whole (length ys) (length xs) k other)

-- a number that is not zero, with as many digits behind it or more, is greater than those of another
longer_more : (n : ℕ) (xs ys : List ℕ) → 0 < n → length ys ≤ length xs → list_all is_ascii_digit ys ≡ true → number ys < digits_value_after 10 n xs
longer_more n [] [] l k e = l
longer_more n [] (y ∷ ys) l k e = absurd (omega arith)
longer_more n (x ∷ xs) ys l k e = by_length n x xs ys l k e (λ j. longer_more (n * 10 + digit_value x) xs ys (omega arith) j e) (length ys == length (x ∷ xs)) refl

by_zero : (d : ℕ) (ds : List ℕ) → number (skip_zeros ds) ≡ number ds → (t : Bool) → (d == 48) ≡ t → number (if t then skip_zeros ds else d ∷ ds) ≡ number (d ∷ ds)
by_zero d ds again true e = again ∙ ap (λ n. digits_value_after 10 n ds) (zero_digit d e)
by_zero d ds again false e = refl

number_skip : (ds : List ℕ) → number (skip_zeros ds) ≡ number ds
number_skip [] = refl
number_skip (d ∷ ds) = by_zero d ds (number_skip ds) (d == 48) refl

digits_skip : (ds : List ℕ) → list_all is_ascii_digit ds ≡ true → list_all is_ascii_digit (skip_zeros ds) ≡ true
digits_skip [] e = refl
digits_skip (d ∷ ds) e = on_if (λ l. list_all is_ascii_digit l ≡ true) (d == 48) (skip_zeros ds) (d ∷ ds) (λ _. digits_skip ds (right_of (is_ascii_digit d) (list_all is_ascii_digit ds) e)) (λ _. e)

-- no zero stands in front
abbrev leads : List ℕ → Bool
leads [] = true
leads (d ∷ ds) = nat_lt 48 d

leads_skip : (ds : List ℕ) → list_all is_ascii_digit ds ≡ true → leads (skip_zeros ds) ≡ true
leads_skip [] e = refl
leads_skip (d ∷ ds) e = on_if (λ l. leads l ≡ true) (d == 48) (skip_zeros ds) (d ∷ ds) (λ _. leads_skip ds (right_of (is_ascii_digit d) (list_all is_ascii_digit ds) e)) (λ f. above d (left_of (is_ascii_digit d) (list_all is_ascii_digit ds) e) f)

-- with fewer digits and no zero in front a number is smaller
fewer_less : (xs ys : List ℕ) → leads ys ≡ true → list_all is_ascii_digit xs ≡ true → list_all is_ascii_digit ys ≡ true → length xs < length ys → number xs < number ys
fewer_less xs [] f e g l = absurd (omega arith)
fewer_less xs (y ∷ ys) f e g l = longer_more (0 * 10 + digit_value y) ys xs (above_zero y (left_of (is_ascii_digit y) (list_all is_ascii_digit ys) g) f) (omega arith) e

le_less : (a b : ℕ) → a < b → true ≡ nat_le a b
le_less a b l = grind (arith, nat_tests)

le_greater : (a b : ℕ) → b < a → false ≡ nat_le a b
le_greater a b l = grind (arith, nat_tests)

by_order : (n x y : ℕ) (xs ys : List ℕ) → length xs ≡ length ys → is_ascii_digit x ≡ true → list_all is_ascii_digit xs ≡ true → is_ascii_digit y ≡ true → list_all is_ascii_digit ys ≡ true →
    is_le (slice_cmp nat_cmp xs ys) ≡ nat_le (digits_value_after 10 (n * 10 + digit_value x) xs) (digits_value_after 10 (n * 10 + digit_value x) ys) →
    (o : Ordering) → MatchOrdering o (x < y) (x ≡ y) (y < x) →
    is_le (ordering_then o (slice_cmp nat_cmp xs ys)) ≡ nat_le (digits_value_after 10 (n * 10 + digit_value x) xs) (digits_value_after 10 (n * 10 + digit_value y) ys)
by_order n x y xs ys same dx ex dy ey again Less l =
    let a = worth x dx in
    let b = worth y dy in
    le_less _ _ (less_stays (n * 10 + digit_value x) (n * 10 + digit_value y) xs ys (omega arith) same ex)
by_order n x y xs ys same dx ex dy ey again Equal e = subst (λ v. is_le (slice_cmp nat_cmp xs ys) ≡ nat_le (digits_value_after 10 (n * 10 + digit_value x) xs) (digits_value_after 10 (n * 10 + digit_value v) ys)) e again
by_order n x y xs ys same dx ex dy ey again Greater l =
    let a = worth x dx in
    let b = worth y dy in
    le_greater _ _ (less_stays (n * 10 + digit_value y) (n * 10 + digit_value x) ys xs (omega arith) (sym same) ey)

-- with as many digits the first that differs decides
as_many : (n : ℕ) (xs ys : List ℕ) → length xs ≡ length ys → list_all is_ascii_digit xs ≡ true → list_all is_ascii_digit ys ≡ true →
    is_le (slice_cmp nat_cmp xs ys) ≡ nat_le (digits_value_after 10 n xs) (digits_value_after 10 n ys)
as_many n [] [] same e f = grind (arith, nat_tests)
as_many n [] (y ∷ ys) same e f = absurd (omega arith)
as_many n (x ∷ xs) [] same e f = absurd (omega arith)
as_many n (x ∷ xs) (y ∷ ys) same e f =
    by_order n x y xs ys (omega arith) (left_of (is_ascii_digit x) (list_all is_ascii_digit xs) e) (right_of (is_ascii_digit x) (list_all is_ascii_digit xs) e) (left_of (is_ascii_digit y) (list_all is_ascii_digit ys) f) (right_of (is_ascii_digit y) (list_all is_ascii_digit ys) f)
    (as_many (n * 10 + digit_value x) xs ys (omega arith) (right_of (is_ascii_digit x) (list_all is_ascii_digit xs) e) (right_of (is_ascii_digit y) (list_all is_ascii_digit ys) f))
    (nat_cmp x y) (ranked x y (nat_cmp x y) refl)

by_lengths : (us vs : List ℕ) → list_all is_ascii_digit us ≡ true → list_all is_ascii_digit vs ≡ true → leads us ≡ true → leads vs ≡ true → (o : Ordering) →
    MatchOrdering o (length us < length vs) (length us ≡ length vs) (length vs < length us) →
    (nat_lt (length us) (length vs) || ((length us == length vs) && is_le (slice_cmp nat_cmp us vs))) ≡ nat_le (number us) (number vs)
by_lengths us vs du dv lu lv Less l =
    let less : number us < number vs = fewer_less us vs lv du dv l in
    let first : nat_lt (length us) (length vs) ≡ true = grind (arith, nat_tests) in
    rw first (le_less (number us) (number vs) less)
by_lengths us vs du dv lu lv Equal e =
    let first : nat_lt (length us) (length vs) ≡ false = grind (arith, nat_tests) in
    let second : (length us == length vs) ≡ true = grind (arith, nat_tests) in
    rw (first, second) (as_many 0 us vs e du dv)
by_lengths us vs du dv lu lv Greater l =
    let less : number vs < number us = fewer_less vs us lu dv du l in
    let first : nat_lt (length us) (length vs) ≡ false = grind (arith, nat_tests) in
    let second : (length us == length vs) ≡ false = grind (arith, nat_tests) in
    rw (first, second) (le_greater (number us) (number vs) less)

decided : (us vs : List ℕ) → list_all is_ascii_digit us ≡ true → list_all is_ascii_digit vs ≡ true → leads us ≡ true → leads vs ≡ true →
    (nat_lt (length us) (length vs) || ((length us == length vs) && is_le (slice_cmp nat_cmp us vs))) ≡ nat_le (number us) (number vs)
decided us vs du dv lu lv = by_lengths us vs du dv lu lv (nat_cmp (length us) (length vs)) (ranked (length us) (length vs) (nat_cmp (length us) (length vs)) refl)

-- ---- the two functions

pub at_most : (xs ys us vs : List ℕ) (lt eq le : Bool) → list_all is_ascii_digit xs ≡ true → list_all is_ascii_digit ys ≡ true → us ≡ skip_zeros xs → vs ≡ skip_zeros ys →
    lt ≡ nat_lt (length us) (length vs) → eq ≡ (length us == length vs) → le ≡ is_le (slice_cmp nat_cmp us vs) →
    (lt || (eq && le)) ≡ nat_le (number xs) (number ys)
at_most xs ys us vs lt eq le ex ey eu ev elt eeq ele =
    let x : number us ≡ number xs = ap number eu ∙ number_skip xs in
    let y : number vs ≡ number ys = ap number ev ∙ number_skip ys in
    let dx : list_all is_ascii_digit us ≡ true = subst (λ l. list_all is_ascii_digit l ≡ true) (sym eu) (digits_skip xs ex) in
    let dy : list_all is_ascii_digit vs ≡ true = subst (λ l. list_all is_ascii_digit l ≡ true) (sym ev) (digits_skip ys ey) in
    let lx : leads us ≡ true = subst (λ l. leads l ≡ true) (sym eu) (leads_skip xs ex) in
    let ly : leads vs ≡ true = subst (λ l. leads l ≡ true) (sym ev) (leads_skip ys ey) in
    rw (← x, ← y, elt, eeq, ele) (decided us vs dx dy lx ly)

cap_step : (a b v : ℕ) → min a 4097 ≡ min b 4097 → min (a * 10 + v) 4097 ≡ min (b * 10 + v) 4097
cap_step a b v e = omega arith

cap : (a b : ℕ) (ds : List ℕ) → min a 4097 ≡ min b 4097 → min (digits_value_after 10 a ds) 4097 ≡ min (digits_value_after 10 b ds) 4097
cap a b [] e = e
cap a b (d ∷ ds) e = cap (a * 10 + digit_value d) (b * 10 + digit_value d) ds (cap_step a b (digit_value d) e)

pub capped : (n m d : ℕ) (ds : List ℕ) (all : ℕ) → is_ascii_digit d ≡ true → m ≡ min (n * 10 + (d - 48)) 4097 → min (digits_value_after 10 n (d ∷ ds)) 4097 ≡ all →
    min (digits_value_after 10 m ds) 4097 ≡ all
capped n m d ds all digit e f = cap m (n * 10 + digit_value d) ds (let w = worth d digit in omega arith) ∙ f

pub at_most_fewer : (xs ys us vs : List ℕ) → list_all is_ascii_digit xs ≡ true → list_all is_ascii_digit ys ≡ true → us ≡ skip_zeros xs → vs ≡ skip_zeros ys →
    length us < length vs → nat_lt (length us) (length vs) ≡ nat_le (number xs) (number ys)
at_most_fewer xs ys us vs ex ey eu ev l =
    let t : nat_lt (length us) (length vs) ≡ true = grind (arith, nat_tests) in
    t ∙ at_most xs ys us vs true _ _ ex ey eu ev (sym t) refl refl

pub at_most_same : (xs ys us vs : List ℕ) (r : Bool) → list_all is_ascii_digit xs ≡ true → list_all is_ascii_digit ys ≡ true → us ≡ skip_zeros xs → vs ≡ skip_zeros ys →
    length us ≡ length vs → r ≡ is_le (slice_cmp nat_cmp us vs) → r ≡ nat_le (number xs) (number ys)
at_most_same xs ys us vs r ex ey eu ev same er =
    let t : nat_lt (length us) (length vs) ≡ false = grind (arith, nat_tests) in
    let u : (length us == length vs) ≡ true = grind (arith, nat_tests) in
    er ∙ at_most xs ys us vs false true _ ex ey eu ev (sym t) (sym u) refl

pub at_most_more : (xs ys us vs : List ℕ) → list_all is_ascii_digit xs ≡ true → list_all is_ascii_digit ys ≡ true → us ≡ skip_zeros xs → vs ≡ skip_zeros ys →
    length vs ≤ length us → length us ≢ length vs → (length us == length vs) ≡ nat_le (number xs) (number ys)
at_most_more xs ys us vs ex ey eu ev l other =
    let t : nat_lt (length us) (length vs) ≡ false = grind (arith, nat_tests) in
    let u : (length us == length vs) ≡ false = grind (arith, nat_tests) in
    u ∙ at_most xs ys us vs false false (is_le (slice_cmp nat_cmp us vs)) ex ey eu ev (sym t) (sym u) refl

pub next_digit : (ds : List ℕ) (i d : ℕ) → i < length ds → d ≡ get_or ds i d → drop i ds ≡ d ∷ drop (i + 1) ds
next_digit ds i d l e = rw (add-one, drop-cons ds i d) (ap (λ x. x ∷ drop (suc i) ds) (sym e))
