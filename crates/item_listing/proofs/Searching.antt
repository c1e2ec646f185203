-- The first line feed, where some bytes were searched before.
use Rattle.std.proofs.Common.{◌≡◌, ℕ, zero, suc, ◌+◌, ◌-◌, ◌<◌, ◌≤◌, List, [], ◌∷◌, Some, None, Bool, true, false, length, take, drop, refl, sym, ap, ◌∙◌, arith, position, length-drop}
use Rattle.std.specs.List.{position_or_len, list_any}
use Rattle.std.proofs.lemmas.List.{take_all}
use Rattle.std.proofs.lemmas.Bool.Decides.{nat_tests}
use Rattle.item_listing.proofs.Cutting.{is_feed, place_here, place_later}
use Rattle.item_listing.proofs.Joined.{or_first, or_second}

pub skip : (n : ℕ) (xs : List ℕ) → n ≤ length xs → list_any is_feed (take n xs) ≡ false → position_or_len is_feed xs ≡ n + position_or_len is_feed (drop n xs)
skip zero xs h e = omega arith
skip (suc n) [] h e = absurd (omega arith)
skip (suc n) (b ∷ bs) h e =
    let here = place_later b bs (or_first (is_feed b) (list_any is_feed (take n bs)) e) in
    let later = skip n bs (omega arith) (or_second (is_feed b) (list_any is_feed (take n bs)) e) in
    omega (arith, here, later)

pub found_after : (n p : ℕ) (xs : List ℕ) → n ≤ length xs → list_any is_feed (take n xs) ≡ false → Some p ≡ position is_feed (drop n xs) → Some (n + p) ≡ position is_feed xs
found_after n p xs h plain e =
    let all = skip n xs h plain in
    let found : (p ≡ position_or_len is_feed (drop n xs)) × (p < length (drop n xs)) = grind (arith, nat_tests) in
    let long = length-drop n xs in
    grind (arith, nat_tests)

pub none_after : (n : ℕ) (xs : List ℕ) → n ≤ length xs → list_any is_feed (take n xs) ≡ false → None ≡ position is_feed (drop n xs) → None ≡ position is_feed xs
none_after n xs h plain e =
    let all = skip n xs h plain in
    let past : length (drop n xs) ≤ position_or_len is_feed (drop n xs) = grind (arith, nat_tests) in
    let long = length-drop n xs in
    grind (arith, nat_tests)

plain_longer : (b : ℕ) (bs : List ℕ) → (length bs ≤ position_or_len is_feed bs → list_any is_feed bs ≡ false) → (t : Bool) → is_feed b ≡ t
    → suc (length bs) ≤ position_or_len is_feed (b ∷ bs) → list_any is_feed (b ∷ bs) ≡ false
plain_longer b bs later true e h = let p = place_here b bs e in absurd (omega arith)
plain_longer b bs later false e h = let p = place_later b bs e in rw e (later (omega arith))

plain_all : (xs : List ℕ) → length xs ≤ position_or_len is_feed xs → list_any is_feed xs ≡ false
plain_all [] h = refl
plain_all (b ∷ bs) h = plain_longer b bs (plain_all bs) (is_feed b) refl h

pub none_plain : (xs : List ℕ) → None ≡ position is_feed xs → list_any is_feed xs ≡ false
none_plain xs e = let past : length xs ≤ position_or_len is_feed xs = grind (arith, nat_tests) in plain_all xs past

-- a slice to the end
pub rest_is : (n : ℕ) (xs : List ℕ) → n ≤ length xs → take (length xs - n) (drop n xs) ≡ drop n xs
rest_is n xs h = take_all (length xs - n) (drop n xs) (omega (arith, length-drop n xs))

pub plain_rest : (n : ℕ) (xs rest : List ℕ) → n ≤ length xs → rest ≡ take (length xs - n) (drop n xs) → None ≡ position is_feed rest
    → list_any is_feed (take (length rest) (drop n xs)) ≡ false
plain_rest n xs rest h e none =
    let all = e ∙ rest_is n xs h in
    ap (λ l. list_any is_feed (take (length rest) l)) (sym all) ∙ ap (list_any is_feed) (take_all (length rest) rest (omega arith)) ∙ none_plain rest none
