-- Pieces between tabs, one at a time.
use Rattle.std.proofs.Common.{◌≡◌, ℕ, ◌+◌, ◌<◌, suc, List, [], ◌∷◌, ◌++◌, Bool, true, false, ◌==◌, length, take, drop, refl, sym, ap, ◌∙◌, arith, append_assoc}
use Rattle.std.specs.List.{position_or_len, before_first, after_first}
use Rattle.std.specs.Str.{IsUtf8}
use Rattle.std.proofs.Math.ListN.{get_or}
use Rattle.std.proofs.lemmas.Str.{IsUtf8-drop, IsCharBoundary-after_ascii}
use Rattle.std.proofs.lemmas.List.Sums.{passes_at_first}
use Rattle.std.proofs.lemmas.Bool.Decides.{nat_tests}
use Rattle.item_listing.specs.Locations.{between_tabs, longer_first}

abbrev pub is_tab : ℕ → Bool
is_tab b = b == 9

at_tab : (b : ℕ) (bs : List ℕ) → is_tab b ≡ true → between_tabs (b ∷ bs) ≡ [] ∷ between_tabs bs
at_tab b bs e = rw e refl

at_other : (b : ℕ) (bs : List ℕ) → is_tab b ≡ false → between_tabs (b ∷ bs) ≡ longer_first b (between_tabs bs)
at_other b bs e = rw e refl

place_here : (b : ℕ) (bs : List ℕ) → is_tab b ≡ true → position_or_len is_tab (b ∷ bs) ≡ 0
place_here b bs e = rw e refl

place_later : (b : ℕ) (bs : List ℕ) → is_tab b ≡ false → position_or_len is_tab (b ∷ bs) ≡ suc (position_or_len is_tab bs)
place_later b bs e = rw e (omega arith)

abbrev pub PartsAtTab : List ℕ → Type 0
PartsAtTab s = between_tabs s ≡ before_first is_tab s ∷ between_tabs (after_first is_tab s)

parts_longer : (b : ℕ) (bs : List ℕ) → (position_or_len is_tab bs < length bs → PartsAtTab bs) → (r : Bool) → is_tab b ≡ r
    → position_or_len is_tab (b ∷ bs) < suc (length bs) → PartsAtTab (b ∷ bs)
parts_longer b bs later true e h = at_tab b bs e ∙ sym (ap (λ n. take n (b ∷ bs) ∷ between_tabs (drop (n + 1) (b ∷ bs))) (place_here b bs e))
parts_longer b bs later false e h =
    let p = place_later b bs e in
    let next : suc (position_or_len is_tab bs) + 1 ≡ suc (position_or_len is_tab bs + 1) = omega arith in
    at_other b bs e ∙ ap (longer_first b) (later (omega arith))
    ∙ sym (ap (λ n. take n (b ∷ bs) ∷ between_tabs (drop (n + 1) (b ∷ bs))) p
    ∙ ap (λ n. take (suc (position_or_len is_tab bs)) (b ∷ bs) ∷ between_tabs (drop n (b ∷ bs))) next)

-- a text up to its first tab
pub between_tabs-at : (s : List ℕ) → position_or_len is_tab s < length s → PartsAtTab s
between_tabs-at [] h = absurd (omega arith)
between_tabs-at (b ∷ bs) h = parts_longer b bs (between_tabs-at bs) (is_tab b) refl h

plain_longer : (b : ℕ) (bs : List ℕ) → (position_or_len is_tab bs ≡ length bs → between_tabs bs ≡ bs ∷ []) → (r : Bool) → is_tab b ≡ r
    → position_or_len is_tab (b ∷ bs) ≡ suc (length bs) → between_tabs (b ∷ bs) ≡ (b ∷ bs) ∷ []
plain_longer b bs later true e h = let p = place_here b bs e in absurd (omega arith)
plain_longer b bs later false e h = let p = place_later b bs e in at_other b bs e ∙ ap (longer_first b) (later (omega arith))

-- a text with no tab
pub between_tabs-plain : (s : List ℕ) → position_or_len is_tab s ≡ length s → between_tabs s ≡ s ∷ []
between_tabs-plain [] h = refl
between_tabs-plain (b ∷ bs) h = plain_longer b bs (between_tabs-plain bs) (is_tab b) refl h

-- one turn of the loop
pub after_tab : (text rest front after piece : List ℕ) (pieces more : List (List ℕ)) → pieces ++ between_tabs rest ≡ between_tabs text
    → (front ≡ before_first is_tab rest) × (after ≡ after_first is_tab rest) × (position_or_len is_tab rest < length rest)
    → more ≡ pieces ++ piece ∷ [] → piece ≡ front → more ++ between_tabs after ≡ between_tabs text
after_tab text rest front after piece pieces more so_far split e1 e2 =
    rw (e1, e2) (append_assoc pieces (front ∷ []) (between_tabs after)
    ∙ ap (λ l. pieces ++ l) (ap (λ f. f ∷ between_tabs after) split.0 ∙ ap (λ a. before_first is_tab rest ∷ between_tabs a) split.1 ∙ sym (between_tabs-at rest split.2))
    ∙ so_far)

-- the end of the loop
pub last_piece : (text rest piece : List ℕ) (pieces more : List (List ℕ)) → pieces ++ between_tabs rest ≡ between_tabs text
    → position_or_len is_tab rest ≡ length rest → more ≡ pieces ++ piece ∷ [] → piece ≡ rest → more ≡ between_tabs text
last_piece text rest piece pieces more so_far plain e1 e2 =
    rw (e1, e2) (ap (λ l. pieces ++ l) (sym (between_tabs-plain rest plain)) ∙ so_far)

-- what stands behind a tab is text
pub text_after_tab : (text after : List ℕ) → IsUtf8 text → after ≡ after_first is_tab text → position_or_len is_tab text < length text → IsUtf8 after
text_after_tab text after whole e some =
    let tab : (get_or text (position_or_len is_tab text) 0 == 9) ≡ true = passes_at_first is_tab text 0 some in
    let ascii : get_or text (position_or_len is_tab text) 0 < 128 = grind (arith, nat_tests, tab) in
    rw e (IsUtf8-drop text (position_or_len is_tab text + 1) whole (IsCharBoundary-after_ascii text (position_or_len is_tab text) whole some ascii))
