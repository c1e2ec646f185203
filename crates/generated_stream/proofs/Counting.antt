-- Lines, one after another.
use Rattle.std.proofs.Common.{◌≡◌, ◌≢◌, ◌≤◌, ◌<◌, ◌+◌, ◌-◌, ℕ, Bool, true, false, List, [], ◌∷◌, None, Some, length, take, drop, if◌then◌else◌, arith, ap, sym, ◌∙◌, refl, length-take, length-drop}
use Rattle.std.specs.Prelude.{slice_index}
use Rattle.std.proofs.lemmas.List.Sums.{position_or_len_is, fails_before_first}
use Rattle.std.proofs.lemmas.List.Splits.{slice_split_first, slice_split_none}
use Rattle.xsv_io.proofs.Pieces.{from_on}
use Rattle.memchr.specs.Find.{IsFirstByte, is_byte}
use Rattle.generated_stream.specs.Summaries.{begins, lines, count_of}

-- what is not true is false
untrue : (b : Bool) → b ≢ true → b ≡ false
untrue true h = absurd (h refl)
untrue false h = refl

-- no line ends in a text without a line feed
pub one_line : (text : List ℕ) → IsFirstByte (is_byte 10) text None → lines text ≡ text ∷ []
one_line text nowhere =
    let at = position_or_len_is (is_byte 10) text (length text) 0 (omega arith) (λ k h. untrue (is_byte 10 (slice_index text k)) (nowhere k (omega arith) h)) (λ h. absurd (omega arith)) in
    slice_split_none (is_byte 10) text (λ k d h. fails_before_first (is_byte 10) text k d (omega (arith, at, h)))

-- the first line ends at the first line feed
pub first_line : (text : List ℕ) (n : ℕ) → IsFirstByte (is_byte 10) text (Some n) → lines text ≡ take n text ∷ lines (take (length text - (n + 1)) (drop (n + 1) text))
first_line text n found =
    let at = position_or_len_is (is_byte 10) text n 0 (omega (arith, found.0.high)) (λ k h. untrue (is_byte 10 (slice_index text k)) (found.0.before k (omega arith) h)) (λ h. found.1) in
    let split = slice_split_first (is_byte 10) text 0 (omega (arith, at, found.0.high)) in
    split ∙ ap (λ k. take k text ∷ lines (drop (k + 1) text)) at ∙ ap (λ l. take n text ∷ lines l) (sym (from_on text (n + 1)))

-- and the rest is shorter
pub rest_is_shorter : (text : List ℕ) (n : ℕ) → n < length text → length text ≡ length (take n text) + 1 + length (take (length text - (n + 1)) (drop (n + 1) text))
rest_is_shorter text n h =
    omega (arith, h, length-take n text, length-drop (n + 1) text, length-take (length text - (n + 1)) (drop (n + 1) text))

-- a line is counted
pub counted_more : (front : List ℕ) (all a b : ℕ) (text line behind : List ℕ) → all ≡ a + count_of front (lines text) → lines text ≡ line ∷ lines behind
    → b ≡ a + (if begins front line then 1 else 0) → all ≡ b + count_of front (lines behind)
counted_more front all a b text line behind e l n =
    let same = ap (count_of front) l in
    omega (arith, e, same, n)

-- the last line is counted
pub counted_last : (front : List ℕ) (all a b : ℕ) (text : List ℕ) → all ≡ a + count_of front (lines text) → lines text ≡ text ∷ []
    → b ≡ a + (if begins front text then 1 else 0) → all ≡ b
counted_last front all a b text e l n =
    let same = ap (count_of front) l in
    omega (arith, e, same, n)

-- there are no more lines than bytes
pub few_more : (is : Bool) (a b most text line behind : ℕ) → a + text ≤ most → text ≡ line + 1 + behind → b ≡ a + (if is then 1 else 0) → b + behind ≤ most
few_more true a b most text line behind e l n = omega (arith, e, l, n)
few_more false a b most text line behind e l n = omega (arith, e, l, n)
