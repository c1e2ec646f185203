-- A piece that is read of a buffer with more behind it.
use Rattle.std.proofs.Common.{◌≡◌, ℕ, ◌+◌, ◌-◌, ◌≤◌, ◌<◌, List, ◌++◌, length, take, drop, min, arith, ap, ◌∙◌, append_assoc, length-append, length-drop}
use Rattle.xsv_io.proofs.Pieces.{piece_then_rest}

pub piece_then_more : (xs more into piece : List ℕ) (at n : ℕ) → piece ≡ take (at + n - at) (drop at xs) → n ≤ length xs - at
    → drop at xs ++ more ≡ take n (piece ++ drop n into) ++ (drop (at + n) xs ++ more)
piece_then_more xs more into piece at n e h =
    ap (λ l. l ++ more) (piece_then_rest xs into piece at n e h) ∙ append_assoc (take n (piece ++ drop n into)) (drop (at + n) xs) more

-- nothing was copied into a buffer with room only where the first was at its end
pub at_its_end : (into piece : List ℕ) (left n : ℕ) → n ≡ min (length into) left → length piece ≡ n → n ≡ 0 → 0 < length (piece ++ drop n into) → left ≡ 0
at_its_end into piece left n e long z some = omega (arith, length-append piece (drop n into), length-drop n into)
