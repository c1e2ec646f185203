-- The first place of a byte, as a search answers it, is its position.
use Rattle.std.proofs.Common.{◌≡◌, ◌≢◌, ℕ, List, Some, None, Option, Bool, true, false, length, refl, arith, position}
use Rattle.std.specs.Prelude.{slice_index}
use Rattle.std.proofs.lemmas.List.Sums.{position_or_len_is}
use Rattle.std.proofs.lemmas.Bool.Decides.{nat_tests}
use Rattle.memchr.specs.Find.{IsFirstByte}

-- what is not true is false
untrue : (b : Bool) → b ≢ true → b ≡ false
untrue true h = absurd (h refl)
untrue false h = refl

pub is_position : (test : ℕ → Bool) (hay : List ℕ) (r : Option ℕ) → IsFirstByte test hay r → r ≡ position test hay
is_position test hay None nowhere =
    let at = position_or_len_is test hay (length hay) 0 (omega arith) (λ k h. untrue (test (slice_index hay k)) (nowhere k (omega arith) h)) (λ h. absurd (omega arith)) in
    grind (arith, nat_tests)
is_position test hay (Some n) found =
    let at = position_or_len_is test hay n 0 (omega (arith, found.0.high)) (λ k h. untrue (test (slice_index hay k)) (found.0.before k (omega arith) h)) (λ h. found.1) in
    let high = found.0.high in
    grind (arith, nat_tests)
