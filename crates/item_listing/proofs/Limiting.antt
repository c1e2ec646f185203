-- The limits of a stream and of a line, by how many bytes there are.
use Rattle.std.proofs.Common.{◌≡◌, ℕ, ◌+◌, ◌<◌, ◌≤◌, List, [], ◌∷◌, ◌++◌, Some, None, Bool, true, false, length, refl, arith, nat_le}
use Rattle.std.proofs.lemmas.Bool.Decides.{nat_tests}
use Rattle.item_listing.specs.declared.item.Reason.{Reason}
use Rattle.item_listing.specs.declared.item.Reason.TheVariants.{TooManyBytes, LineTooLong}
use Rattle.item_listing.specs.declared.limits.TheConstants.{MOST_BYTES, MOST_LINE}
use Rattle.item_listing.specs.Limits.{past_limit}

within : (most n : ℕ) → n < most → nat_le most n ≡ false
within most n h = grind (arith, nat_tests)

is_within : (most n : ℕ) → nat_le most n ≡ false → n < most
is_within most n e = grind (arith, nat_tests)

pub fits : (bytes place : ℕ) (line : List ℕ) → bytes + length line ≤ MOST_BYTES → place + length line ≤ MOST_LINE → past_limit bytes place line ≡ None
fits bytes place [] h k = refl
fits bytes place (b ∷ more) h k =
    rw (within MOST_BYTES bytes (omega arith), within MOST_LINE place (omega arith)) (fits (bytes + 1) (place + 1) more (omega arith) (omega arith))

bytes_first : (bytes place b : ℕ) (more : List ℕ) → bytes ≤ MOST_BYTES → place + MOST_BYTES ≤ MOST_LINE + bytes
    → (bytes + 1 ≤ MOST_BYTES → past_limit (bytes + 1) (place + 1) more ≡ Some TooManyBytes)
    → (t : Bool) → nat_le MOST_BYTES bytes ≡ t → past_limit bytes place (b ∷ more) ≡ Some TooManyBytes
bytes_first bytes place b more h k later true e = rw e refl
bytes_first bytes place b more h k later false e =
    let few = is_within MOST_BYTES bytes e in
    rw (e, within MOST_LINE place (omega (arith, few))) (later (omega (arith, few)))

pub passes_bytes : (bytes place : ℕ) (line : List ℕ) → MOST_BYTES < bytes + length line → bytes ≤ MOST_BYTES → place + MOST_BYTES ≤ MOST_LINE + bytes
    → past_limit bytes place line ≡ Some TooManyBytes
passes_bytes bytes place [] h few k = absurd (omega arith)
passes_bytes bytes place (b ∷ more) h few k =
    bytes_first bytes place b more few k (λ f. passes_bytes (bytes + 1) (place + 1) more (omega arith) f (omega arith)) (nat_le MOST_BYTES bytes) refl

line_first : (bytes place b : ℕ) (more : List ℕ) → place ≤ MOST_LINE → MOST_LINE + bytes < place + MOST_BYTES
    → (place + 1 ≤ MOST_LINE → past_limit (bytes + 1) (place + 1) more ≡ Some LineTooLong)
    → (t : Bool) → nat_le MOST_LINE place ≡ t → past_limit bytes place (b ∷ more) ≡ Some LineTooLong
line_first bytes place b more h k later true e = rw (within MOST_BYTES bytes (omega arith), e) refl
line_first bytes place b more h k later false e =
    let few = is_within MOST_LINE place e in
    rw (within MOST_BYTES bytes (omega arith), e) (later (omega (arith, few)))

pub passes_line : (bytes place : ℕ) (line : List ℕ) → MOST_LINE < place + length line → place ≤ MOST_LINE → MOST_LINE + bytes < place + MOST_BYTES
    → past_limit bytes place line ≡ Some LineTooLong
passes_line bytes place [] h few k = absurd (omega arith)
passes_line bytes place (b ∷ more) h few k =
    line_first bytes place b more few k (λ f. passes_line (bytes + 1) (place + 1) more (omega arith) f (omega arith)) (nat_le MOST_LINE place) refl

-- further bytes do not change which is the first past a limit
more_first : (bytes place b : ℕ) (more ys : List ℕ) (reason : Reason)
    → (past_limit (bytes + 1) (place + 1) more ≡ Some reason → past_limit (bytes + 1) (place + 1) (more ++ ys) ≡ Some reason)
    → (t u : Bool) → nat_le MOST_BYTES bytes ≡ t → nat_le MOST_LINE place ≡ u
    → past_limit bytes place (b ∷ more) ≡ Some reason → past_limit bytes place (b ∷ (more ++ ys)) ≡ Some reason
more_first bytes place b more ys reason later true u e f h = rw e (rw e at h)
more_first bytes place b more ys reason later false true e f h = rw (e, f) (rw (e, f) at h)
more_first bytes place b more ys reason later false false e f h = rw (e, f) (later (rw (e, f) at h))

pub past_limit-more : (bytes place : ℕ) (xs ys : List ℕ) (reason : Reason) → past_limit bytes place xs ≡ Some reason → past_limit bytes place (xs ++ ys) ≡ Some reason
past_limit-more bytes place [] ys reason h = cc
past_limit-more bytes place (b ∷ more) ys reason h =
    more_first bytes place b more ys reason (past_limit-more (bytes + 1) (place + 1) more ys reason) (nat_le MOST_BYTES bytes) (nat_le MOST_LINE place) refl refl h

-- where no limit is passed
none_first : (bytes place b : ℕ) (more : List ℕ) → (bytes + 1 ≤ MOST_BYTES → past_limit (bytes + 1) (place + 1) more ≡ None → bytes + 1 + length more ≤ MOST_BYTES)
    → (t u : Bool) → nat_le MOST_BYTES bytes ≡ t → nat_le MOST_LINE place ≡ u → past_limit bytes place (b ∷ more) ≡ None → bytes + length (b ∷ more) ≤ MOST_BYTES
none_first bytes place b more later true u e f h = let no : Some TooManyBytes ≡ None = rw e at h in cc
none_first bytes place b more later false true e f h = let no : Some LineTooLong ≡ None = rw (e, f) at h in cc
none_first bytes place b more later false false e f h =
    let few = is_within MOST_BYTES bytes e in
    let all = later (omega (arith, few)) (rw (e, f) at h) in
    omega (arith, all)

pub past_limit-none : (bytes place : ℕ) (line : List ℕ) → bytes ≤ MOST_BYTES → past_limit bytes place line ≡ None → bytes + length line ≤ MOST_BYTES
past_limit-none bytes place [] few h = omega arith
past_limit-none bytes place (b ∷ more) few h =
    none_first bytes place b more (past_limit-none (bytes + 1) (place + 1) more) (nat_le MOST_BYTES bytes) (nat_le MOST_LINE place) refl refl h
