-- The parts of a language tag, tested by their places.
use Rattle.std.proofs.Common.{◌≡◌, ℕ, ◌+◌, ◌<◌, ◌==◌, Bool, false, List, [], ◌∷◌, length, refl, arith}
use Rattle.std.specs.List.{list_all, enumerate_from, slice_split}
use Rattle.std.proofs.lemmas.Bool.Decides.{nat_tests}
use Rattle.std.proofs.lemmas.List.Splits.{length-slice_split}
use Rattle.simple_values.specs.Language.{is_part, are_parts, is_hyphen, is_language}

-- whether this is the part that may stand at its place
abbrev pub is_placed : ℕ × List ℕ → Bool
is_placed p = is_part (p.0 == 0) p.1

later_places : (n : ℕ) (parts : List (List ℕ)) → 0 < n → list_all is_placed (enumerate_from n parts) ≡ list_all (is_part false) parts
later_places n [] h = refl
later_places n (part ∷ parts) h =
    let e : (n == 0) ≡ false = grind (arith, nat_tests) in
    rw (e, later_places (n + 1) parts (omega arith)) refl

all_places : (parts : List (List ℕ)) → 0 < length parts → list_all is_placed (enumerate_from 0 parts) ≡ are_parts parts
all_places [] h = absurd (omega arith)
all_places (first ∷ more) h = rw (later_places (0 + 1) more (omega arith)) refl

pub language_by_places : (text : List ℕ) → list_all is_placed (enumerate_from 0 (slice_split is_hyphen text)) ≡ is_language text
language_by_places text = all_places (slice_split is_hyphen text) (omega (arith, length-slice_split is_hyphen text))
