-- Some expressions with how they are written and what they answer.
use Rattle.std.specs.Prelude.{◌≡◌, true, false, List, [], ◌∷◌, Err, codes, refl}
use Rattle.pattern_syntax.specs.declared.fault.PatternFault.TheVariants.{UnsupportedBlock, TooLarge}
use Rattle.pattern_syntax.specs.Grammar.{RegExp, alone, joined, no_piece, piece, normal, special, bracketed, once, exactly, between, only, less, Members, Part, one, range, plain, property, regexp_text, is_regexp}
use Rattle.pattern_syntax.specs.Reading.{answer_of}

abbrev positive : List Part → Members
positive parts = record { negated = false; first_hyphen = false; parts = parts; last_hyphen = false }

abbrev consonants : RegExp
consonants = alone (piece (bracketed (less (positive (range (plain 97) (plain 122) ∷ [])) (only (positive (one (plain 97) ∷ one (plain 101) ∷ []))))) (between (codes "2") (codes "3")) no_piece)

pub example-text : regexp_text consonants ≡ codes "[a-z-[ae]]{2,3}"
example-text = refl

pub example-good : is_regexp consonants ≡ true
example-good = refl

-- a{3,2}
pub example-order : is_regexp (alone (piece (normal 97) (between (codes "3") (codes "2")) no_piece)) ≡ false
example-order = refl

-- a{4097}
pub example-large : answer_of (alone (piece (normal 97) (exactly (codes "4097")) no_piece)) ≡ Err TooLarge
example-large = refl

-- a{4097}|\p{IsGreek}\p{Xx}
pub example-name : answer_of (joined (piece (normal 97) (exactly (codes "4097")) no_piece)
    (alone (piece (special (property false (codes "IsGreek"))) once (piece (special (property false (codes "Xx"))) once no_piece)))) ≡ Err UnsupportedBlock
example-name = refl
