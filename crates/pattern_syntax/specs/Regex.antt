-- Regular expressions, and the texts that match them (Datatypes, appendix F): expressions whose symbols are classes of characters.
use Rattle.std.specs.Prelude.{ℕ, List, [], ◌∷◌, Option, false, codes, IsTrue, refl}
use Rattle.std.proofs.Common.{inl, inr}
use Rattle.xs_positions.specs.Expressions.{Expression, one, repeat, sequence_of, choice_of, expression_at}
use Rattle.xs_positions.specs.Words.{IsWordOf}
use Rattle.pattern_syntax.specs.declared.class.ClassItem.TheVariants.{One}
use Rattle.pattern_syntax.specs.Classes.{Class, has}
pub use Rattle.xs_positions.specs.Expressions.{sequence_of, choice_of}

abbrev pub Regex : Type 0
Regex = Expression Class

-- one character of the class
abbrev pub character : Class → Regex
character class = one class

-- so many texts of a part, one after the other
abbrev pub repeated : Regex → ℕ → Option ℕ → Regex
repeated part least most = repeat part least most

-- the expression of a number
abbrev pub regex_at : List Regex → ℕ → Regex
regex_at regexes id = expression_at regexes id

-- The text, as its characters, is in the language of the expression: a class takes one character that it has. So the text
-- is one character of the class; or it is empty; or it splits into a text of the first part and one of the rest; or it is a
-- text of some branch; or it splits into so many texts of the part as the bounds allow.
abbrev pub Matches : Regex → List ℕ → Type 0
Matches regex text = IsWordOf (λ class c. IsTrue (has class c)) regex text

-- `(a|b)c` has the text `bc`: it splits into the text `b` of the second branch, and `c`
abbrev letter : ℕ → Regex
letter c = character (record { negated = false; items = One c ∷ [] } ∷ [])

pub example-matches : Matches (sequence_of (choice_of (letter 97 ∷ letter 98 ∷ []) ∷ letter 99 ∷ [])) (codes "bc")
example-matches = (98 ∷ [], 99 ∷ [], refl, inr (inl (98, refl, refl)), (99 ∷ [], [], refl, (99, refl, refl), refl))
