-- What a text reads to (Datatypes, appendix F).
use Rattle.std.specs.Prelude.{◌≡◌, ℕ, ◌≤◌, Bool, if◌then◌else◌, List, [], ◌∷◌, ◌++◌, length, take, Option, Some, None, Result, Ok, Err, IsTrue}
use Rattle.std.specs.List.{list_any}
use Rattle.pattern_syntax.specs.Regex.{Regex}
use Rattle.pattern_syntax.specs.declared.fault.PatternFault.{PatternFault}
use Rattle.pattern_syntax.specs.declared.fault.PatternFault.TheVariants.{Syntax, UnsupportedBlock, UnknownClass, TooLarge}
use Rattle.pattern_syntax.specs.Grammar.{RegExp, regexp_text, is_regexp, regexp_names, regexp_numbers, meaning}
use Rattle.pattern_syntax.specs.Notes.{name_fault, first_of, is_large}

-- the text is this expression, written out
pub record IsWritten (text : List ℕ) (r : RegExp) : Type 0 where
  pub good : IsTrue (is_regexp r)
  pub written : text ≡ regexp_text r

abbrev pub IsPattern : List ℕ → Type 0
IsPattern text = (r : RegExp) × IsWritten text r

-- the text begins some pattern
abbrev pub Begins : List ℕ → Type 0
Begins front = (rest : List ℕ) × IsPattern (front ++ rest)

-- the length of the longest front of the text that begins some pattern
pub record IsLongestFront (text : List ℕ) (place : ℕ) : Type 0 where
  pub within : place ≤ length text
  pub begins : Begins (take place text)
  pub longest : (n : ℕ) → n ≤ length text → Begins (take n text) → n ≤ place

-- the fault of the first class name that is not accepted
abbrev pub first_fault : List (List ℕ) → Option PatternFault
first_fault [] = None
first_fault (name ∷ names) = first_of (name_fault name) (first_fault names)

-- the answer by the fault of a class name and by whether a number is too large
abbrev pub refused_or : Option PatternFault → Bool → Regex → Result Regex PatternFault
refused_or (Some fault) large regex = Err fault
refused_or None large regex = if large then Err TooLarge else Ok regex

-- an expression's answer: what it means, unless a class name or else a number is refused
abbrev pub answer_of : RegExp → Result Regex PatternFault
answer_of r = refused_or (first_fault (regexp_names r)) (list_any is_large (regexp_numbers r)) (meaning r)

-- A text that is no pattern has a Syntax fault with its place. Another text has the answer of an expression that it is.
abbrev pub Reads : List ℕ → Result Regex PatternFault → Type 0
Reads text (Ok regex) = (r : RegExp) × IsWritten text r × (answer_of r ≡ Ok regex)
Reads text (Err (Syntax place)) = (¬ IsPattern text) × IsLongestFront text place
Reads text (Err UnsupportedBlock) = (r : RegExp) × IsWritten text r × (answer_of r ≡ Err UnsupportedBlock)
Reads text (Err UnknownClass) = (r : RegExp) × IsWritten text r × (answer_of r ≡ Err UnknownClass)
Reads text (Err TooLarge) = (r : RegExp) × IsWritten text r × (answer_of r ≡ Err TooLarge)
