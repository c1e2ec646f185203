-- Regular expressions as the standard builds them up (Datatypes, appendix F), how each is written, and what it means.
use Rattle.std.specs.Prelude.{ℕ, min, Bool, true, false, not, ◌&&◌, ◌||◌, ◌==◌, nat_le, if◌then◌else◌, List, [], ◌∷◌, ◌++◌, Option, Some, None}
use Rattle.std.specs.List.{list_all}
use Rattle.std.specs.Option.{unwrap_or}
use Rattle.std.specs.Str.Parse.{digits_value}
use Rattle.pattern_syntax.specs.declared.class.ClassItem.{ClassItem}
use Rattle.pattern_syntax.specs.declared.class.ClassItem.TheVariants.{One, Range, In, NotIn}
use Rattle.pattern_syntax.specs.declared.set.CharSet.TheVariants.{NotLineEnd}
use Rattle.pattern_syntax.specs.Classes.{Group, Class}
use Rattle.pattern_syntax.specs.Regex.{Regex, character, repeated, sequence_of, choice_of}
use Rattle.pattern_syntax.specs.Characters.{is_normal, is_plain, is_single, single_value, several_item, is_ascii_digit, is_word}
use Rattle.pattern_syntax.specs.Names.{set_named}

-- F.1.1, an escape of several characters: a letter behind the backslash, or a class name in braces behind \p or \P
pub data Escape : Type 0 where
  several : (letter : ℕ) → Escape
  property : (complement : Bool) (name : List ℕ) → Escape

-- F.1, one character of a class: itself, or escaped by what stands behind the backslash
pub data Letter : Type 0 where
  plain : (c : ℕ) → Letter
  escaped : (e : ℕ) → Letter

-- F.1, a part of a character group
pub data Part : Type 0 where
  one : (letter : Letter) → Part
  range : (first last : Letter) → Part
  set : (escape : Escape) → Part

-- F.1, a character group: perhaps `^`, perhaps a hyphen for itself, parts, perhaps a hyphen for itself
pub record Members : Type 0 where
  pub negated : Bool
  pub first_hyphen : Bool
  pub parts : List Part
  pub last_hyphen : Bool

-- F.1, a class expression in brackets: a group alone, or less another class expression
pub data Bracketed : Type 0 where
  only : (members : Members) → Bracketed
  less : (members : Members) (subtracted : Bracketed) → Bracketed

-- F, productions 4 to 8: `?`, `*`, `+`, {n}, {n,}, {n,m}, by their digits, or none
pub data Quantifier : Type 0 where
  once : Quantifier
  optional : Quantifier
  any_number : Quantifier
  at_least_once : Quantifier
  exactly : (digits : List ℕ) → Quantifier
  at_least : (digits : List ℕ) → Quantifier
  between : (least most : List ℕ) → Quantifier

-- F, productions 1 to 3 and 9: an expression is branches joined by `|`, a branch is pieces, perhaps none, and a piece
-- is an atom with its quantifier
mutual
  pub data RegExp : Type 0 where
    alone : (branch : Branch) → RegExp
    joined : (branch : Branch) (branches : RegExp) → RegExp

  pub data Branch : Type 0 where
    no_piece : Branch
    piece : (atom : Atom) (quantifier : Quantifier) (pieces : Branch) → Branch

  pub data Atom : Type 0 where
    normal : (c : ℕ) → Atom
    wildcard : Atom
    single : (e : ℕ) → Atom
    special : (of : Escape) → Atom
    bracketed : (class : Bracketed) → Atom
    group : (inside : RegExp) → Atom

-- ---- how each is written

abbrev pub escape_text : Escape → List ℕ
escape_text (several letter) = 92 ∷ letter ∷ []
escape_text (property complement name) = 92 ∷ (if complement then 80 else 112) ∷ 123 ∷ (name ++ 125 ∷ [])

abbrev pub letter_text : Letter → List ℕ
letter_text (plain c) = c ∷ []
letter_text (escaped e) = 92 ∷ e ∷ []

abbrev pub part_text : Part → List ℕ
part_text (one letter) = letter_text letter
part_text (range first last) = letter_text first ++ 45 ∷ letter_text last
part_text (set escape) = escape_text escape

abbrev pub parts_text : List Part → List ℕ
parts_text [] = []
parts_text (part ∷ parts) = part_text part ++ parts_text parts

abbrev pub sign : Bool → ℕ → List ℕ
sign true c = c ∷ []
sign false c = []

-- the parts with their hyphens
abbrev pub body_text : Members → List ℕ
body_text m = sign m.first_hyphen 45 ++ (parts_text m.parts ++ sign m.last_hyphen 45)

abbrev pub bracketed_text : Bracketed → List ℕ
bracketed_text (only m) = 91 ∷ (sign m.negated 94 ++ (body_text m ++ 93 ∷ []))
bracketed_text (less m subtracted) = 91 ∷ (sign m.negated 94 ++ (body_text m ++ 45 ∷ (bracketed_text subtracted ++ 93 ∷ [])))

abbrev pub quantifier_text : Quantifier → List ℕ
quantifier_text once = []
quantifier_text optional = 63 ∷ []
quantifier_text any_number = 42 ∷ []
quantifier_text at_least_once = 43 ∷ []
quantifier_text (exactly digits) = 123 ∷ (digits ++ 125 ∷ [])
quantifier_text (at_least digits) = 123 ∷ (digits ++ 44 ∷ 125 ∷ [])
quantifier_text (between least most) = 123 ∷ (least ++ 44 ∷ (most ++ 125 ∷ []))

abbrev mutual
  pub regexp_text : RegExp → List ℕ
  regexp_text (alone branch) = branch_text branch
  regexp_text (joined branch branches) = branch_text branch ++ 124 ∷ regexp_text branches

  pub branch_text : Branch → List ℕ
  branch_text no_piece = []
  branch_text (piece atom quantifier pieces) = atom_text atom ++ (quantifier_text quantifier ++ branch_text pieces)

  pub atom_text : Atom → List ℕ
  atom_text (normal c) = c ∷ []
  atom_text wildcard = 46 ∷ []
  atom_text (single e) = 92 ∷ e ∷ []
  atom_text (special of) = escape_text of
  atom_text (bracketed class) = bracketed_text class
  atom_text (group inside) = 40 ∷ (regexp_text inside ++ 41 ∷ [])

-- ---- which are well formed

-- the character that the letter stands for
abbrev pub letter_value : Letter → ℕ
letter_value (plain c) = c
letter_value (escaped e) = single_value e

-- the number that decimal digits write
abbrev pub number : List ℕ → ℕ
number digits = digits_value 10 digits

abbrev pub is_some : {A : Type 0} → Option A → Bool
is_some None = false
is_some (Some a) = true

abbrev pub is_given : {A : Type 0} → List A → Bool
is_given [] = false
is_given (x ∷ xs) = true

abbrev pub is_escape : Escape → Bool
is_escape (several letter) = is_some (several_item letter)
is_escape (property complement name) = is_given name && list_all is_word name

abbrev pub is_letter : Letter → Bool
is_letter (plain c) = is_plain c
is_letter (escaped e) = is_single e

-- the ends of a range are in order
abbrev pub is_part : Part → Bool
is_part (one letter) = is_letter letter
is_part (range first last) = is_letter first && is_letter last && nat_le (letter_value first) (letter_value last)
is_part (set escape) = is_escape escape

abbrev pub begins : ℕ → List ℕ → Bool
begins c [] = false
begins c (d ∷ ds) = d == c

-- There is a part or a hyphen, and one hyphen alone counts as the first. `^` in front is always the negation.
abbrev pub is_members : Members → Bool
is_members m = list_all is_part m.parts && (m.first_hyphen || is_given m.parts) && (m.negated || not (begins 94 (body_text m)))

abbrev pub is_bracketed : Bracketed → Bool
is_bracketed (only m) = is_members m
is_bracketed (less m subtracted) = is_members m && is_bracketed subtracted

abbrev pub are_digits : List ℕ → Bool
are_digits digits = is_given digits && list_all is_ascii_digit digits

abbrev pub is_quantifier : Quantifier → Bool
is_quantifier once = true
is_quantifier optional = true
is_quantifier any_number = true
is_quantifier at_least_once = true
is_quantifier (exactly digits) = are_digits digits
is_quantifier (at_least digits) = are_digits digits
is_quantifier (between least most) = are_digits least && are_digits most && nat_le (number least) (number most)

abbrev mutual
  pub is_regexp : RegExp → Bool
  is_regexp (alone branch) = is_branch branch
  is_regexp (joined branch branches) = is_branch branch && is_regexp branches

  pub is_branch : Branch → Bool
  is_branch no_piece = true
  is_branch (piece atom quantifier pieces) = is_atom atom && is_quantifier quantifier && is_branch pieces

  pub is_atom : Atom → Bool
  is_atom (normal c) = is_normal c
  is_atom wildcard = true
  is_atom (single e) = is_single e
  is_atom (special of) = is_escape of
  is_atom (bracketed class) = is_bracketed class
  is_atom (group inside) = is_regexp inside

-- ---- what each means

-- The item of a class name. A name that is not accepted has none, and its text is refused.
abbrev pub property_item : Bool → List ℕ → ClassItem
property_item complement name = if complement then NotIn (unwrap_or (set_named name) NotLineEnd) else In (unwrap_or (set_named name) NotLineEnd)

abbrev pub escape_item : Escape → ClassItem
escape_item (several letter) = unwrap_or (several_item letter) (In NotLineEnd)
escape_item (property complement name) = property_item complement name

abbrev pub part_item : Part → ClassItem
part_item (one letter) = One (letter_value letter)
part_item (range first last) = Range (letter_value first) (letter_value last)
part_item (set escape) = escape_item escape

abbrev pub parts_items : List Part → List ClassItem
parts_items [] = []
parts_items (part ∷ parts) = part_item part ∷ parts_items parts

abbrev pub hyphen : Bool → List ClassItem
hyphen true = One 45 ∷ []
hyphen false = []

abbrev pub members_group : Members → Group
members_group m = record { negated = m.negated; items = hyphen m.first_hyphen ++ (parts_items m.parts ++ hyphen m.last_hyphen) }

abbrev pub bracketed_class : Bracketed → Class
bracketed_class (only m) = members_group m ∷ []
bracketed_class (less m subtracted) = members_group m ∷ bracketed_class subtracted

-- the class of one item
abbrev pub item_regex : ClassItem → Regex
item_regex item = character (record { negated = false; items = item ∷ [] } ∷ [])

-- a quantifier's number; one past 4,096 is refused, and counts as 4,097
abbrev pub bound : List ℕ → ℕ
bound digits = min (number digits) 4097

abbrev pub quantified : Regex → Quantifier → Regex
quantified r once = r
quantified r optional = repeated r 0 (Some 1)
quantified r any_number = repeated r 0 None
quantified r at_least_once = repeated r 1 None
quantified r (exactly digits) = repeated r (bound digits) (Some (bound digits))
quantified r (at_least digits) = repeated r (bound digits) None
quantified r (between least most) = repeated r (bound least) (Some (bound most))

abbrev mutual
  -- the branches' expressions
  pub branches_of : RegExp → List Regex
  branches_of (alone branch) = sequence_of (pieces_of branch) ∷ []
  branches_of (joined branch branches) = sequence_of (pieces_of branch) ∷ branches_of branches

  -- the pieces' expressions
  pub pieces_of : Branch → List Regex
  pieces_of no_piece = []
  pieces_of (piece atom quantifier pieces) = quantified (atom_regex atom) quantifier ∷ pieces_of pieces

  pub atom_regex : Atom → Regex
  atom_regex (normal c) = item_regex (One c)
  atom_regex wildcard = item_regex (In NotLineEnd)
  atom_regex (single e) = item_regex (One (single_value e))
  atom_regex (special of) = item_regex (escape_item of)
  atom_regex (bracketed class) = character (bracketed_class class)
  atom_regex (group inside) = choice_of (branches_of inside)

abbrev pub meaning : RegExp → Regex
meaning regexp = choice_of (branches_of regexp)

-- ---- its class names and numbers, in order

abbrev pub escape_names : Escape → List (List ℕ)
escape_names (several letter) = []
escape_names (property complement name) = name ∷ []

abbrev pub part_names : Part → List (List ℕ)
part_names (one letter) = []
part_names (range first last) = []
part_names (set escape) = escape_names escape

abbrev pub parts_names : List Part → List (List ℕ)
parts_names [] = []
parts_names (part ∷ parts) = part_names part ++ parts_names parts

abbrev pub bracketed_names : Bracketed → List (List ℕ)
bracketed_names (only m) = parts_names m.parts
bracketed_names (less m subtracted) = parts_names m.parts ++ bracketed_names subtracted

abbrev pub quantifier_numbers : Quantifier → List ℕ
quantifier_numbers once = []
quantifier_numbers optional = []
quantifier_numbers any_number = []
quantifier_numbers at_least_once = []
quantifier_numbers (exactly digits) = number digits ∷ []
quantifier_numbers (at_least digits) = number digits ∷ []
quantifier_numbers (between least most) = number least ∷ number most ∷ []

abbrev mutual
  pub regexp_names : RegExp → List (List ℕ)
  regexp_names (alone branch) = branch_names branch
  regexp_names (joined branch branches) = branch_names branch ++ regexp_names branches

  pub branch_names : Branch → List (List ℕ)
  branch_names no_piece = []
  branch_names (piece atom quantifier pieces) = atom_names atom ++ branch_names pieces

  pub atom_names : Atom → List (List ℕ)
  atom_names (normal c) = []
  atom_names wildcard = []
  atom_names (single e) = []
  atom_names (special of) = escape_names of
  atom_names (bracketed class) = bracketed_names class
  atom_names (group inside) = regexp_names inside

abbrev mutual
  pub regexp_numbers : RegExp → List ℕ
  regexp_numbers (alone branch) = branch_numbers branch
  regexp_numbers (joined branch branches) = branch_numbers branch ++ regexp_numbers branches

  pub branch_numbers : Branch → List ℕ
  branch_numbers no_piece = []
  branch_numbers (piece atom quantifier pieces) = atom_numbers atom ++ (quantifier_numbers quantifier ++ branch_numbers pieces)

  pub atom_numbers : Atom → List ℕ
  atom_numbers (normal c) = []
  atom_numbers wildcard = []
  atom_numbers (single e) = []
  atom_numbers (special of) = []
  atom_numbers (bracketed class) = []
  atom_numbers (group inside) = regexp_numbers inside
