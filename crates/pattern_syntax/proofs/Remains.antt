-- What may follow where a reader stands, by the grammar.
use Rattle.std.proofs.Common.{◌≡◌, ℕ, zero, suc, Bool, true, false, ◌||◌, nat_le, if◌then◌else◌, List, ◌∷◌, ◌++◌, length, Option, Some, None, ◌⊎◌}
use Rattle.std.specs.List.{list_all}
use Rattle.pattern_syntax.specs.Characters.{is_ascii_digit, is_word, is_single, single_value}
use Rattle.pattern_syntax.specs.Grammar.{RegExp, Atom, Quantifier, Bracketed, Part, Letter, Escape, regexp_text, atom_text, quantifier_text, bracketed_text, parts_text, letter_text, escape_text, sign, is_regexp, is_atom, is_quantifier, is_bracketed, is_part, is_letter, is_escape, letter_value, are_digits, is_given}
use Rattle.pattern_syntax.specs.Machine.{Within, in_branch, in_class, Stage, at_piece, at_least_digits, at_most_digits, at_backslash, at_property, at_name, at_class, at_first, at_part, at_hyphen, at_less, at_range_escape, at_end, State}

-- the rest of an expression, to the end
pub record Whole (cs : List ℕ) : Type 0 where
  pub regexp : RegExp
  pub good : is_regexp regexp ≡ true
  pub spelled : cs ≡ regexp_text regexp

-- the rest of a group, with its end, and then what is next
pub record Closed (Next : List ℕ → Type 0) (cs : List ℕ) : Type 0 where
  pub regexp : RegExp
  pub rest : List ℕ
  pub good : is_regexp regexp ≡ true
  pub spelled : cs ≡ regexp_text regexp ++ 41 ∷ rest
  pub next : Next rest

-- a quantifier, perhaps none
pub record Quantified (Next : List ℕ → Type 0) (cs : List ℕ) : Type 0 where
  pub quantifier : Quantifier
  pub rest : List ℕ
  pub good : is_quantifier quantifier ≡ true
  pub spelled : cs ≡ quantifier_text quantifier ++ rest
  pub next : Next rest

pub record WithAtom (Next : List ℕ → Type 0) (cs : List ℕ) : Type 0 where
  pub atom : Atom
  pub rest : List ℕ
  pub good : is_atom atom ≡ true
  pub spelled : cs ≡ atom_text atom ++ rest
  pub next : Next rest

-- the rest inside so many open groups
abbrev pub Tail : ℕ → List ℕ → Type 0
Tail zero cs = Whole cs
Tail (suc n) cs = Closed (Quantified (Tail n)) cs

-- ---- in a class; E is what follows the end of its group in hand

pub record WithClass (E : List ℕ → Type 0) (cs : List ℕ) : Type 0 where
  pub class : Bracketed
  pub rest : List ℕ
  pub good : is_bracketed class ≡ true
  pub spelled : cs ≡ bracketed_text class ++ rest
  pub next : E rest

pub record OneEnd (Next : List ℕ → Type 0) (cs : List ℕ) : Type 0 where
  pub rest : List ℕ
  pub spelled : cs ≡ 93 ∷ rest
  pub next : Next rest

abbrev pub Ends : ℕ → (List ℕ → Type 0) → List ℕ → Type 0
Ends zero Next cs = Next cs
Ends (suc more) Next cs = OneEnd (Ends more Next) cs

-- a class to subtract, and the end
pub record WithLess (E : List ℕ → Type 0) (cs : List ℕ) : Type 0 where
  pub class : Bracketed
  pub rest : List ℕ
  pub good : is_bracketed class ≡ true
  pub spelled : cs ≡ 45 ∷ (bracketed_text class ++ 93 ∷ rest)
  pub next : E rest

abbrev pub Ending : (List ℕ → Type 0) → List ℕ → Type 0
Ending E cs = OneEnd E cs ⊎ WithLess E cs

-- more parts, perhaps a hyphen, and the end of the group
pub record WithParts (E : List ℕ → Type 0) (cs : List ℕ) : Type 0 where
  pub parts : List Part
  pub hyphen : Bool
  pub rest : List ℕ
  pub good : list_all is_part parts ≡ true
  pub spelled : cs ≡ parts_text parts ++ (sign hyphen 45 ++ rest)
  pub next : Ending E rest

-- the rest of a range from this character, and then more parts
pub record WithRange (E : List ℕ → Type 0) (first : ℕ) (cs : List ℕ) : Type 0 where
  pub last : Letter
  pub rest : List ℕ
  pub good : is_letter last ≡ true
  pub order : nat_le first (letter_value last) ≡ true
  pub spelled : cs ≡ 45 ∷ (letter_text last ++ rest)
  pub next : WithParts E rest

abbrev pub BehindPart : (List ℕ → Type 0) → Option ℕ → List ℕ → Type 0
BehindPart E None cs = WithParts E cs
BehindPart E (Some first) cs = WithParts E cs ⊎ WithRange E first cs

-- all of a group but its sign
pub record WithBody (E : List ℕ → Type 0) (cs : List ℕ) : Type 0 where
  pub first_hyphen : Bool
  pub parts : List Part
  pub hyphen : Bool
  pub rest : List ℕ
  pub good : list_all is_part parts ≡ true
  pub given : (first_hyphen || is_given parts) ≡ true
  pub spelled : cs ≡ sign first_hyphen 45 ++ (parts_text parts ++ (sign hyphen 45 ++ rest))
  pub next : Ending E rest

-- behind a backslash: an escape of one character, or with the backslash one of several
pub record WithSingle (E : List ℕ → Type 0) (cs : List ℕ) : Type 0 where
  pub e : ℕ
  pub rest : List ℕ
  pub good : is_single e ≡ true
  pub spelled : cs ≡ e ∷ rest
  pub next : BehindPart E (Some (single_value e)) rest

pub record WithEscape (E : List ℕ → Type 0) (cs : List ℕ) : Type 0 where
  pub of : Escape
  pub rest : List ℕ
  pub good : is_escape of ≡ true
  pub spelled : cs ≡ escape_text of ++ rest
  pub next : WithParts E rest

-- ---- by where the reader stands

abbrev pub letter_of : Bool → ℕ
letter_of complement = if complement then 80 else 112

-- an escape of several characters
abbrev pub EscapeRemains : Within → ℕ → List ℕ → Type 0
EscapeRemains in_branch n cs = WithAtom (Quantified (Tail n)) cs
EscapeRemains (in_class k) n cs = WithEscape (Ends (length k.groups) (Quantified (Tail n))) cs

abbrev pub BackslashRemains : Within → ℕ → List ℕ → Type 0
BackslashRemains in_branch n cs = WithAtom (Quantified (Tail n)) (92 ∷ cs)
BackslashRemains (in_class k) n cs = WithSingle (Ends (length k.groups) (Quantified (Tail n))) cs ⊎ WithEscape (Ends (length k.groups) (Quantified (Tail n))) (92 ∷ cs)

abbrev pub RemainsIn : Stage → ℕ → List ℕ → Type 0
RemainsIn (at_piece false) n cs = Tail n cs
RemainsIn (at_piece true) n cs = Quantified (Tail n) cs
RemainsIn (at_least_digits digits) n cs = Quantified (Tail n) (123 ∷ (digits ++ cs))
RemainsIn (at_most_digits least digits) n cs = Quantified (Tail n) (123 ∷ (least ++ 44 ∷ (digits ++ cs)))
RemainsIn (at_backslash w) n cs = BackslashRemains w n cs
RemainsIn (at_property w complement) n cs = EscapeRemains w n (92 ∷ letter_of complement ∷ cs)
RemainsIn (at_name w complement name) n cs = EscapeRemains w n (92 ∷ letter_of complement ∷ 123 ∷ (name ++ cs))
RemainsIn (at_class k) n cs = WithClass (Ends (length k.groups) (Quantified (Tail n))) (91 ∷ cs)
RemainsIn (at_first k) n cs = WithBody (Ends (length k.groups) (Quantified (Tail n))) cs
RemainsIn (at_part k first) n cs = BehindPart (Ends (length k.groups) (Quantified (Tail n))) first cs
RemainsIn (at_hyphen k first) n cs = BehindPart (Ends (length k.groups) (Quantified (Tail n))) first (45 ∷ cs)
RemainsIn (at_less k) n cs = WithParts (Ends (length k.groups) (Quantified (Tail n))) (45 ∷ 45 ∷ cs)
RemainsIn (at_range_escape k first) n cs = WithRange (Ends (length k.groups) (Quantified (Tail n))) first (45 ∷ 92 ∷ cs)
RemainsIn (at_end k more) n cs = Ends more (Quantified (Tail n)) cs

abbrev pub Remains : State → List ℕ → Type 0
Remains s cs = RemainsIn s.stage (length s.built.outer) cs

-- what is known where the reader stands: the digits and the name are such
abbrev pub Ready : Stage → Type 0
Ready (at_least_digits digits) = list_all is_ascii_digit digits ≡ true
Ready (at_most_digits least digits) = (are_digits least ≡ true) × (list_all is_ascii_digit digits ≡ true)
Ready (at_name w complement name) = list_all is_word name ≡ true
Ready (at_range_escape k first) = nat_le first 125 ≡ true
Ready (at_end k zero) = ⊥
Ready _ = Unit {0}
