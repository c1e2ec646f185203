-- What a reader holds behind the characters that it has read, and what each next character makes of it.
use Rattle.std.specs.Prelude.{ℕ, zero, suc, ◌-◌, Bool, true, false, not, ◌&&◌, ◌==◌, nat_le, if◌then◌else◌, List, [], ◌∷◌, ◌++◌, length, Option, Some, None}
use Rattle.pattern_syntax.specs.declared.class.ClassItem.{ClassItem}
use Rattle.pattern_syntax.specs.declared.class.ClassItem.TheVariants.{One, In}
use Rattle.pattern_syntax.specs.declared.set.CharSet.TheVariants.{NotLineEnd}
use Rattle.pattern_syntax.specs.Regex.{Regex, character}
use Rattle.pattern_syntax.specs.declared.fault.Notes.{Notes}
use Rattle.pattern_syntax.specs.Built.{Built, no_frame, with_piece, with_bounds, opened, barred, closed}
use Rattle.pattern_syntax.specs.Classed.{Classed, no_class, with_item, with_range, with_negation, with_group, whole_class}
use Rattle.pattern_syntax.specs.Notes.{with_name, with_number}
use Rattle.pattern_syntax.specs.Characters.{is_normal, is_plain, is_single, single_value, several_item, is_ascii_digit, is_word}
use Rattle.pattern_syntax.specs.Grammar.{property_item, item_regex, number, bound, is_given}

-- whether something stands in a class, and then what has come of that
pub data Within : Type 0 where
  in_branch : Within
  in_class : (class : Classed) → Within

-- What may come next.
pub data Stage : Type 0 where
  -- a piece, or where the last one has no quantifier yet, that
  at_piece : (repeatable : Bool) → Stage
  -- digits behind `{`, and behind `{n,`
  at_least_digits : (digits : List ℕ) → Stage
  at_most_digits : (least digits : List ℕ) → Stage
  -- behind a backslash; behind \p, or \P for the complement; in the name behind \p{
  at_backslash : (within : Within) → Stage
  at_property : (within : Within) (complement : Bool) → Stage
  at_name : (within : Within) (complement : Bool) (name : List ℕ) → Stage
  -- behind the bracket of a class; where a class wants its first part
  at_class : (class : Classed) → Stage
  at_first : (class : Classed) → Stage
  -- behind a part, which may be the first end of a range where it is one character; behind that and a hyphen
  at_part : (class : Classed) (first : Option ℕ) → Stage
  at_hyphen : (class : Classed) (first : Option ℕ) → Stage
  -- behind a hyphen that stands for itself, and another: a class to subtract must come
  at_less : (class : Classed) → Stage
  -- behind the first end of a range, the hyphen and a backslash
  at_range_escape : (class : Classed) (first : ℕ) → Stage
  -- behind the end of a class that is subtracted: so many ends must still come
  at_end : (class : Classed) (more : ℕ) → Stage

pub record State : Type 0 where
  pub stage : Stage
  pub built : Built
  pub noted : Notes

abbrev pub no_notes : Notes
no_notes = record { bad_name = None; too_large = false }

abbrev pub start : State
start = record { stage = at_piece false; built = record { outer = []; here = no_frame }; noted = no_notes }

abbrev pub in_stage : State → Stage → State
in_stage s stage = record { stage = stage; built = s.built; noted = s.noted }

abbrev pub with_notes : State → Notes → State
with_notes s notes = record { stage = s.stage; built = s.built; noted = notes }

-- an atom has come
abbrev pub after_atom : State → Regex → State
after_atom s r = record { stage = at_piece true; built = with_piece s.built r; noted = s.noted }

-- a quantifier has come
abbrev pub after_bounds : State → ℕ → Option ℕ → Notes → State
after_bounds s least most notes = record { stage = at_piece false; built = with_bounds s.built least most; noted = notes }

abbrev pub after_built : State → Bool → Built → State
after_built s repeatable b = record { stage = at_piece repeatable; built = b; noted = s.noted }

-- an item has come: an atom, or a part of a class
abbrev pub give : State → Within → ClassItem → State
give s in_branch item = after_atom s (item_regex item)
give s (in_class k) item = in_stage s (at_part (with_item k item) None)

-- the same of one character, which may begin a range in a class
abbrev pub give_one : State → Within → ℕ → State
give_one s in_branch c = after_atom s (item_regex (One c))
give_one s (in_class k) c = in_stage s (at_part (with_item k (One c)) (Some c))

-- so many ends of the class must still come
abbrev pub closing : State → Classed → ℕ → State
closing s k zero = after_atom s (character (whole_class k))
closing s k (suc more) = in_stage s (at_end k (suc more))

abbrev pub closed_class : State → Classed → State
closed_class s k = closing s k (length k.groups)

-- ---- what a character makes of a state; none where no pattern goes on so

unfoldable pub step_quantifier : State → ℕ → Option State
step_quantifier s c =
    if c == 63 then Some (after_bounds s 0 (Some 1) s.noted) else
    (if c == 42 then Some (after_bounds s 0 None s.noted) else
    (if c == 43 then Some (after_bounds s 1 None s.noted) else
    (if c == 123 then Some (in_stage s (at_least_digits [])) else None)))

abbrev pub step_closed : State → Option Built → Option State
step_closed s None = None
step_closed s (Some b) = Some (after_built s true b)

unfoldable pub step_piece : State → Bool → ℕ → Option State
step_piece s repeatable c =
    if is_normal c then Some (after_atom s (item_regex (One c))) else
    (if c == 46 then Some (after_atom s (item_regex (In NotLineEnd))) else
    (if c == 92 then Some (in_stage s (at_backslash in_branch)) else
    (if c == 91 then Some (in_stage s (at_class no_class)) else
    (if c == 40 then Some (after_built s false (opened s.built)) else
    (if c == 41 then step_closed s (closed s.built) else
    (if c == 124 then Some (after_built s false (barred s.built)) else
    (if repeatable then step_quantifier s c else None)))))))

unfoldable pub step_least : State → List ℕ → ℕ → Option State
step_least s digits c =
    if is_ascii_digit c then Some (in_stage s (at_least_digits (digits ++ c ∷ []))) else
    (if is_given digits then
    (if c == 44 then Some (in_stage s (at_most_digits digits [])) else
    (if c == 125 then Some (after_bounds s (bound digits) (Some (bound digits)) (with_number s.noted (number digits))) else None))
    else None)

unfoldable pub step_most : State → List ℕ → List ℕ → ℕ → Option State
step_most s least digits c =
    if is_ascii_digit c then Some (in_stage s (at_most_digits least (digits ++ c ∷ []))) else
    (if c == 125 then
    (if is_given digits then
    (if nat_le (number least) (number digits) then
    Some (after_bounds s (bound least) (Some (bound digits)) (with_number (with_number s.noted (number least)) (number digits)))
    else None)
    else Some (after_bounds s (bound least) None (with_number s.noted (number least))))
    else None)

abbrev pub step_letter : State → Within → ℕ → Option ClassItem → Option State
step_letter s w c (Some item) = Some (give s w item)
step_letter s w c None =
    if c == 112 then Some (in_stage s (at_property w false)) else
    (if c == 80 then Some (in_stage s (at_property w true)) else None)

unfoldable pub step_escape : State → Within → ℕ → Option State
step_escape s w c = if is_single c then Some (give_one s w (single_value c)) else step_letter s w c (several_item c)

unfoldable pub step_property : State → Within → Bool → ℕ → Option State
step_property s w complement c = if c == 123 then Some (in_stage s (at_name w complement [])) else None

unfoldable pub step_name : State → Within → Bool → List ℕ → ℕ → Option State
step_name s w complement name c =
    if is_word c then Some (in_stage s (at_name w complement (name ++ c ∷ []))) else
    (if c == 125 then
    (if is_given name then Some (give (with_notes s (with_name s.noted name)) w (property_item complement name)) else None)
    else None)

unfoldable pub step_first : State → Classed → ℕ → Option State
step_first s k c =
    if is_plain c then Some (give_one s (in_class k) c) else
    (if c == 92 then Some (in_stage s (at_backslash (in_class k))) else
    (if c == 45 then Some (give s (in_class k) (One 45)) else None))

unfoldable pub step_class : State → Classed → ℕ → Option State
step_class s k c = if c == 94 then Some (in_stage s (at_first (with_negation k))) else step_first s k c

unfoldable pub step_part : State → Classed → Option ℕ → ℕ → Option State
step_part s k first c =
    if is_plain c then Some (give_one s (in_class k) c) else
    (if c == 92 then Some (in_stage s (at_backslash (in_class k))) else
    (if c == 45 then Some (in_stage s (at_hyphen k first)) else
    (if c == 93 then Some (closed_class s k) else None)))

-- the last end of a range, or the backslash of one: no escape stands for a character past 125
unfoldable pub step_range : State → Classed → Option ℕ → ℕ → Option State
step_range s k None c = None
step_range s k (Some first) c =
    if c == 92 then (if nat_le first 125 then Some (in_stage s (at_range_escape k first)) else None) else
    (if nat_le first c then Some (in_stage s (at_part (with_range k first c) None)) else None)

unfoldable pub step_hyphen : State → Classed → Option ℕ → ℕ → Option State
step_hyphen s k first c =
    if c == 93 then Some (closed_class s (with_item k (One 45))) else
    (if c == 91 then Some (in_stage s (at_class (with_group k))) else
    (if c == 45 then Some (in_stage s (at_less (with_item k (One 45)))) else step_range s k first c))

unfoldable pub step_less : State → Classed → ℕ → Option State
step_less s k c = if c == 91 then Some (in_stage s (at_class (with_group k))) else None

unfoldable pub step_range_escape : State → Classed → ℕ → ℕ → Option State
step_range_escape s k first c =
    if is_single c then
    (if nat_le first (single_value c) then Some (in_stage s (at_part (with_range k first (single_value c)) None)) else None)
    else None

unfoldable pub step_end : State → Classed → ℕ → ℕ → Option State
step_end s k more c = if c == 93 then Some (closing s k (more - 1)) else None

abbrev pub step_in : Stage → State → ℕ → Option State
step_in (at_piece repeatable) s c = step_piece s repeatable c
step_in (at_least_digits digits) s c = step_least s digits c
step_in (at_most_digits least digits) s c = step_most s least digits c
step_in (at_backslash w) s c = step_escape s w c
step_in (at_property w complement) s c = step_property s w complement c
step_in (at_name w complement name) s c = step_name s w complement name c
step_in (at_class k) s c = step_class s k c
step_in (at_first k) s c = step_first s k c
step_in (at_part k first) s c = step_part s k first c
step_in (at_hyphen k first) s c = step_hyphen s k first c
step_in (at_less k) s c = step_less s k c
step_in (at_range_escape k first) s c = step_range_escape s k first c
step_in (at_end k more) s c = step_end s k more c

abbrev pub step : State → ℕ → Option State
step s c = step_in s.stage s c

-- the state behind all these characters
abbrev pub after : Option State → List ℕ → Option State
after None cs = None
after (Some s) [] = Some s
after (Some s) (c ∷ cs) = after (step s c) cs

-- the text may end here
abbrev pub wants_piece : Stage → Bool
wants_piece (at_piece repeatable) = true
wants_piece _ = false

abbrev pub is_end : State → Bool
is_end s = wants_piece s.stage && not (is_given s.built.outer)
