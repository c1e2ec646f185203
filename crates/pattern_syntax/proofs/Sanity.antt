-- A state behind a step is sane.
use Rattle.std.proofs.Common.{◌≡◌, ℕ, zero, suc, ◌-◌, Bool, true, false, ◌==◌, nat_le, if◌then◌else◌, List, [], ◌∷◌, length, Option, Some, None, refl}
use Rattle.pattern_syntax.specs.declared.class.ClassItem.{ClassItem}
use Rattle.pattern_syntax.specs.declared.class.ClassItem.TheVariants.{One}
use Rattle.pattern_syntax.specs.Built.{Built, closed}
use Rattle.pattern_syntax.specs.Classed.{Classed, with_item}
use Rattle.pattern_syntax.specs.Notes.{with_name}
use Rattle.pattern_syntax.specs.Characters.{is_normal, is_plain, is_single, single_value, several_item, is_ascii_digit, is_word}
use Rattle.pattern_syntax.specs.Grammar.{is_given, number, property_item}
use Rattle.pattern_syntax.specs.Machine.{Within, in_branch, in_class, Stage, at_piece, at_least_digits, at_most_digits, at_backslash, at_property, at_name, at_class, at_first, at_part, at_hyphen, at_less, at_range_escape, at_end, State, give, give_one, closing, after, step, step_in, step_piece, step_quantifier, step_closed, step_least, step_most, step_escape, step_letter, step_property, step_name, step_first, step_class, step_part, step_range, step_hyphen, step_less, step_range_escape, step_end}
use Rattle.pattern_syntax.specs.Machine.{with_notes}
use Rattle.pattern_syntax.proofs.Viable.{Sane}

abbrev pub SaneBehind : Option State → Type 0
SaneBehind None = Unit {0}
SaneBehind (Some s) = Sane s.stage

choice : (t : Bool) (x y : Option State) → (t ≡ true → SaneBehind x) → SaneBehind y → SaneBehind (if t then x else y)
choice true x y e f = e refl
choice false x y e f = f

give_sane : (s : State) (w : Within) (item : ClassItem) → SaneBehind (Some (give s w item))
give_sane s in_branch item = tt
give_sane s (in_class k) item = tt

give_one_sane : (s : State) (w : Within) (c : ℕ) → SaneBehind (Some (give_one s w c))
give_one_sane s in_branch c = tt
give_one_sane s (in_class k) c = tt

closing_sane : (s : State) (k : Classed) (more : ℕ) → SaneBehind (Some (closing s k more))
closing_sane s k zero = tt
closing_sane s k (suc more) = tt

closed_sane : (s : State) (o : Option Built) → SaneBehind (step_closed s o)
closed_sane s None = tt
closed_sane s (Some b) = tt

quantifier_sane : (s : State) (c : ℕ) → SaneBehind (step_quantifier s c)
unfolding step_quantifier
quantifier_sane s c = choice (c == 63) _ _ (λ _. tt) (choice (c == 42) _ _ (λ _. tt) (choice (c == 43) _ _ (λ _. tt) (choice (c == 123) _ _ (λ _. tt) tt)))

piece_sane : (s : State) (repeatable : Bool) (c : ℕ) → SaneBehind (step_piece s repeatable c)
unfolding step_piece
piece_sane s repeatable c =
    choice (is_normal c) _ _ (λ _. tt) (choice (c == 46) _ _ (λ _. tt) (choice (c == 92) _ _ (λ _. tt) (choice (c == 91) _ _ (λ _. tt)
    (choice (c == 40) _ _ (λ _. tt) (choice (c == 41) _ _ (λ _. closed_sane s (closed s.built)) (choice (c == 124) _ _ (λ _. tt)
    (choice repeatable _ _ (λ _. quantifier_sane s c) tt)))))))

least_sane : (s : State) (digits : List ℕ) (c : ℕ) → SaneBehind (step_least s digits c)
unfolding step_least
least_sane s digits c = choice (is_ascii_digit c) _ _ (λ _. tt) (choice (is_given digits) _ _ (λ _. choice (c == 44) _ _ (λ _. tt) (choice (c == 125) _ _ (λ _. tt) tt)) tt)

most_sane : (s : State) (least digits : List ℕ) (c : ℕ) → SaneBehind (step_most s least digits c)
unfolding step_most
most_sane s least digits c =
    choice (is_ascii_digit c) _ _ (λ _. tt) (choice (c == 125) _ _ (λ _. choice (is_given digits) _ _ (λ _. choice (nat_le (number least) (number digits)) _ _ (λ _. tt) tt) tt) tt)

letter_sane : (s : State) (w : Within) (c : ℕ) (o : Option ClassItem) → SaneBehind (step_letter s w c o)
letter_sane s w c (Some item) = give_sane s w item
letter_sane s w c None = choice (c == 112) _ _ (λ _. tt) (choice (c == 80) _ _ (λ _. tt) tt)

escape_sane : (s : State) (w : Within) (c : ℕ) → SaneBehind (step_escape s w c)
unfolding step_escape
escape_sane s w c = choice (is_single c) _ _ (λ _. give_one_sane s w (single_value c)) (letter_sane s w c (several_item c))

property_sane : (s : State) (w : Within) (complement : Bool) (c : ℕ) → SaneBehind (step_property s w complement c)
unfolding step_property
property_sane s w complement c = choice (c == 123) _ _ (λ _. tt) tt

name_sane : (s : State) (w : Within) (complement : Bool) (name : List ℕ) (c : ℕ) → SaneBehind (step_name s w complement name c)
unfolding step_name
name_sane s w complement name c =
    choice (is_word c) _ _ (λ _. tt) (choice (c == 125) _ _ (λ _. choice (is_given name) _ _ (λ _. give_sane (with_notes s (with_name s.noted name)) w (property_item complement name)) tt) tt)

first_sane : (s : State) (k : Classed) (c : ℕ) → SaneBehind (step_first s k c)
unfolding step_first
first_sane s k c = choice (is_plain c) _ _ (λ _. tt) (choice (c == 92) _ _ (λ _. tt) (choice (c == 45) _ _ (λ _. tt) tt))

class_sane : (s : State) (k : Classed) (c : ℕ) → SaneBehind (step_class s k c)
unfolding step_class
class_sane s k c = choice (c == 94) _ _ (λ _. tt) (first_sane s k c)

part_sane : (s : State) (k : Classed) (first : Option ℕ) (c : ℕ) → SaneBehind (step_part s k first c)
unfolding step_part
part_sane s k first c = choice (is_plain c) _ _ (λ _. tt) (choice (c == 92) _ _ (λ _. tt) (choice (c == 45) _ _ (λ _. tt) (choice (c == 93) _ _ (λ _. closing_sane s k (length k.groups)) tt)))

range_sane : (s : State) (k : Classed) (first : Option ℕ) (c : ℕ) → SaneBehind (step_range s k first c)
unfolding step_range
range_sane s k None c = tt
range_sane s k (Some first) c = choice (c == 92) _ _ (λ _. choice (nat_le first 125) _ _ (λ e. e) tt) (choice (nat_le first c) _ _ (λ _. tt) tt)

hyphen_sane : (s : State) (k : Classed) (first : Option ℕ) (c : ℕ) → SaneBehind (step_hyphen s k first c)
unfolding step_hyphen
hyphen_sane s k first c =
    choice (c == 93) _ _ (λ _. closing_sane s (with_item k (One 45)) (length k.groups)) (choice (c == 91) _ _ (λ _. tt) (choice (c == 45) _ _ (λ _. tt) (range_sane s k first c)))

less_sane : (s : State) (k : Classed) (c : ℕ) → SaneBehind (step_less s k c)
unfolding step_less
less_sane s k c = choice (c == 91) _ _ (λ _. tt) tt

range_escape_sane : (s : State) (k : Classed) (first c : ℕ) → SaneBehind (step_range_escape s k first c)
unfolding step_range_escape
range_escape_sane s k first c = choice (is_single c) _ _ (λ _. choice (nat_le first (single_value c)) _ _ (λ _. tt) tt) tt

end_sane : (s : State) (k : Classed) (more c : ℕ) → SaneBehind (step_end s k more c)
unfolding step_end
end_sane s k more c = choice (c == 93) _ _ (λ _. closing_sane s k (more - 1)) tt

step_sane : (stage : Stage) (s : State) (c : ℕ) → SaneBehind (step_in stage s c)
step_sane (at_piece repeatable) s c = piece_sane s repeatable c
step_sane (at_least_digits digits) s c = least_sane s digits c
step_sane (at_most_digits least digits) s c = most_sane s least digits c
step_sane (at_backslash w) s c = escape_sane s w c
step_sane (at_property w complement) s c = property_sane s w complement c
step_sane (at_name w complement name) s c = name_sane s w complement name c
step_sane (at_class k) s c = class_sane s k c
step_sane (at_first k) s c = first_sane s k c
step_sane (at_part k first) s c = part_sane s k first c
step_sane (at_hyphen k first) s c = hyphen_sane s k first c
step_sane (at_less k) s c = less_sane s k c
step_sane (at_range_escape k first) s c = range_escape_sane s k first c
step_sane (at_end k more) s c = end_sane s k more c

-- a state behind any text is sane
pub after_sane : (cs : List ℕ) (o : Option State) → SaneBehind o → SaneBehind (after o cs)
after_sane cs None e = tt
after_sane [] (Some s) e = e
after_sane (c ∷ cs) (Some s) e = after_sane cs (step s c) (step_sane s.stage s c)
