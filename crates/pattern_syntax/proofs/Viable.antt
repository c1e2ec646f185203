-- From where the machine stands some text leads to an end.
use Rattle.std.proofs.Common.{◌≡◌, ℕ, zero, suc, ◌+◌, ◌-◌, ◌*◌, ◌≤◌, Bool, true, false, nat_le, List, [], ◌∷◌, ◌++◌, length, Option, Some, None, refl, ◌∙◌, arith}
use Rattle.std.specs.List.{list_all}
use Rattle.pattern_syntax.specs.declared.class.ClassItem.{ClassItem}
use Rattle.pattern_syntax.specs.declared.class.ClassItem.TheVariants.{One}
use Rattle.pattern_syntax.specs.Regex.{character, choice_of}
use Rattle.pattern_syntax.specs.declared.fault.Notes.{Notes}
use Rattle.pattern_syntax.specs.Built.{Frame, Built, with_piece, with_bounds, all_branches}
use Rattle.pattern_syntax.specs.Classed.{Classed, with_item, with_range, with_group, whole_class}
use Rattle.pattern_syntax.specs.Notes.{with_name, with_number}
use Rattle.pattern_syntax.specs.Characters.{is_ascii_digit}
use Rattle.pattern_syntax.specs.Grammar.{is_given, number, bound, property_item, item_regex}
use Rattle.pattern_syntax.specs.Machine.{Within, in_branch, in_class, Stage, at_piece, at_least_digits, at_most_digits, at_backslash, at_property, at_name, at_class, at_first, at_part, at_hyphen, at_less, at_range_escape, at_end, State, in_stage, give, give_one, closing, after, step, step_escape, step_property, step_name, step_first, step_class, step_range_escape, step_end}
use Rattle.std.proofs.lemmas.Bool.Decides.{nat_tests}
use Rattle.std.specs.Char.{digit_value}
use Rattle.std.specs.Str.Parse.{digits_value_after}
use Rattle.pattern_syntax.specs.Machine.{is_end, with_notes}
use Rattle.pattern_syntax.proofs.Runs.{at, taken, goes}
use Rattle.pattern_syntax.proofs.RunsInClass.{end_step, hyphen_end, less_class, step_end_suc}
use Rattle.pattern_syntax.proofs.RunsWhole.{close_step, least_run, most_run, exact_end, most_end}

-- some text leads from the state to an end
pub record Finishes (s : State) : Type 0 where
  pub rest : List ℕ
  pub last : State
  pub run : after (Some s) rest ≡ Some last
  pub ends : is_end last ≡ true

steps : (s t : State) (c : ℕ) → step s c ≡ Some t → Finishes t → Finishes s
steps s t c e f = record { rest = c ∷ f.rest; last = f.last; run = goes s t c f.rest e ∙ f.run; ends = f.ends }

runs : (s t : State) (cs : List ℕ) → ((more : List ℕ) → after (Some s) (cs ++ more) ≡ after (Some t) more) → Finishes t → Finishes s
runs s t cs e f = record { rest = cs ++ f.rest; last = f.last; run = e f.rest ∙ f.run; ends = f.ends }

piece_finishes : (outer : List Frame) (here : Frame) (repeatable : Bool) (m : Notes) → Finishes (at (at_piece repeatable) (record { outer = outer; here = here }) m)
piece_finishes [] here repeatable m = record { rest = []; last = at (at_piece repeatable) (record { outer = []; here = here }) m; run = refl; ends = refl }
piece_finishes (f ∷ fs) here repeatable m =
    let b : Built = with_piece (record { outer = fs; here = f }) (choice_of (all_branches here)) in
    steps (at (at_piece repeatable) (record { outer = f ∷ fs; here = here }) m) (at (at_piece true) b m) 41 (close_step _ repeatable) (piece_finishes fs b.here true m)

closing_finishes : (k : Classed) (more : ℕ) (x : Stage) (b : Built) (m : Notes) → Finishes (closing (at x b m) k more)
closing_finishes k zero x b m = piece_finishes b.outer (with_piece b (character (whole_class k))).here true m
closing_finishes k (suc more) x b m = steps (at (at_end k (suc more)) b m) (closing (at (at_end k (suc more)) b m) k more) 93 (step_end_suc _ k more) (closing_finishes k more (at_end k (suc more)) b m)

part_finishes : (k : Classed) (first : Option ℕ) (b : Built) (m : Notes) → Finishes (at (at_part k first) b m)
part_finishes k first b m = steps (at (at_part k first) b m) _ 93 (end_step _ k first) (closing_finishes k (length k.groups) (at_part k first) b m)

give_finishes : (w : Within) (item : ClassItem) (x : Stage) (b : Built) (m : Notes) → Finishes (give (at x b m) w item)
give_finishes in_branch item x b m = piece_finishes b.outer (with_piece b (item_regex item)).here true m
give_finishes (in_class k) item x b m = part_finishes (with_item k item) None b m

give_one_finishes : (w : Within) (c : ℕ) (x : Stage) (b : Built) (m : Notes) → Finishes (give_one (at x b m) w c)
give_one_finishes in_branch c x b m = piece_finishes b.outer (with_piece b (item_regex (One c))).here true m
give_one_finishes (in_class k) c x b m = part_finishes (with_item k (One c)) (Some c) b m

class_letter : (s : State) (k : Classed) → step_class s k 97 ≡ Some (give_one s (in_class k) 97)
unfolding step_class step_first
class_letter s k = refl

first_letter : (s : State) (k : Classed) → step_first s k 97 ≡ Some (give_one s (in_class k) 97)
unfolding step_first
first_letter s k = refl

class_finishes : (k : Classed) (b : Built) (m : Notes) → Finishes (at (at_class k) b m)
class_finishes k b m = steps (at (at_class k) b m) _ 97 (class_letter _ k) (part_finishes (with_item k (One 97)) (Some 97) b m)

given_snoc : (xs : List ℕ) (x : ℕ) → is_given (xs ++ x ∷ []) ≡ true
given_snoc [] x = refl
given_snoc (y ∷ ys) x = refl

name_letter : (s : State) (w : Within) (complement : Bool) (name : List ℕ) → step_name s w complement name 76 ≡ Some (in_stage s (at_name w complement (name ++ 76 ∷ [])))
unfolding step_name
name_letter s w complement name = refl

name_end : (s : State) (w : Within) (complement : Bool) (name : List ℕ) → is_given name ≡ true → step_name s w complement name 125 ≡ Some (give (with_notes s (with_name s.noted name)) w (property_item complement name))
unfolding step_name
name_end s w complement name e = taken (is_given name) _ _ e

name_finishes : (w : Within) (complement : Bool) (name : List ℕ) (b : Built) (m : Notes) → Finishes (at (at_name w complement name) b m)
name_finishes w complement name b m =
    let longer : List ℕ = name ++ 76 ∷ [] in
    steps (at (at_name w complement name) b m) (at (at_name w complement longer) b m) 76 (name_letter _ w complement name)
    (steps (at (at_name w complement longer) b m) _ 125 (name_end _ w complement longer (given_snoc name 76))
    (give_finishes w (property_item complement longer) (at_name w complement longer) b (with_name m longer)))

brace_step : (s : State) (w : Within) (complement : Bool) → step_property s w complement 123 ≡ Some (in_stage s (at_name w complement []))
unfolding step_property
brace_step s w complement = refl

feed_step : (s : State) (w : Within) → step_escape s w 110 ≡ Some (give_one s w 10)
unfolding step_escape
feed_step s w = refl

range_brace : (s : State) (k : Classed) (v : ℕ) → nat_le v 125 ≡ true → step_range_escape s k v 125 ≡ Some (in_stage s (at_part (with_range k v 125) None))
unfolding step_range_escape
range_brace s k v e = taken (nat_le v 125) _ _ e

any_end : (s : State) (k : Classed) (more : ℕ) → step_end s k more 93 ≡ Some (closing s k (more - 1))
unfolding step_end
any_end s k more = refl

-- ---- numbers

nines : ℕ → List ℕ
nines zero = []
nines (suc k) = 57 ∷ nines k

nines_digits : (k : ℕ) → list_all is_ascii_digit (nines k) ≡ true
unfolding nines
nines_digits zero = refl
nines_digits (suc k) = nines_digits k

many_nines : (n k : ℕ) → n + k ≤ digits_value_after 10 n (nines k)
unfolding nines
many_nines n zero = omega arith
many_nines n (suc k) = let more : (n * 10 + 9) + k ≤ digits_value_after 10 n (57 ∷ nines k) = many_nines (n * 10 + 9) k in omega (arith, more)

value_after_append : (n : ℕ) (xs ys : List ℕ) → digits_value_after 10 n (xs ++ ys) ≡ digits_value_after 10 (digits_value_after 10 n xs) ys
value_after_append n [] ys = refl
value_after_append n (x ∷ xs) ys = value_after_append (n * 10 + digit_value x) xs ys

enough : (least most : List ℕ) → nat_le (number least) (number (most ++ nines (suc (number least)))) ≡ true
enough least most =
    let more = many_nines (number most) (suc (number least)) in
    let split = value_after_append 0 most (nines (suc (number least))) in
    grind (arith, nat_tests)

given_nines : (most : List ℕ) (k : ℕ) → is_given (most ++ nines (suc k)) ≡ true
unfolding nines
given_nines [] k = refl
given_nines (x ∷ xs) k = refl

most_finishes : (least most : List ℕ) (b : Built) (m : Notes) → Finishes (at (at_most_digits least most) b m)
most_finishes least most b m =
    let k : ℕ = number least in
    let longer : List ℕ = most ++ nines (suc k) in
    runs (at (at_most_digits least most) b m) (at (at_most_digits least longer) b m) (nines (suc k)) (λ more. most_run least most (nines (suc k)) more b m (nines_digits (suc k)))
    (steps (at (at_most_digits least longer) b m) _ 125 (most_end _ least longer (given_nines most k) (enough least most))
    (piece_finishes b.outer (with_bounds b (bound least) (Some (bound longer))).here false (with_number (with_number m (number least)) (number longer))))

least_finishes : (least : List ℕ) (b : Built) (m : Notes) → Finishes (at (at_least_digits least) b m)
least_finishes least b m =
    let longer : List ℕ = least ++ 48 ∷ [] in
    runs (at (at_least_digits least) b m) (at (at_least_digits longer) b m) (48 ∷ []) (λ more. least_run least (48 ∷ []) more b m refl)
    (steps (at (at_least_digits longer) b m) _ 125 (exact_end _ longer (given_snoc least 48))
    (piece_finishes b.outer (with_bounds b (bound longer) (Some (bound longer))).here false (with_number m (number longer))))

-- ---- every state

-- the first end of a range that an escape is to end is at most the greatest that an escape stands for
abbrev pub Sane : Stage → Type 0
Sane (at_range_escape k first) = nat_le first 125 ≡ true
Sane _ = Unit {0}

pub finishes : (stage : Stage) (b : Built) (m : Notes) → Sane stage → Finishes (at stage b m)
finishes (at_piece repeatable) b m e = piece_finishes b.outer b.here repeatable m
finishes (at_least_digits digits) b m e = least_finishes digits b m
finishes (at_most_digits least digits) b m e = most_finishes least digits b m
finishes (at_backslash w) b m e = steps (at (at_backslash w) b m) _ 110 (feed_step _ w) (give_one_finishes w 10 (at_backslash w) b m)
finishes (at_property w complement) b m e = steps (at (at_property w complement) b m) _ 123 (brace_step _ w complement) (name_finishes w complement [] b m)
finishes (at_name w complement name) b m e = name_finishes w complement name b m
finishes (at_class k) b m e = class_finishes k b m
finishes (at_first k) b m e = steps (at (at_first k) b m) _ 97 (first_letter _ k) (part_finishes (with_item k (One 97)) (Some 97) b m)
finishes (at_part k first) b m e = part_finishes k first b m
finishes (at_hyphen k first) b m e = steps (at (at_hyphen k first) b m) _ 93 (hyphen_end _ k first) (closing_finishes (with_item k (One 45)) (length k.groups) (at_hyphen k first) b m)
finishes (at_less k) b m e = steps (at (at_less k) b m) _ 91 (less_class _ k) (class_finishes (with_group k) b m)
finishes (at_range_escape k first) b m e = steps (at (at_range_escape k first) b m) _ 125 (range_brace _ k first e) (part_finishes (with_range k first 125) None b m)
finishes (at_end k zero) b m e = steps (at (at_end k zero) b m) _ 93 (any_end _ k zero) (closing_finishes k (zero - 1) (at_end k zero) b m)
finishes (at_end k (suc more)) b m e = closing_finishes k (suc more) (at_end k (suc more)) b m
