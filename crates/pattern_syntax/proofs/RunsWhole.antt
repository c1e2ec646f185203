-- The machine reads each expression of the grammar.
use Rattle.std.proofs.Common.{◌≡◌, ℕ, Bool, true, false, ◌&&◌, nat_le, List, [], ◌∷◌, ◌++◌, drop, Some, None, refl, ap, sym, ◌∙◌, append_assoc}
use Rattle.std.specs.List.{list_all}
use Rattle.std.proofs.lemmas.List.{append-nil}
use Rattle.pattern_syntax.specs.declared.class.ClassItem.TheVariants.{One, In}
use Rattle.pattern_syntax.specs.declared.set.CharSet.TheVariants.{NotLineEnd}
use Rattle.pattern_syntax.specs.Regex.{character, choice_of}
use Rattle.pattern_syntax.specs.declared.fault.Notes.{Notes}
use Rattle.pattern_syntax.specs.Built.{Built, with_piece, opened, barred, closed}
use Rattle.pattern_syntax.specs.Classed.{no_class}
use Rattle.pattern_syntax.specs.Notes.{with_number}
use Rattle.pattern_syntax.specs.Characters.{is_normal, is_ascii_digit}
use Rattle.pattern_syntax.specs.Grammar.{RegExp, alone, joined, Branch, no_piece, piece, Atom, normal, wildcard, single, special, bracketed, group, Quantifier, once, optional, any_number, at_least_once, exactly, at_least, between, Bracketed, Escape, several, property, regexp_text, branch_text, atom_text, quantifier_text, bracketed_text, escape_text, is_regexp, is_branch, is_atom, is_quantifier, is_bracketed, is_escape, are_digits, is_given, number, bound, escape_item, item_regex, atom_regex, branches_of}
use Rattle.pattern_syntax.specs.Machine.{in_branch, at_piece, at_least_digits, at_most_digits, at_backslash, at_class, State, after_atom, after_bounds, after_built, in_stage, after, step_piece, step_quantifier, step_closed, step_least, step_most}
use Rattle.pattern_syntax.proofs.Choosing.{left_of, right_of}
use Rattle.pattern_syntax.proofs.Effects.{escape_noted, bracketed_noted, quantifier_noted, regexp_noted, branch_noted, atom_noted, whole_bracketed, quantifier_built, branch_built, regexp_built, closed_group}
use Rattle.pattern_syntax.proofs.Runs.{at, taken, goes, single_step, escape_run}
use Rattle.pattern_syntax.proofs.RunsInClass.{bracket_front, bracketed_run}

-- ---- quantifiers

digit_least : (s : State) (digits : List ℕ) (c : ℕ) → is_ascii_digit c ≡ true → step_least s digits c ≡ Some (in_stage s (at_least_digits (digits ++ c ∷ [])))
unfolding step_least
digit_least s digits c e = taken (is_ascii_digit c) _ _ e

digit_most : (s : State) (least digits : List ℕ) (c : ℕ) → is_ascii_digit c ≡ true → step_most s least digits c ≡ Some (in_stage s (at_most_digits least (digits ++ c ∷ [])))
unfolding step_most
digit_most s least digits c e = taken (is_ascii_digit c) _ _ e

pub least_run : (front digits more : List ℕ) (b : Built) (m : Notes) → list_all is_ascii_digit digits ≡ true →
    after (Some (at (at_least_digits front) b m)) (digits ++ more) ≡ after (Some (at (at_least_digits (front ++ digits)) b m)) more
least_run front [] more b m e = ap (λ l. after (Some (at (at_least_digits l) b m)) more) (sym (append-nil front))
least_run front (c ∷ cs) more b m e =
    goes (at (at_least_digits front) b m) (at (at_least_digits (front ++ c ∷ [])) b m) c (cs ++ more) (digit_least _ front c (left_of (is_ascii_digit c) (list_all is_ascii_digit cs) e))
    ∙ least_run (front ++ c ∷ []) cs more b m (right_of (is_ascii_digit c) (list_all is_ascii_digit cs) e)
    ∙ ap (λ l. after (Some (at (at_least_digits l) b m)) more) (append_assoc front (c ∷ []) cs)

pub most_run : (least front digits more : List ℕ) (b : Built) (m : Notes) → list_all is_ascii_digit digits ≡ true →
    after (Some (at (at_most_digits least front) b m)) (digits ++ more) ≡ after (Some (at (at_most_digits least (front ++ digits)) b m)) more
most_run least front [] more b m e = ap (λ l. after (Some (at (at_most_digits least l) b m)) more) (sym (append-nil front))
most_run least front (c ∷ cs) more b m e =
    goes (at (at_most_digits least front) b m) (at (at_most_digits least (front ++ c ∷ [])) b m) c (cs ++ more) (digit_most _ least front c (left_of (is_ascii_digit c) (list_all is_ascii_digit cs) e))
    ∙ most_run least (front ++ c ∷ []) cs more b m (right_of (is_ascii_digit c) (list_all is_ascii_digit cs) e)
    ∙ ap (λ l. after (Some (at (at_most_digits least l) b m)) more) (append_assoc front (c ∷ []) cs)

pub exact_end : (s : State) (digits : List ℕ) → is_given digits ≡ true → step_least s digits 125 ≡ Some (after_bounds s (bound digits) (Some (bound digits)) (with_number s.noted (number digits)))
unfolding step_least
exact_end s digits e = taken (is_given digits) _ _ e

comma_step : (s : State) (digits : List ℕ) → is_given digits ≡ true → step_least s digits 44 ≡ Some (in_stage s (at_most_digits digits []))
unfolding step_least
comma_step s digits e = taken (is_given digits) _ _ e

least_end : (s : State) (least : List ℕ) → step_most s least [] 125 ≡ Some (after_bounds s (bound least) None (with_number s.noted (number least)))
unfolding step_most
least_end s least = refl

pub most_end : (s : State) (least most : List ℕ) → is_given most ≡ true → nat_le (number least) (number most) ≡ true →
    step_most s least most 125 ≡ Some (after_bounds s (bound least) (Some (bound most)) (with_number (with_number s.noted (number least)) (number most)))
unfolding step_most
most_end s least most e o = taken (is_given most) _ _ e ∙ taken (nat_le (number least) (number most)) _ _ o

brace_open : (s : State) → step_piece s true 123 ≡ Some (in_stage s (at_least_digits []))
unfolding step_piece step_quantifier
brace_open s = refl

sign_optional : (s : State) → step_piece s true 63 ≡ Some (after_bounds s 0 (Some 1) s.noted)
unfolding step_piece step_quantifier
sign_optional s = refl

sign_any : (s : State) → step_piece s true 42 ≡ Some (after_bounds s 0 None s.noted)
unfolding step_piece step_quantifier
sign_any s = refl

sign_more : (s : State) → step_piece s true 43 ≡ Some (after_bounds s 1 None s.noted)
unfolding step_piece step_quantifier
sign_more s = refl

abbrev pub is_once : Quantifier → Bool
is_once once = true
is_once optional = false
is_once any_number = false
is_once at_least_once = false
is_once (exactly digits) = false
is_once (at_least digits) = false
is_once (between least most) = false

quantifier_run : (q : Quantifier) (more : List ℕ) (b : Built) (m : Notes) → is_quantifier q ≡ true →
    after (Some (at (at_piece true) b m)) (quantifier_text q ++ more) ≡ after (Some (at (at_piece (is_once q)) (quantifier_built b q) (quantifier_noted m q))) more
quantifier_run once more b m e = refl
quantifier_run optional more b m e = goes (at (at_piece true) b m) _ 63 more (sign_optional _)
quantifier_run any_number more b m e = goes (at (at_piece true) b m) _ 42 more (sign_any _)
quantifier_run at_least_once more b m e = goes (at (at_piece true) b m) _ 43 more (sign_more _)
quantifier_run (exactly digits) more b m e =
    goes (at (at_piece true) b m) (at (at_least_digits []) b m) 123 ((digits ++ 125 ∷ []) ++ more) (brace_open _)
    ∙ ap (after (Some (at (at_least_digits []) b m))) (append_assoc digits (125 ∷ []) more)
    ∙ least_run [] digits (125 ∷ more) b m (right_of (is_given digits) (list_all is_ascii_digit digits) e)
    ∙ goes (at (at_least_digits digits) b m) _ 125 more (exact_end _ digits (left_of (is_given digits) (list_all is_ascii_digit digits) e))
quantifier_run (at_least digits) more b m e =
    goes (at (at_piece true) b m) (at (at_least_digits []) b m) 123 ((digits ++ 44 ∷ 125 ∷ []) ++ more) (brace_open _)
    ∙ ap (after (Some (at (at_least_digits []) b m))) (append_assoc digits (44 ∷ 125 ∷ []) more)
    ∙ least_run [] digits (44 ∷ 125 ∷ more) b m (right_of (is_given digits) (list_all is_ascii_digit digits) e)
    ∙ goes (at (at_least_digits digits) b m) (at (at_most_digits digits []) b m) 44 (125 ∷ more) (comma_step _ digits (left_of (is_given digits) (list_all is_ascii_digit digits) e))
    ∙ goes (at (at_most_digits digits []) b m) _ 125 more (least_end _ digits)
quantifier_run (between least most) more b m e =
    let both_digits : (are_digits least && are_digits most) ≡ true = left_of (are_digits least && are_digits most) (nat_le (number least) (number most)) e in
    let low : are_digits least ≡ true = left_of (are_digits least) (are_digits most) both_digits in
    let high : are_digits most ≡ true = right_of (are_digits least) (are_digits most) both_digits in
    goes (at (at_piece true) b m) (at (at_least_digits []) b m) 123 ((least ++ 44 ∷ (most ++ 125 ∷ [])) ++ more) (brace_open _)
    ∙ ap (after (Some (at (at_least_digits []) b m))) (append_assoc least (44 ∷ (most ++ 125 ∷ [])) more ∙ ap (λ l. least ++ 44 ∷ l) (append_assoc most (125 ∷ []) more))
    ∙ least_run [] least (44 ∷ (most ++ 125 ∷ more)) b m (right_of (is_given least) (list_all is_ascii_digit least) low)
    ∙ goes (at (at_least_digits least) b m) (at (at_most_digits least []) b m) 44 (most ++ 125 ∷ more) (comma_step _ least (left_of (is_given least) (list_all is_ascii_digit least) low))
    ∙ most_run least [] most (125 ∷ more) b m (right_of (is_given most) (list_all is_ascii_digit most) high)
    ∙ goes (at (at_most_digits least most) b m) _ 125 more (most_end _ least most (left_of (is_given most) (list_all is_ascii_digit most) high) (right_of (are_digits least && are_digits most) (nat_le (number least) (number most)) e))

-- ---- atoms

normal_step : (s : State) (repeatable : Bool) (c : ℕ) → is_normal c ≡ true → step_piece s repeatable c ≡ Some (after_atom s (item_regex (One c)))
unfolding step_piece
normal_step s repeatable c e = taken (is_normal c) _ _ e

dot_step : (s : State) (repeatable : Bool) → step_piece s repeatable 46 ≡ Some (after_atom s (item_regex (In NotLineEnd)))
unfolding step_piece
dot_step s repeatable = refl

backslash_step : (s : State) (repeatable : Bool) → step_piece s repeatable 92 ≡ Some (in_stage s (at_backslash in_branch))
unfolding step_piece
backslash_step s repeatable = refl

bracket_step : (s : State) (repeatable : Bool) → step_piece s repeatable 91 ≡ Some (in_stage s (at_class no_class))
unfolding step_piece
bracket_step s repeatable = refl

open_step : (s : State) (repeatable : Bool) → step_piece s repeatable 40 ≡ Some (after_built s false (opened s.built))
unfolding step_piece
open_step s repeatable = refl

pub close_step : (s : State) (repeatable : Bool) → step_piece s repeatable 41 ≡ step_closed s (closed s.built)
unfolding step_piece
close_step s repeatable = refl

bar_step : (s : State) (repeatable : Bool) → step_piece s repeatable 124 ≡ Some (after_built s false (barred s.built))
unfolding step_piece
bar_step s repeatable = refl

abbrev branch_repeatable : Bool → Branch → Bool
branch_repeatable repeatable no_piece = repeatable
branch_repeatable repeatable (piece atom quantifier pieces) = branch_repeatable (is_once quantifier) pieces

abbrev pub regexp_repeatable : Bool → RegExp → Bool
regexp_repeatable repeatable (alone branch) = branch_repeatable repeatable branch
regexp_repeatable repeatable (joined branch branches) = regexp_repeatable false branches

special_run : (of : Escape) (repeatable : Bool) (more : List ℕ) (b : Built) (m : Notes) → is_escape of ≡ true →
    after (Some (at (at_piece repeatable) b m)) (92 ∷ (drop 1 (escape_text of) ++ more)) ≡ after (Some (at (at_piece true) (with_piece b (item_regex (escape_item of))) (escape_noted m of))) more
special_run of repeatable more b m e =
    goes (at (at_piece repeatable) b m) (at (at_backslash in_branch) b m) 92 (drop 1 (escape_text of) ++ more) (backslash_step _ repeatable)
    ∙ escape_run in_branch of more b m e

class_run : (class : Bracketed) (repeatable : Bool) (more : List ℕ) (b : Built) (m : Notes) → is_bracketed class ≡ true →
    after (Some (at (at_piece repeatable) b m)) (bracketed_text class ++ more) ≡ after (Some (at (at_piece true) (with_piece b (atom_regex (bracketed class))) (bracketed_noted m class))) more
class_run class repeatable more b m e =
    ap (after (Some (at (at_piece repeatable) b m))) (bracket_front class more)
    ∙ goes (at (at_piece repeatable) b m) (at (at_class no_class) b m) 91 (drop 1 (bracketed_text class) ++ more) (bracket_step _ repeatable)
    ∙ bracketed_run class [] more b m (at_class no_class) e
    ∙ ap (λ k. after (Some (at (at_piece true) (with_piece b (character k)) (bracketed_noted m class))) more) (whole_bracketed [] class)

closed_step : (r : RegExp) (repeatable : Bool) (b : Built) (m : Notes) → step_piece (at (at_piece repeatable) (regexp_built r (opened b)) m) repeatable 41 ≡ Some (at (at_piece true) (with_piece b (choice_of (branches_of r))) m)
closed_step r repeatable b m =
    close_step (at (at_piece repeatable) (regexp_built r (opened b)) m) repeatable
    ∙ ap (step_closed (at (at_piece repeatable) (regexp_built r (opened b)) m)) (closed_group r b)

mutual
  pub regexp_run : (r : RegExp) (repeatable : Bool) (more : List ℕ) (b : Built) (m : Notes) → is_regexp r ≡ true →
      after (Some (at (at_piece repeatable) b m)) (regexp_text r ++ more) ≡ after (Some (at (at_piece (regexp_repeatable repeatable r)) (regexp_built r b) (regexp_noted r m))) more
  regexp_run (alone branch) repeatable more b m e = branch_run branch repeatable more b m e
  regexp_run (joined branch branches) repeatable more b m e =
      ap (after (Some (at (at_piece repeatable) b m))) (append_assoc (branch_text branch) (124 ∷ regexp_text branches) more)
      ∙ branch_run branch repeatable (124 ∷ (regexp_text branches ++ more)) b m (left_of (is_branch branch) (is_regexp branches) e)
      ∙ goes (at (at_piece (branch_repeatable repeatable branch)) (branch_built branch b) (branch_noted branch m)) _ 124 (regexp_text branches ++ more) (bar_step _ (branch_repeatable repeatable branch))
      ∙ regexp_run branches false more (barred (branch_built branch b)) (branch_noted branch m) (right_of (is_branch branch) (is_regexp branches) e)

  branch_run : (branch : Branch) (repeatable : Bool) (more : List ℕ) (b : Built) (m : Notes) → is_branch branch ≡ true →
      after (Some (at (at_piece repeatable) b m)) (branch_text branch ++ more) ≡ after (Some (at (at_piece (branch_repeatable repeatable branch)) (branch_built branch b) (branch_noted branch m))) more
  branch_run no_piece repeatable more b m e = refl
  branch_run (piece atom quantifier pieces) repeatable more b m e =
      let b' : Built = with_piece b (atom_regex atom) in
      let m' : Notes = atom_noted atom m in
      let first : (is_atom atom && is_quantifier quantifier) ≡ true = left_of (is_atom atom && is_quantifier quantifier) (is_branch pieces) e in
      ap (after (Some (at (at_piece repeatable) b m))) (append_assoc (atom_text atom) (quantifier_text quantifier ++ branch_text pieces) more ∙ ap (λ l. atom_text atom ++ l) (append_assoc (quantifier_text quantifier) (branch_text pieces) more))
      ∙ atom_run atom repeatable (quantifier_text quantifier ++ (branch_text pieces ++ more)) b m (left_of (is_atom atom) (is_quantifier quantifier) first)
      ∙ quantifier_run quantifier (branch_text pieces ++ more) b' m' (right_of (is_atom atom) (is_quantifier quantifier) first)
      ∙ branch_run pieces (is_once quantifier) more (quantifier_built b' quantifier) (quantifier_noted m' quantifier) (right_of (is_atom atom && is_quantifier quantifier) (is_branch pieces) e)

  atom_run : (atom : Atom) (repeatable : Bool) (more : List ℕ) (b : Built) (m : Notes) → is_atom atom ≡ true →
      after (Some (at (at_piece repeatable) b m)) (atom_text atom ++ more) ≡ after (Some (at (at_piece true) (with_piece b (atom_regex atom)) (atom_noted atom m))) more
  atom_run (normal c) repeatable more b m e = goes (at (at_piece repeatable) b m) _ c more (normal_step _ repeatable c e)
  atom_run wildcard repeatable more b m e = goes (at (at_piece repeatable) b m) _ 46 more (dot_step _ repeatable)
  atom_run (single c) repeatable more b m e =
      goes (at (at_piece repeatable) b m) (at (at_backslash in_branch) b m) 92 (c ∷ more) (backslash_step _ repeatable)
      ∙ goes (at (at_backslash in_branch) b m) _ c more (single_step _ in_branch c e)
  atom_run (special (several c)) repeatable more b m e = special_run (several c) repeatable more b m e
  atom_run (special (property complement name)) repeatable more b m e = special_run (property complement name) repeatable more b m e
  atom_run (bracketed class) repeatable more b m e = class_run class repeatable more b m e
  atom_run (group inside) repeatable more b m e =
      goes (at (at_piece repeatable) b m) (at (at_piece false) (opened b) m) 40 ((regexp_text inside ++ 41 ∷ []) ++ more) (open_step _ repeatable)
      ∙ ap (after (Some (at (at_piece false) (opened b) m))) (append_assoc (regexp_text inside) (41 ∷ []) more)
      ∙ regexp_run inside false (41 ∷ more) (opened b) m e
      ∙ goes (at (at_piece (regexp_repeatable false inside)) (regexp_built inside (opened b)) (regexp_noted inside m)) _ 41 more (closed_step inside (regexp_repeatable false inside) b (regexp_noted inside m))
