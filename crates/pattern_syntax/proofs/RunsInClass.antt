-- The machine reads each class expression of the grammar.
use Rattle.std.proofs.Common.{◌≡◌, ℕ, zero, suc, Bool, true, false, not, ◌&&◌, ◌||◌, ◌==◌, nat_le, List, [], ◌∷◌, ◌++◌, length, drop, Option, Some, None, refl, ap, ◌∙◌, subst, append_assoc, arith}
use Rattle.std.specs.List.{list_all}
use Rattle.pattern_syntax.specs.declared.class.ClassItem.TheVariants.{One, Range}
use Rattle.pattern_syntax.specs.Classes.{Group}
use Rattle.pattern_syntax.specs.declared.fault.Notes.{Notes}
use Rattle.pattern_syntax.specs.Built.{Built}
use Rattle.pattern_syntax.specs.Classed.{Classed, no_group, with_item, with_range, with_group}
use Rattle.pattern_syntax.specs.Characters.{is_plain, is_single, single_value, is_among}
use Rattle.pattern_syntax.specs.Grammar.{Bracketed, only, less, Members, Part, one, range, set, Letter, plain, escaped, Escape, several, property, bracketed_text, body_text, part_text, parts_text, letter_text, escape_text, sign, is_bracketed, is_members, is_part, is_letter, is_escape, letter_value, is_given, begins, escape_item, part_item}
use Rattle.pattern_syntax.specs.Machine.{in_class, Stage, at_backslash, at_class, at_first, at_part, at_hyphen, at_less, at_range_escape, at_end, State, in_stage, give_one, closing, closed_class, after, step_in, step_first, step_class, step_part, step_range, step_hyphen, step_less, step_range_escape, step_end}
use Rattle.pattern_syntax.proofs.Choosing.{left_of, right_of, at_char, length_snoc}
use Rattle.pattern_syntax.proofs.Lists.{change_last_snoc}
use Rattle.pattern_syntax.proofs.Effects.{escape_noted, part_noted, parts_noted, bracketed_noted, parts_classed, negated_by, hyphened_by, members_classed, bracketed_classed}
use Rattle.std.proofs.lemmas.Bool.Decides.{nat_tests}
use Rattle.pattern_syntax.proofs.Runs.{at, taken, passed, goes, single_step, escape_run}

off : (t : Bool) → not t ≡ true → t ≡ false
off true e = cc
off false e = refl

neither : (a b : Bool) → not (a || b) ≡ true → (a ≡ false) × (not b ≡ true)
neither true b e = cc
neither false b e = (refl, e)

-- where a part may begin
data Opening : Type 0 where
  new_class : Opening
  new_first : Opening
  behind_part : (first : Option ℕ) → Opening

abbrev stage_of : Opening → Classed → Stage
stage_of new_class k = at_class k
stage_of new_first k = at_first k
stage_of (behind_part first) k = at_part k first

-- `^` right behind the bracket is the negation
abbrev allows : Opening → List ℕ → Bool
allows new_class cs = not (begins 94 cs)
allows new_first cs = true
allows (behind_part first) cs = true

first_plain : (s : State) (k : Classed) (c : ℕ) → is_plain c ≡ true → step_first s k c ≡ Some (give_one s (in_class k) c)
unfolding step_first
first_plain s k c e = taken (is_plain c) _ _ e

plain_step : (o : Opening) (s : State) (k : Classed) (c : ℕ) (cs : List ℕ) → is_plain c ≡ true → allows o (c ∷ cs) ≡ true → step_in (stage_of o k) s c ≡ Some (give_one s (in_class k) c)
unfolding step_class step_part
plain_step new_class s k c cs e f = passed (c == 94) _ _ (off (c == 94) f) ∙ first_plain s k c e
plain_step new_first s k c cs e f = first_plain s k c e
plain_step (behind_part first) s k c cs e f = taken (is_plain c) _ _ e

backslash_step : (o : Opening) (s : State) (k : Classed) → step_in (stage_of o k) s 92 ≡ Some (in_stage s (at_backslash (in_class k)))
unfolding step_class step_part step_first
backslash_step new_class s k = refl
backslash_step new_first s k = refl
backslash_step (behind_part first) s k = refl

letter_run : (o : Opening) (k : Classed) (l : Letter) (more : List ℕ) (b : Built) (m : Notes) → is_letter l ≡ true → allows o (letter_text l ++ more) ≡ true →
    after (Some (at (stage_of o k) b m)) (letter_text l ++ more) ≡ after (Some (at (at_part (with_item k (One (letter_value l))) (Some (letter_value l))) b m)) more
letter_run o k (plain c) more b m e f = goes (at (stage_of o k) b m) _ c more (plain_step o _ k c more e f)
letter_run o k (escaped c) more b m e f =
    goes (at (stage_of o k) b m) (at (at_backslash (in_class k)) b m) 92 (c ∷ more) (backslash_step o _ k)
    ∙ goes (at (at_backslash (in_class k)) b m) _ c more (single_step _ (in_class k) c e)

-- ---- ranges

hyphen_step : (s : State) (k : Classed) (first : Option ℕ) → step_part s k first 45 ≡ Some (in_stage s (at_hyphen k first))
unfolding step_part
hyphen_step s k first = refl

plain_end : (s : State) (k : Classed) (v c : ℕ) → is_plain c ≡ true → nat_le v c ≡ true → step_hyphen s k (Some v) c ≡ Some (in_stage s (at_part (with_range k v c) None))
unfolding step_hyphen step_range
plain_end s k v c e o =
    let p = neither (c == 91) (c == 93 || (c == 92 || (c == 45 || false))) e in
    let q = neither (c == 93) (c == 92 || (c == 45 || false)) p.1 in
    let r = neither (c == 92) (c == 45 || false) q.1 in
    let t = neither (c == 45) false r.1 in
    passed (c == 93) _ _ q.0 ∙ (passed (c == 91) _ _ p.0 ∙ (passed (c == 45) _ _ t.0 ∙ (passed (c == 92) _ _ r.0 ∙ taken (nat_le v c) _ _ o)))

le_trans : (a b c : ℕ) → nat_le a b ≡ true → nat_le b c ≡ true → nat_le a c ≡ true
le_trans a b c e f = grind (arith, nat_tests)

among_low : (f : ℕ → Bool) (ds : List ℕ) (c : ℕ) → list_all f ds ≡ true → is_among ds c ≡ true → f c ≡ true
among_low f [] c e g = cc
among_low f (d ∷ ds) c e g =
    let P : Bool → Type 0 = λ t. (t || is_among ds c) ≡ true → (c == d) ≡ t → f c ≡ true in
    (elim (c == d) as P [
      | true ↦ λ _ same. at_char (λ v. f v ≡ true) c d same (left_of (f d) (list_all f ds) e)
      | false ↦ λ h _. among_low f ds c (right_of (f d) (list_all f ds) e) h
    ]) g refl

single_low : (e : ℕ) → is_single e ≡ true → nat_le (single_value e) 125 ≡ true
single_low e g = among_low (λ v. nat_le (single_value v) 125) (110 ∷ 114 ∷ 116 ∷ 92 ∷ 124 ∷ 46 ∷ 63 ∷ 42 ∷ 43 ∷ 40 ∷ 41 ∷ 123 ∷ 125 ∷ 45 ∷ 91 ∷ 93 ∷ 94 ∷ []) e refl g

range_backslash : (s : State) (k : Classed) (v : ℕ) → nat_le v 125 ≡ true → step_hyphen s k (Some v) 92 ≡ Some (in_stage s (at_range_escape k v))
unfolding step_hyphen step_range
range_backslash s k v o = taken (nat_le v 125) _ _ o

range_escape : (s : State) (k : Classed) (v e : ℕ) → is_single e ≡ true → nat_le v (single_value e) ≡ true → step_range_escape s k v e ≡ Some (in_stage s (at_part (with_range k v (single_value e)) None))
unfolding step_range_escape
range_escape s k v e g o = taken (is_single e) _ _ g ∙ taken (nat_le v (single_value e)) _ _ o

range_last : (k : Classed) (v : ℕ) (l : Letter) (more : List ℕ) (b : Built) (m : Notes) → is_letter l ≡ true → nat_le v (letter_value l) ≡ true →
    after (Some (at (at_hyphen k (Some v)) b m)) (letter_text l ++ more) ≡ after (Some (at (at_part (with_range k v (letter_value l)) None) b m)) more
range_last k v (plain c) more b m e o = goes (at (at_hyphen k (Some v)) b m) _ c more (plain_end _ k v c e o)
range_last k v (escaped c) more b m e o =
    goes (at (at_hyphen k (Some v)) b m) (at (at_range_escape k v) b m) 92 (c ∷ more) (range_backslash _ k v (le_trans v (single_value c) 125 o (single_low c e)))
    ∙ goes (at (at_range_escape k v) b m) _ c more (range_escape _ k v c e o)

range_item : (k : Classed) (v w : ℕ) → with_range (with_item k (One v)) v w ≡ with_item k (Range v w)
range_item k v w = ap (λ l. record { groups = k.groups; hand = record { negated = k.hand.negated; items = l } }) (change_last_snoc (λ item. Range v w) k.hand.items (One v))

-- ---- parts

abbrev part_first : Part → Option ℕ
part_first (one letter) = Some (letter_value letter)
part_first (range first last) = None
part_first (set escape) = None

set_run : (o : Opening) (k : Classed) (of : Escape) (more : List ℕ) (b : Built) (m : Notes) → is_escape of ≡ true →
    after (Some (at (stage_of o k) b m)) (92 ∷ (drop 1 (escape_text of) ++ more)) ≡ after (Some (at (at_part (with_item k (escape_item of)) None) b (escape_noted m of))) more
set_run o k of more b m e =
    goes (at (stage_of o k) b m) (at (at_backslash (in_class k)) b m) 92 (drop 1 (escape_text of) ++ more) (backslash_step o _ k)
    ∙ escape_run (in_class k) of more b m e

part_run : (o : Opening) (k : Classed) (p : Part) (more : List ℕ) (b : Built) (m : Notes) → is_part p ≡ true → allows o (part_text p ++ more) ≡ true →
    after (Some (at (stage_of o k) b m)) (part_text p ++ more) ≡ after (Some (at (at_part (with_item k (part_item p)) (part_first p)) b (part_noted m p))) more
part_run o k (one l) more b m e f = letter_run o k l more b m e f
part_run o k (range x y) more b m e f =
    let split : (letter_text x ++ 45 ∷ letter_text y) ++ more ≡ letter_text x ++ 45 ∷ (letter_text y ++ more) = append_assoc (letter_text x) (45 ∷ letter_text y) more in
    let letters : (is_letter x && is_letter y) ≡ true = left_of (is_letter x && is_letter y) (nat_le (letter_value x) (letter_value y)) e in
    let k' : Classed = with_item k (One (letter_value x)) in
    ap (after (Some (at (stage_of o k) b m))) split
    ∙ letter_run o k x (45 ∷ (letter_text y ++ more)) b m (left_of (is_letter x) (is_letter y) letters) (subst (λ l. allows o l ≡ true) split f)
    ∙ goes (at (at_part k' (Some (letter_value x))) b m) (at (at_hyphen k' (Some (letter_value x))) b m) 45 (letter_text y ++ more) (hyphen_step _ k' (Some (letter_value x)))
    ∙ range_last k' (letter_value x) y more b m (right_of (is_letter x) (is_letter y) letters) (right_of (is_letter x && is_letter y) (nat_le (letter_value x) (letter_value y)) e)
    ∙ ap (λ j. after (Some (at (at_part j None) b m)) more) (range_item k (letter_value x) (letter_value y))
part_run o k (set (several x)) more b m e f = set_run o k (several x) more b m e
part_run o k (set (property complement name)) more b m e f = set_run o k (property complement name) more b m e

abbrev opening_behind : Opening → List Part → Opening
opening_behind o [] = o
opening_behind o (part ∷ parts) = opening_behind (behind_part (part_first part)) parts

parts_run : (o : Opening) (k : Classed) (ps : List Part) (more : List ℕ) (b : Built) (m : Notes) → list_all is_part ps ≡ true → allows o (parts_text ps ++ more) ≡ true →
    after (Some (at (stage_of o k) b m)) (parts_text ps ++ more) ≡ after (Some (at (stage_of (opening_behind o ps) (parts_classed k ps)) b (parts_noted m ps))) more
parts_run o k [] more b m e f = refl
parts_run o k (p ∷ ps) more b m e f =
    let split : (part_text p ++ parts_text ps) ++ more ≡ part_text p ++ (parts_text ps ++ more) = append_assoc (part_text p) (parts_text ps) more in
    ap (after (Some (at (stage_of o k) b m))) split
    ∙ part_run o k p (parts_text ps ++ more) b m (left_of (is_part p) (list_all is_part ps) e) (subst (λ l. allows o l ≡ true) split f)
    ∙ parts_run (behind_part (part_first p)) (with_item k (part_item p)) ps more b (part_noted m p) (right_of (is_part p) (list_all is_part ps) e) refl

abbrev first_behind : Option ℕ → List Part → Option ℕ
first_behind first [] = first
first_behind first (part ∷ parts) = first_behind (part_first part) parts

behind_parts : (first : Option ℕ) (ps : List Part) → opening_behind (behind_part first) ps ≡ behind_part (first_behind first ps)
behind_parts first [] = refl
behind_parts first (p ∷ ps) = behind_parts (part_first p) ps

-- ---- groups

abbrev opening_of : Bool → Opening
opening_of true = new_first
opening_of false = new_class

first_hyphen_step : (negated : Bool) (s : State) (k : Classed) → step_in (stage_of (opening_of negated) k) s 45 ≡ Some (in_stage s (at_part (with_item k (One 45)) None))
unfolding step_class step_first
first_hyphen_step true s k = refl
first_hyphen_step false s k = refl

-- the parts with the first hyphen
body_run : (negated hyphen : Bool) (k : Classed) (ps : List Part) (more : List ℕ) (b : Built) (m : Notes) → list_all is_part ps ≡ true → (hyphen || is_given ps) ≡ true →
    allows (opening_of negated) (sign hyphen 45 ++ (parts_text ps ++ more)) ≡ true →
    (first : Option ℕ) × (after (Some (at (stage_of (opening_of negated) k) b m)) (sign hyphen 45 ++ (parts_text ps ++ more)) ≡ after (Some (at (at_part (parts_classed (hyphened_by hyphen k) ps) first) b (parts_noted m ps))) more)
body_run negated true k ps more b m e g f = (
  first_behind None ps,
  goes (at (stage_of (opening_of negated) k) b m) (at (at_part (with_item k (One 45)) None) b m) 45 (parts_text ps ++ more) (first_hyphen_step negated _ k)
      ∙ parts_run (behind_part None) (with_item k (One 45)) ps more b m e refl
      ∙ ap (λ o. after (Some (at (stage_of o (parts_classed (with_item k (One 45)) ps)) b (parts_noted m ps))) more) (behind_parts None ps),
)
body_run negated false k [] more b m e g f = cc
body_run negated false k (p ∷ ps) more b m e g f = (
  first_behind (part_first p) ps,
  parts_run (opening_of negated) k (p ∷ ps) more b m e f
      ∙ ap (λ o. after (Some (at (stage_of o (parts_classed (with_item k (part_item p)) ps)) b (parts_noted (part_noted m p) ps))) more) (behind_parts (part_first p) ps),
)

closing_same : (x y : Stage) (b : Built) (m : Notes) (k : Classed) (more : ℕ) → closing (at x b m) k more ≡ closing (at y b m) k more
closing_same x y b m k zero = refl
closing_same x y b m k (suc more) = refl

pub end_step : (s : State) (k : Classed) (first : Option ℕ) → step_part s k first 93 ≡ Some (closed_class s k)
unfolding step_part
end_step s k first = refl

pub hyphen_end : (s : State) (k : Classed) (first : Option ℕ) → step_hyphen s k first 93 ≡ Some (closed_class s (with_item k (One 45)))
unfolding step_hyphen
hyphen_end s k first = refl

hyphen_class : (s : State) (k : Classed) (first : Option ℕ) → step_hyphen s k first 91 ≡ Some (in_stage s (at_class (with_group k)))
unfolding step_hyphen
hyphen_class s k first = refl

hyphen_hyphen : (s : State) (k : Classed) (first : Option ℕ) → step_hyphen s k first 45 ≡ Some (in_stage s (at_less (with_item k (One 45))))
unfolding step_hyphen
hyphen_hyphen s k first = refl

pub less_class : (s : State) (k : Classed) → step_less s k 91 ≡ Some (in_stage s (at_class (with_group k)))
unfolding step_less
less_class s k = refl

-- the end of the group, perhaps behind a hyphen
end_run : (hyphen : Bool) (k : Classed) (first : Option ℕ) (more : List ℕ) (b : Built) (m : Notes) (x : Stage) →
    after (Some (at (at_part k first) b m)) (sign hyphen 45 ++ 93 ∷ more) ≡ after (Some (closing (at x b m) (hyphened_by hyphen k) (length k.groups))) more
end_run false k first more b m x =
    goes (at (at_part k first) b m) _ 93 more (end_step _ k first)
    ∙ ap (λ s. after (Some s) more) (closing_same (at_part k first) x b m k (length k.groups))
end_run true k first more b m x =
    goes (at (at_part k first) b m) (at (at_hyphen k first) b m) 45 (93 ∷ more) (hyphen_step _ k first)
    ∙ goes (at (at_hyphen k first) b m) _ 93 more (hyphen_end _ k first)
    ∙ ap (λ s. after (Some s) more) (closing_same (at_hyphen k first) x b m (with_item k (One 45)) (length k.groups))

-- a class to subtract, perhaps behind a hyphen
less_run : (hyphen : Bool) (k : Classed) (first : Option ℕ) (more : List ℕ) (b : Built) (m : Notes) →
    after (Some (at (at_part k first) b m)) (sign hyphen 45 ++ 45 ∷ 91 ∷ more) ≡ after (Some (at (at_class (with_group (hyphened_by hyphen k))) b m)) more
less_run false k first more b m =
    goes (at (at_part k first) b m) (at (at_hyphen k first) b m) 45 (91 ∷ more) (hyphen_step _ k first)
    ∙ goes (at (at_hyphen k first) b m) _ 91 more (hyphen_class _ k first)
less_run true k first more b m =
    goes (at (at_part k first) b m) (at (at_hyphen k first) b m) 45 (45 ∷ 91 ∷ more) (hyphen_step _ k first)
    ∙ goes (at (at_hyphen k first) b m) (at (at_less (with_item k (One 45))) b m) 45 (91 ∷ more) (hyphen_hyphen _ k first)
    ∙ goes (at (at_less (with_item k (One 45))) b m) _ 91 more (less_class _ (with_item k (One 45)))

-- ---- class expressions

sign_run : (negated : Bool) (k : Classed) (more : List ℕ) (b : Built) (m : Notes) →
    after (Some (at (at_class k) b m)) (sign negated 94 ++ more) ≡ after (Some (at (stage_of (opening_of negated) (negated_by negated k)) b m)) more
unfolding step_class
sign_run true k more b m = refl
sign_run false k more b m = refl

parts_groups : (k : Classed) (ps : List Part) → (parts_classed k ps).groups ≡ k.groups
parts_groups k [] = refl
parts_groups k (p ∷ ps) = parts_groups (with_item k (part_item p)) ps

hyphened_groups : (h : Bool) (k : Classed) → (hyphened_by h k).groups ≡ k.groups
hyphened_groups true k = refl
hyphened_groups false k = refl

negated_groups : (h : Bool) (k : Classed) → (negated_by h k).groups ≡ k.groups
negated_groups true k = refl
negated_groups false k = refl

-- all but the last hyphen
abbrev begun : Classed → Members → Classed
begun k m = parts_classed (hyphened_by m.first_hyphen (negated_by m.negated k)) m.parts

begun_groups : (k : Classed) (m : Members) → (begun k m).groups ≡ k.groups
begun_groups k m = parts_groups (hyphened_by m.first_hyphen (negated_by m.negated k)) m.parts ∙ (hyphened_groups m.first_hyphen (negated_by m.negated k) ∙ negated_groups m.negated k)

members_groups : (k : Classed) (m : Members) → (members_classed k m).groups ≡ k.groups
members_groups k m = hyphened_groups m.last_hyphen (begun k m) ∙ begun_groups k m

given_front : (xs ys : List ℕ) → is_given xs ≡ true → (c : ℕ) → begins c (xs ++ ys) ≡ begins c xs
given_front [] ys e c = cc
given_front (x ∷ xs) ys e c = refl

given_left : (xs ys : List ℕ) → is_given xs ≡ true → is_given (xs ++ ys) ≡ true
given_left [] ys e = cc
given_left (x ∷ xs) ys e = refl

part_given : (p : Part) → is_given (part_text p) ≡ true
part_given (one (plain c)) = refl
part_given (one (escaped c)) = refl
part_given (range (plain c) l) = refl
part_given (range (escaped c) l) = refl
part_given (set (several c)) = refl
part_given (set (property complement name)) = refl

parts_given : (ps : List Part) (ys : List ℕ) → is_given ps ≡ true → is_given (parts_text ps ++ ys) ≡ true
parts_given [] ys e = cc
parts_given (p ∷ ps) ys e = given_left (part_text p ++ parts_text ps) ys (given_left (part_text p) (parts_text ps) (part_given p))

body_given : (h : Bool) (ps : List Part) (ys : List ℕ) → (h || is_given ps) ≡ true → is_given (sign h 45 ++ (parts_text ps ++ ys)) ≡ true
body_given true ps ys e = refl
body_given false ps ys e = parts_given ps ys e

body_allowed : (negated : Bool) (body more : List ℕ) → is_given body ≡ true → (negated || not (begins 94 body)) ≡ true → allows (opening_of negated) (body ++ more) ≡ true
body_allowed true body more g e = refl
body_allowed false body more g e = ap not (given_front body more g 94) ∙ e

regroup_body : (h p l more : List ℕ) → (h ++ (p ++ l)) ++ more ≡ h ++ (p ++ (l ++ more))
regroup_body h p l more = simp append_assoc

-- the members but the last hyphen, behind which the rest comes
members_run : (k : Classed) (ms : Members) (rest : List ℕ) (b : Built) (m : Notes) → is_members ms ≡ true →
    (first : Option ℕ) × (after (Some (at (at_class k) b m)) (sign ms.negated 94 ++ (body_text ms ++ rest)) ≡ after (Some (at (at_part (begun k ms) first) b (parts_noted m ms.parts))) (sign ms.last_hyphen 45 ++ rest))
members_run k ms rest b m e =
    let front : (list_all is_part ms.parts && (ms.first_hyphen || is_given ms.parts)) ≡ true = left_of (list_all is_part ms.parts && (ms.first_hyphen || is_given ms.parts)) (ms.negated || not (begins 94 (body_text ms))) e in
    let good : list_all is_part ms.parts ≡ true = left_of (list_all is_part ms.parts) (ms.first_hyphen || is_given ms.parts) front in
    let given : (ms.first_hyphen || is_given ms.parts) ≡ true = right_of (list_all is_part ms.parts) (ms.first_hyphen || is_given ms.parts) front in
    let sound : (ms.negated || not (begins 94 (body_text ms))) ≡ true = right_of (list_all is_part ms.parts && (ms.first_hyphen || is_given ms.parts)) (ms.negated || not (begins 94 (body_text ms))) e in
    let split : body_text ms ++ rest ≡ sign ms.first_hyphen 45 ++ (parts_text ms.parts ++ (sign ms.last_hyphen 45 ++ rest)) = regroup_body (sign ms.first_hyphen 45) (parts_text ms.parts) (sign ms.last_hyphen 45) rest in
    let run = body_run ms.negated ms.first_hyphen (negated_by ms.negated k) ms.parts (sign ms.last_hyphen 45 ++ rest) b m good given
    (subst (λ l. allows (opening_of ms.negated) l ≡ true) split (body_allowed ms.negated (body_text ms) rest (body_given ms.first_hyphen ms.parts (sign ms.last_hyphen 45) given) sound)) in (
      run.0,
      sign_run ms.negated k (body_text ms ++ rest) b m
          ∙ ap (after (Some (at (stage_of (opening_of ms.negated) (negated_by ms.negated k)) b m))) split
          ∙ run.1,
    )

pub step_end_suc : (s : State) (k : Classed) (more : ℕ) → step_end s k (suc more) 93 ≡ Some (closing s k more)
unfolding step_end
step_end_suc s k more = ap (λ n. Some (closing s k n)) (omega arith)

last_end : (k : Classed) (more : ℕ) (rest : List ℕ) (b : Built) (m : Notes) (x y : Stage) →
    after (Some (closing (at x b m) k (suc more))) (93 ∷ rest) ≡ after (Some (closing (at y b m) k more)) rest
last_end k more rest b m x y =
    goes (at (at_end k (suc more)) b m) _ 93 rest (step_end_suc _ k more)
    ∙ ap (λ s. after (Some s) rest) (closing_same (at_end k (suc more)) y b m k more)

pub bracket_front : (br : Bracketed) (more : List ℕ) → bracketed_text br ++ more ≡ 91 ∷ (drop 1 (bracketed_text br) ++ more)
bracket_front (only ms) more = refl
bracket_front (less ms sub) more = refl

pub bracketed_run : (br : Bracketed) (gs : List Group) (more : List ℕ) (b : Built) (m : Notes) (x : Stage) → is_bracketed br ≡ true →
    after (Some (at (at_class (record { groups = gs; hand = no_group })) b m)) (drop 1 (bracketed_text br) ++ more)
    ≡ after (Some (closing (at x b (bracketed_noted m br)) (bracketed_classed (record { groups = gs; hand = no_group }) br) (length gs))) more
bracketed_run (only ms) gs more b m x e =
    let k : Classed = record { groups = gs; hand = no_group } in
    let split : (sign ms.negated 94 ++ (body_text ms ++ 93 ∷ [])) ++ more ≡ sign ms.negated 94 ++ (body_text ms ++ 93 ∷ more) = regroup_body (sign ms.negated 94) (body_text ms) (93 ∷ []) more in
    let run = members_run k ms (93 ∷ more) b m e in
    ap (after (Some (at (at_class k) b m))) split
    ∙ run.1
    ∙ end_run ms.last_hyphen (begun k ms) run.0 more b (parts_noted m ms.parts) x
    ∙ ap (λ n. after (Some (closing (at x b (parts_noted m ms.parts)) (members_classed k ms) n)) more) (ap length (begun_groups k ms))
bracketed_run (less ms sub) gs more b m x e =
    let k : Classed = record { groups = gs; hand = no_group } in
    let d : List ℕ = drop 1 (bracketed_text sub) in
    let m' : Notes = parts_noted m ms.parts in
    let j : Classed = members_classed k ms in
    let split : (sign ms.negated 94 ++ (body_text ms ++ 45 ∷ (bracketed_text sub ++ 93 ∷ []))) ++ more ≡ sign ms.negated 94 ++ (body_text ms ++ 45 ∷ 91 ∷ (d ++ 93 ∷ more))
    = regroup_body (sign ms.negated 94) (body_text ms) (45 ∷ (bracketed_text sub ++ 93 ∷ [])) more
    ∙ ap (λ l. sign ms.negated 94 ++ (body_text ms ++ 45 ∷ l)) (append_assoc (bracketed_text sub) (93 ∷ []) more ∙ bracket_front sub (93 ∷ more)) in
    let run = members_run k ms (45 ∷ 91 ∷ (d ++ 93 ∷ more)) b m (left_of (is_members ms) (is_bracketed sub) e) in
    let inner = bracketed_run sub (j.groups ++ j.hand ∷ []) (93 ∷ more) b m' x (right_of (is_members ms) (is_bracketed sub) e) in
    ap (after (Some (at (at_class k) b m))) split
    ∙ run.1
    ∙ less_run ms.last_hyphen (begun k ms) run.0 (d ++ 93 ∷ more) b m'
    ∙ inner
    ∙ ap (λ n. after (Some (closing (at x b (bracketed_noted m' sub)) (bracketed_classed (with_group j) sub) n)) (93 ∷ more)) (length_snoc j.groups j.hand ∙ ap (λ l. suc (length l)) (members_groups k ms))
    ∙ last_end (bracketed_classed (with_group j) sub) (length gs) more b (bracketed_noted m' sub) x x
