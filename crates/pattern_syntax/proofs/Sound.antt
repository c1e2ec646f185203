-- What the machine reads to an end is as the grammar says: one character more in front.
use Rattle.std.proofs.Common.{◌≡◌, ℕ, zero, suc, ◌-◌, Bool, true, false, not, ◌&&◌, ◌||◌, ◌==◌, nat_le, if◌then◌else◌, List, [], ◌∷◌, ◌++◌, length, Option, Some, None, ◌⊎◌, inl, inr, refl, ap, sym, ◌∙◌, subst, append_assoc, arith}
use Rattle.std.specs.List.{list_all}
use Rattle.pattern_syntax.specs.declared.class.ClassItem.{ClassItem}
use Rattle.pattern_syntax.specs.declared.fault.Notes.{Notes}
use Rattle.pattern_syntax.specs.Built.{Frame, Built, closed, closed_into}
use Rattle.pattern_syntax.specs.Classes.{Group}
use Rattle.pattern_syntax.specs.Classed.{Classed}
use Rattle.pattern_syntax.specs.Characters.{is_normal, is_plain, is_single, single_value, several_item, is_ascii_digit, is_word}
use Rattle.pattern_syntax.specs.Grammar.{RegExp, alone, joined, Branch, no_piece, piece, Atom, normal, wildcard, single, special, bracketed, group, Quantifier, once, optional, any_number, at_least_once, exactly, at_least, between, only, less, Members, Part, one, range, set, Letter, plain, escaped, Escape, several, property, regexp_text, branch_text, atom_text, quantifier_text, bracketed_text, body_text, part_text, parts_text, letter_text, escape_text, sign, is_regexp, is_branch, is_atom, is_quantifier, is_bracketed, is_members, is_part, is_letter, is_escape, letter_value, are_digits, is_given, is_some, begins, number}
use Rattle.pattern_syntax.specs.Machine.{Within, in_branch, in_class, Stage, at_piece, at_least_digits, at_most_digits, at_backslash, at_property, at_name, at_class, at_first, at_part, at_hyphen, at_less, at_range_escape, at_end, State, give, give_one, closing, after, step, is_end, step_piece, step_quantifier, step_closed, step_least, step_most, step_escape, step_letter, step_property, step_name, step_first, step_class, step_part, step_range, step_hyphen, step_less, step_range_escape, step_end}
use Rattle.pattern_syntax.proofs.Choosing.{on_if, both, left_of, right_of, at_char, list_all_snoc, length_snoc}
use Rattle.pattern_syntax.proofs.Remains.{Quantified, WithAtom, Tail, WithClass, OneEnd, Ends, Ending, WithParts, WithRange, BehindPart, WithBody, WithSingle, WithEscape, letter_of, EscapeRemains, BackslashRemains, RemainsIn, Remains, Ready}

-- ---- texts of the grammar, grown in front

abbrev prepend : Atom → Quantifier → RegExp → RegExp
prepend a q (alone b) = alone (piece a q b)
prepend a q (joined b r) = joined (piece a q b) r

prepend-text : (a : Atom) (q : Quantifier) (r : RegExp) → regexp_text (prepend a q r) ≡ atom_text a ++ (quantifier_text q ++ regexp_text r)
prepend-text a q (alone b) = refl
prepend-text a q (joined b r) =
    append_assoc (atom_text a) (quantifier_text q ++ branch_text b) (124 ∷ regexp_text r)
    ∙ ap (λ l. atom_text a ++ l) (append_assoc (quantifier_text q) (branch_text b) (124 ∷ regexp_text r))

is_piece : (a : Atom) (q : Quantifier) (b : Branch) → is_atom a ≡ true → is_quantifier q ≡ true → is_branch b ≡ true → is_branch (piece a q b) ≡ true
is_piece a q b ea eq eb = both (is_atom a && is_quantifier q) (is_branch b) (both (is_atom a) (is_quantifier q) ea eq) eb

is_prepend : (a : Atom) (q : Quantifier) (r : RegExp) → is_atom a ≡ true → is_quantifier q ≡ true → is_regexp r ≡ true → is_regexp (prepend a q r) ≡ true
is_prepend a q (alone b) ea eq er = is_piece a q b ea eq er
is_prepend a q (joined b r) ea eq er =
    both (is_branch (piece a q b)) (is_regexp r) (is_piece a q b ea eq (left_of (is_branch b) (is_regexp r) er)) (right_of (is_branch b) (is_regexp r) er)

-- an atom in front of its quantifier and the rest
tail_piece : (n : ℕ) (a : Atom) (cs : List ℕ) → is_atom a ≡ true → Quantified (Tail n) cs → Tail n (atom_text a ++ cs)
tail_piece zero a cs e t =
    let w = t.next in
    record {
      regexp = prepend a t.quantifier w.regexp;
      good = is_prepend a t.quantifier w.regexp e t.good w.good;
      spelled = ap (λ l. atom_text a ++ l) (t.spelled ∙ ap (λ l. quantifier_text t.quantifier ++ l) w.spelled) ∙ sym (prepend-text a t.quantifier w.regexp);
    }
tail_piece (suc n) a cs e t =
    let w = t.next in
    record {
      regexp = prepend a t.quantifier w.regexp;
      rest = w.rest;
      good = is_prepend a t.quantifier w.regexp e t.good w.good;
      spelled =
          ap (λ l. atom_text a ++ l) (t.spelled ∙ ap (λ l. quantifier_text t.quantifier ++ l) w.spelled ∙ sym (append_assoc (quantifier_text t.quantifier) (regexp_text w.regexp) (41 ∷ w.rest)))
          ∙ sym (append_assoc (atom_text a) (quantifier_text t.quantifier ++ regexp_text w.regexp) (41 ∷ w.rest))
          ∙ ap (λ l. l ++ 41 ∷ w.rest) (sym (prepend-text a t.quantifier w.regexp));
      next = w.next;
    }

tail_atom : (n : ℕ) (cs : List ℕ) → WithAtom (Quantified (Tail n)) cs → Tail n cs
tail_atom n cs t = subst (Tail n) (sym t.spelled) (tail_piece n t.atom t.rest t.good t.next)

tail_bar : (n : ℕ) (cs : List ℕ) → Tail n cs → Tail n (124 ∷ cs)
tail_bar zero cs t = record { regexp = joined no_piece t.regexp; good = t.good; spelled = ap (λ l. 124 ∷ l) t.spelled }
tail_bar (suc n) cs t = record { regexp = joined no_piece t.regexp; rest = t.rest; good = t.good; spelled = ap (λ l. 124 ∷ l) t.spelled; next = t.next }

tail_close : (n : ℕ) (cs : List ℕ) → Quantified (Tail n) cs → Tail (suc n) (41 ∷ cs)
tail_close n cs t = record { regexp = alone no_piece; rest = cs; good = refl; spelled = refl; next = t }

tail_open : (n : ℕ) (cs : List ℕ) → Tail (suc n) cs → Tail n (40 ∷ cs)
tail_open n cs t =
    subst (λ l. Tail n (40 ∷ l)) (append_assoc (regexp_text t.regexp) (41 ∷ []) t.rest ∙ sym t.spelled) (tail_piece n (group t.regexp) t.rest t.good t.next)

-- a piece, or a quantifier that is none and then a piece
unquantified : (repeatable : Bool) (n : ℕ) (cs : List ℕ) → Tail n cs → RemainsIn (at_piece repeatable) n cs
unquantified false n cs t = t
unquantified true n cs t = record { quantifier = once; rest = cs; good = refl; spelled = refl; next = t }

abbrev members_of : {E : List ℕ → Type 0} {cs : List ℕ} → Bool → WithBody E cs → Members
members_of negated t = record { negated = negated; first_hyphen = t.first_hyphen; parts = t.parts; last_hyphen = t.hyphen }

-- a character that is none of those with a part in a class
other_plain : (c : ℕ) → (c == 91) ≡ false → (c == 93) ≡ false → (c == 92) ≡ false → (c == 45) ≡ false → is_plain c ≡ true
other_plain c e f g h = rw (e, f, g, h) refl

other_head : (x c : ℕ) (xs ys : List ℕ) → c ∷ xs ≡ x ∷ ys → (c == 94) ≡ false → (x == 94) ≡ false
other_head x c xs ys e other = let same : c ≡ x = cc in subst (λ v. (v == 94) ≡ false) same other

regroup_parts : (p ps h r : List ℕ) → (p ++ ps) ++ (h ++ r) ≡ (p ++ (ps ++ h)) ++ r
regroup_parts p ps h r = simp append_assoc

part_head : (part : Part) (more ys : List ℕ) (c : ℕ) (xs : List ℕ) → c ∷ xs ≡ (part_text part ++ more) ++ ys → (c == 94) ≡ false → begins 94 (part_text part ++ more) ≡ false
part_head (one (plain x)) more ys c xs e other = other_head x c xs _ e other
part_head (one (escaped x)) more ys c xs e other = refl
part_head (range (plain x) l) more ys c xs e other = other_head x c xs _ e other
part_head (range (escaped x) l) more ys c xs e other = refl
part_head (set (several x)) more ys c xs e other = refl
part_head (set (property complement name)) more ys c xs e other = refl

parts_head : (parts : List Part) (hyphen : Bool) (rest : List ℕ) (c : ℕ) (xs : List ℕ) → is_given parts ≡ true → c ∷ xs ≡ parts_text parts ++ (sign hyphen 45 ++ rest) → (c == 94) ≡ false →
    begins 94 (parts_text parts ++ sign hyphen 45) ≡ false
parts_head [] hyphen rest c xs g e other = cc
parts_head (part ∷ parts) hyphen rest c xs g e other =
    let again : c ∷ xs ≡ (part_text part ++ (parts_text parts ++ sign hyphen 45)) ++ rest = e ∙ regroup_parts (part_text part) (parts_text parts) (sign hyphen 45) rest in
    subst (λ l. begins 94 l ≡ false) (sym (append_assoc (part_text part) (parts_text parts) (sign hyphen 45))) (part_head part (parts_text parts ++ sign hyphen 45) rest c xs again other)

body_head : (first_hyphen : Bool) (parts : List Part) (hyphen : Bool) (rest : List ℕ) (c : ℕ) (xs : List ℕ) → (first_hyphen || is_given parts) ≡ true →
    c ∷ xs ≡ sign first_hyphen 45 ++ (parts_text parts ++ (sign hyphen 45 ++ rest)) → (c == 94) ≡ false →
    not (begins 94 (sign first_hyphen 45 ++ (parts_text parts ++ sign hyphen 45))) ≡ true
body_head true parts hyphen rest c xs g e other = refl
body_head false parts hyphen rest c xs g e other = ap not (parts_head parts hyphen rest c xs g e other)

no_caret : {E : List ℕ → Type 0} (c : ℕ) (cs : List ℕ) (t : WithBody E (c ∷ cs)) → (c == 94) ≡ false → (false || not (begins 94 (body_text (members_of false t)))) ≡ true
no_caret c cs t other = body_head t.first_hyphen t.parts t.hyphen t.rest c cs t.given t.spelled other

no_outer : (outer : List Frame) → not (is_given outer) ≡ true → Tail (length outer) []
no_outer [] e = record { regexp = alone no_piece; good = refl; spelled = refl }
no_outer (f ∷ fs) e = cc

-- ---- steps

one_less : (more : ℕ) → suc more - 1 ≡ more
one_less more = omega arith

abbrev pub Accepts : Option State → List ℕ → Type 0
Accepts o cs = (f : State) × (after o cs ≡ Some f) × (is_end f ≡ true)

dead : {P : Type 0} (cs : List ℕ) → Accepts None cs → P
dead cs (f, e, d) = cc

-- what is to be shown of the rest
abbrev pub Holds : List ℕ → Type 0
Holds cs = (s : State) → Ready s.stage → Accepts (Some s) cs → Remains s cs

close_front : (cs : List ℕ) → Holds cs → (here : Frame) (outer : List Frame) (noted : Notes) (repeatable : Bool) →
    Accepts (step_closed (record { stage = at_piece repeatable; built = record { outer = outer; here = here }; noted = noted }) (closed_into here outer)) cs →
    RemainsIn (at_piece repeatable) (length outer) (41 ∷ cs)
close_front cs ih here [] noted repeatable acc = dead cs acc
close_front cs ih here (f ∷ fs) noted repeatable acc = unquantified repeatable (length (f ∷ fs)) (41 ∷ cs) (tail_close (length fs) cs (ih _ tt acc))

none_given : {A : Type 0} (xs : List A) → is_given xs ≡ false → xs ≡ []
none_given [] e = refl
none_given (x ∷ xs) e = cc

-- ---- groups of classes, grown in front

behind : {E : List ℕ → Type 0} (first : Option ℕ) (cs : List ℕ) → WithParts E cs → BehindPart E first cs
behind None cs t = t
behind (Some first) cs t = inl t

-- parts, at least one
record GivenParts (E : List ℕ → Type 0) (cs : List ℕ) : Type 0 where
  parts : WithParts E cs
  given : is_given parts.parts ≡ true

one_front : {E : List ℕ → Type 0} (l : Letter) (cs : List ℕ) → is_letter l ≡ true → BehindPart E (Some (letter_value l)) cs → GivenParts E (letter_text l ++ cs)
one_front l cs e (inl t) = record {
  parts = record {
    parts = one l ∷ t.parts;
    hyphen = t.hyphen;
    rest = t.rest;
    good = both (is_letter l) (list_all is_part t.parts) e t.good;
    spelled = ap (λ xs. letter_text l ++ xs) t.spelled ∙ sym (append_assoc (letter_text l) (parts_text t.parts) (sign t.hyphen 45 ++ t.rest));
    next = t.next;
  };
  given = refl;
}
one_front l cs e (inr r) =
    let t = r.next in
    record {
      parts = record {
        parts = range l r.last ∷ t.parts;
        hyphen = t.hyphen;
        rest = t.rest;
        good = both (is_part (range l r.last)) (list_all is_part t.parts) (both (is_letter l && is_letter r.last) (nat_le (letter_value l) (letter_value r.last)) (both (is_letter l) (is_letter r.last) e r.good) r.order) t.good;
        spelled = rw r.spelled (rw t.spelled (simp append_assoc));
        next = t.next;
      };
      given = refl;
    }

set_front : {E : List ℕ → Type 0} (of : Escape) (cs : List ℕ) → is_escape of ≡ true → WithParts E cs → GivenParts E (escape_text of ++ cs)
set_front of cs e t = record {
  parts = record {
    parts = set of ∷ t.parts;
    hyphen = t.hyphen;
    rest = t.rest;
    good = both (is_escape of) (list_all is_part t.parts) e t.good;
    spelled = ap (λ xs. escape_text of ++ xs) t.spelled ∙ sym (append_assoc (escape_text of) (parts_text t.parts) (sign t.hyphen 45 ++ t.rest));
    next = t.next;
  };
  given = refl;
}

backslash_front : {E : List ℕ → Type 0} (cs : List ℕ) → (WithSingle E cs ⊎ WithEscape E (92 ∷ cs)) → GivenParts E (92 ∷ cs)
backslash_front {E} cs (inl t) = subst (λ l. GivenParts E (92 ∷ l)) (sym t.spelled) (one_front (escaped t.e) t.rest t.good t.next)
backslash_front {E} cs (inr t) = subst (GivenParts E) (sym t.spelled) (set_front t.of t.rest t.good t.next)

body_front : {E : List ℕ → Type 0} (cs : List ℕ) → GivenParts E cs → WithBody E cs
body_front cs t = record {
  first_hyphen = false;
  parts = t.parts.parts;
  hyphen = t.parts.hyphen;
  rest = t.parts.rest;
  good = t.parts.good;
  given = t.given;
  spelled = t.parts.spelled;
  next = t.parts.next;
}

hyphen_body : {E : List ℕ → Type 0} (cs : List ℕ) → WithParts E cs → WithBody E (45 ∷ cs)
hyphen_body cs t = record {
  first_hyphen = true;
  parts = t.parts;
  hyphen = t.hyphen;
  rest = t.rest;
  good = t.good;
  given = refl;
  spelled = ap (λ l. 45 ∷ l) t.spelled;
  next = t.next;
}

-- no part, perhaps a hyphen, and the end
ended : {E : List ℕ → Type 0} (hyphen : Bool) (cs : List ℕ) → Ending E cs → WithParts E (sign hyphen 45 ++ cs)
ended hyphen cs t = record { parts = []; hyphen = hyphen; rest = cs; good = refl; spelled = refl; next = t }

at_end_of : {E : List ℕ → Type 0} (cs : List ℕ) → E cs → Ending E (93 ∷ cs)
at_end_of cs t = inl (record { rest = cs; spelled = refl; next = t })

less_front : (gs : List Group) (g : Group) (N : List ℕ → Type 0) (cs : List ℕ) → WithClass (Ends (length (gs ++ g ∷ [])) N) (91 ∷ cs) → Ending (Ends (length gs) N) (45 ∷ 91 ∷ cs)
less_front gs g N cs t =
    let one_more : length (gs ++ g ∷ []) ≡ suc (length gs) = length_snoc gs g in
    let e : OneEnd (Ends (length gs) N) t.rest = subst (λ k. Ends k N t.rest) one_more t.next in
    inr (record {
      class = t.class;
      rest = e.rest;
      good = t.good;
      spelled = ap (λ l. 45 ∷ l) (t.spelled ∙ ap (λ l. bracketed_text t.class ++ l) e.spelled);
      next = e.next;
    })

is_group : {E : List ℕ → Type 0} (negated : Bool) (cs : List ℕ) (t : WithBody E cs) → (negated || not (begins 94 (body_text (members_of negated t)))) ≡ true → is_members (members_of negated t) ≡ true
is_group negated cs t e =
    both (list_all is_part t.parts && (t.first_hyphen || is_given t.parts)) (negated || not (begins 94 (body_text (members_of negated t))))
    (both (list_all is_part t.parts) (t.first_hyphen || is_given t.parts) t.good t.given) e

regroup_end : (s f p h r : List ℕ) → s ++ (f ++ (p ++ (h ++ 93 ∷ r))) ≡ (s ++ ((f ++ (p ++ h)) ++ 93 ∷ [])) ++ r
regroup_end s f p h r = simp append_assoc

regroup_less : (s f p h c r : List ℕ) → s ++ (f ++ (p ++ (h ++ 45 ∷ (c ++ 93 ∷ r)))) ≡ (s ++ ((f ++ (p ++ h)) ++ 45 ∷ (c ++ 93 ∷ []))) ++ r
regroup_less s f p h c r = simp append_assoc

class_end : {E : List ℕ → Type 0} (negated : Bool) (cs : List ℕ) (t : WithBody E cs) → is_members (members_of negated t) ≡ true → Ending E t.rest → WithClass E (91 ∷ (sign negated 94 ++ cs))
class_end negated cs t e (inl d) = record {
  class = only (members_of negated t);
  rest = d.rest;
  good = e;
  spelled = rw t.spelled (rw d.spelled (ap (λ l. 91 ∷ l) (regroup_end (sign negated 94) (sign t.first_hyphen 45) (parts_text t.parts) (sign t.hyphen 45) d.rest)));
  next = d.next;
}
class_end negated cs t e (inr d) = record {
  class = less (members_of negated t) d.class;
  rest = d.rest;
  good = both (is_members (members_of negated t)) (is_bracketed d.class) e d.good;
  spelled = rw t.spelled (rw d.spelled (ap (λ l. 91 ∷ l) (regroup_less (sign negated 94) (sign t.first_hyphen 45) (parts_text t.parts) (sign t.hyphen 45) (bracketed_text d.class) d.rest)));
  next = d.next;
}

class_of_body : {E : List ℕ → Type 0} (negated : Bool) (cs : List ℕ) (t : WithBody E cs) → (negated || not (begins 94 (body_text (members_of negated t)))) ≡ true → WithClass E (91 ∷ (sign negated 94 ++ cs))
class_of_body negated cs t e = class_end negated cs t (is_group negated cs t e) t.next

module _ (cs : List ℕ) (ih : Holds cs) (b : Built) (noted : Notes) where
  abbrev n : ℕ
  n = length b.outer

  abbrev at : Stage → State
  at stage = record { stage = stage; built = b; noted = noted }

  quantifier_front : (c : ℕ) → Accepts (step_quantifier (at (at_piece true)) c) cs → Quantified (Tail n) (c ∷ cs)
  unfolding step_quantifier
  quantifier_front c =
      let P : Option State → Type 0 = λ o. Accepts o cs → Quantified (Tail n) (c ∷ cs) in
      let given : (d : ℕ) (q : Quantifier) → (c == d) ≡ true → is_quantifier q ≡ true → quantifier_text q ≡ d ∷ [] → Tail n cs → Quantified (Tail n) (c ∷ cs)
      = λ d q e g x t. at_char (λ v. Quantified (Tail n) (v ∷ cs)) c d e (record { quantifier = q; rest = cs; good = g; spelled = ap (λ l. l ++ cs) (sym x); next = t }) in
      on_if P (c == 63) _ _ (λ e acc. given 63 optional e refl refl (ih _ tt acc))
      (λ _. on_if P (c == 42) _ _ (λ e acc. given 42 any_number e refl refl (ih _ tt acc))
      (λ _. on_if P (c == 43) _ _ (λ e acc. given 43 at_least_once e refl refl (ih _ tt acc))
      (λ _. on_if P (c == 123) _ _ (λ e acc. at_char (λ v. Quantified (Tail n) (v ∷ cs)) c 123 e (ih _ refl acc)) (λ _. dead cs))))

  class_front : WithClass (Quantified (Tail n)) (91 ∷ cs) → Tail n (91 ∷ cs)
  class_front t = tail_atom n (91 ∷ cs) (record { atom = bracketed t.class; rest = t.rest; good = t.good; spelled = t.spelled; next = t.next })

  last_front : (repeatable : Bool) (c : ℕ) → Accepts (if repeatable then step_quantifier (at (at_piece repeatable)) c else None) cs → RemainsIn (at_piece repeatable) n (c ∷ cs)
  last_front true c acc = quantifier_front c acc
  last_front false c acc = dead cs acc

  piece_front : (repeatable : Bool) (c : ℕ) → Accepts (step_piece (at (at_piece repeatable)) repeatable c) cs → RemainsIn (at_piece repeatable) n (c ∷ cs)
  unfolding step_piece
  piece_front repeatable c =
      let G : ℕ → Type 0 = λ v. RemainsIn (at_piece repeatable) n (v ∷ cs) in
      let P : Option State → Type 0 = λ o. Accepts o cs → G c in
      on_if P (is_normal c) _ _ (λ e acc. unquantified repeatable n (c ∷ cs) (tail_piece n (normal c) cs e (ih _ tt acc)))
      (λ _. on_if P (c == 46) _ _ (λ e acc. at_char G c 46 e (unquantified repeatable n (46 ∷ cs) (tail_piece n wildcard cs refl (ih _ tt acc))))
      (λ _. on_if P (c == 92) _ _ (λ e acc. at_char G c 92 e (unquantified repeatable n (92 ∷ cs) (tail_atom n (92 ∷ cs) (ih _ tt acc))))
      (λ _. on_if P (c == 91) _ _ (λ e acc. at_char G c 91 e (unquantified repeatable n (91 ∷ cs) (class_front (ih _ tt acc))))
      (λ _. on_if P (c == 40) _ _ (λ e acc. at_char G c 40 e (unquantified repeatable n (40 ∷ cs) (tail_open n cs (ih _ tt acc))))
      (λ _. on_if P (c == 41) _ _ (λ e. at_char (λ v. Accepts (step_closed (at (at_piece repeatable)) (closed b)) cs → G v) c 41 e (close_front cs ih b.here b.outer noted repeatable))
      (λ _. on_if P (c == 124) _ _ (λ e acc. at_char G c 124 e (unquantified repeatable n (124 ∷ cs) (tail_bar n cs (ih _ tt acc))))
      (λ _. last_front repeatable c)))))))

  least_front : (digits : List ℕ) (c : ℕ) → list_all is_ascii_digit digits ≡ true → Accepts (step_least (at (at_least_digits digits)) digits c) cs → Quantified (Tail n) (123 ∷ (digits ++ c ∷ cs))
  unfolding step_least
  least_front digits c ready =
      let G : ℕ → Type 0 = λ v. Quantified (Tail n) (123 ∷ (digits ++ v ∷ cs)) in
      let P : Option State → Type 0 = λ o. Accepts o cs → G c in
      on_if P (is_ascii_digit c) _ _ (λ e acc. subst (λ l. Quantified (Tail n) (123 ∷ l)) (append_assoc digits (c ∷ []) cs) (ih _ (list_all_snoc is_ascii_digit digits c ready e) acc))
      (λ _. on_if P (is_given digits) _ _
      (λ g. on_if P (c == 44) _ _ (λ e acc. at_char G c 44 e (ih _ (both (is_given digits) (list_all is_ascii_digit digits) g ready, refl) acc))
      (λ _. on_if P (c == 125) _ _ (λ e acc. at_char G c 125 e (record {
        quantifier = exactly digits;
        rest = cs;
        good = both (is_given digits) (list_all is_ascii_digit digits) g ready;
        spelled = ap (λ l. 123 ∷ l) (sym (append_assoc digits (125 ∷ []) cs));
        next = ih _ tt acc;
      })) (λ _. dead cs)))
      (λ _. dead cs))

  most_front : (least digits : List ℕ) (c : ℕ) → are_digits least ≡ true → list_all is_ascii_digit digits ≡ true → Accepts (step_most (at (at_most_digits least digits)) least digits c) cs → Quantified (Tail n) (123 ∷ (least ++ 44 ∷ (digits ++ c ∷ cs)))
  unfolding step_most
  most_front least digits c low ready =
      let G : ℕ → Type 0 = λ v. Quantified (Tail n) (123 ∷ (least ++ 44 ∷ (digits ++ v ∷ cs))) in
      let P : Option State → Type 0 = λ o. Accepts o cs → G c in
      on_if P (is_ascii_digit c) _ _ (λ e acc. subst (λ l. Quantified (Tail n) (123 ∷ (least ++ 44 ∷ l))) (append_assoc digits (c ∷ []) cs) (ih _ (low, list_all_snoc is_ascii_digit digits c ready e) acc))
      (λ _. on_if P (c == 125) _ _
      (λ e. on_if P (is_given digits) _ _
      (λ g. on_if P (nat_le (number least) (number digits)) _ _ (λ o acc. at_char G c 125 e (record {
        quantifier = between least digits;
        rest = cs;
        good = both (are_digits least && are_digits digits) (nat_le (number least) (number digits)) (both (are_digits least) (are_digits digits) low (both (is_given digits) (list_all is_ascii_digit digits) g ready)) o;
        spelled = ap (λ l. 123 ∷ l) (ap (λ l. least ++ 44 ∷ l) (sym (append_assoc digits (125 ∷ []) cs)) ∙ sym (append_assoc least (44 ∷ (digits ++ 125 ∷ [])) cs));
        next = ih _ tt acc;
      })) (λ _. dead cs))
      (λ g acc. at_char G c 125 e (record {
        quantifier = at_least least;
        rest = cs;
        good = low;
        spelled = ap (λ l. 123 ∷ (least ++ 44 ∷ (l ++ 125 ∷ cs))) (none_given digits g) ∙ ap (λ l. 123 ∷ l) (sym (append_assoc least (44 ∷ 125 ∷ []) cs));
        next = ih _ tt acc;
      })))
      (λ _. dead cs))

  letter_front : (w : Within) (c : ℕ) (o : Option ClassItem) → several_item c ≡ o → Accepts (step_letter (at (at_backslash w)) w c o) cs → BackslashRemains w n (c ∷ cs)
  letter_front in_branch c (Some item) e acc = record { atom = special (several c); rest = cs; good = ap is_some e; spelled = refl; next = ih _ tt acc }
  letter_front (in_class k) c (Some item) e acc = inr (record { of = several c; rest = cs; good = ap is_some e; spelled = refl; next = ih _ tt acc })
  letter_front in_branch c None e acc =
      let G : ℕ → Type 0 = λ v. BackslashRemains in_branch n (v ∷ cs) in
      let P : Option State → Type 0 = λ o. Accepts o cs → G c in
      on_if P (c == 112) _ _ (λ e acc. at_char G c 112 e (ih _ tt acc)) (λ _. on_if P (c == 80) _ _ (λ e acc. at_char G c 80 e (ih _ tt acc)) (λ _. dead cs)) acc
  letter_front (in_class k) c None e acc =
      let G : ℕ → Type 0 = λ v. BackslashRemains (in_class k) n (v ∷ cs) in
      let P : Option State → Type 0 = λ o. Accepts o cs → G c in
      on_if P (c == 112) _ _ (λ e acc. at_char G c 112 e (inr (ih _ tt acc))) (λ _. on_if P (c == 80) _ _ (λ e acc. at_char G c 80 e (inr (ih _ tt acc))) (λ _. dead cs)) acc

  single_front : (w : Within) (c : ℕ) → is_single c ≡ true → Accepts (Some (give_one (at (at_backslash w)) w (single_value c))) cs → BackslashRemains w n (c ∷ cs)
  single_front in_branch c e acc = record { atom = single c; rest = cs; good = e; spelled = refl; next = ih _ tt acc }
  single_front (in_class k) c e acc = inl (record { e = c; rest = cs; good = e; spelled = refl; next = ih _ tt acc })

  escape_front : (w : Within) (c : ℕ) → Accepts (step_escape (at (at_backslash w)) w c) cs → BackslashRemains w n (c ∷ cs)
  unfolding step_escape
  escape_front w c =
      let P : Option State → Type 0 = λ o. Accepts o cs → BackslashRemains w n (c ∷ cs) in
      on_if P (is_single c) _ _ (λ e. single_front w c e) (λ _. letter_front w c (several_item c) refl)

  property_front : (w : Within) (complement : Bool) (c : ℕ) → Accepts (step_property (at (at_property w complement)) w complement c) cs → EscapeRemains w n (92 ∷ letter_of complement ∷ c ∷ cs)
  unfolding step_property
  property_front w complement c =
      let G : ℕ → Type 0 = λ v. EscapeRemains w n (92 ∷ letter_of complement ∷ v ∷ cs) in
      let P : Option State → Type 0 = λ o. Accepts o cs → G c in
      on_if P (c == 123) _ _ (λ e acc. at_char G c 123 e (ih _ refl acc)) (λ _. dead cs)

  named_front : (w : Within) (complement : Bool) (name : List ℕ) (notes : Notes) (item : ClassItem) → is_given name ≡ true → list_all is_word name ≡ true →
      Accepts (Some (give (record { stage = at_name w complement name; built = b; noted = notes }) w item)) cs → EscapeRemains w n (92 ∷ letter_of complement ∷ 123 ∷ (name ++ 125 ∷ cs))
  named_front in_branch complement name notes item g ready acc = record {
    atom = special (property complement name);
    rest = cs;
    good = both (is_given name) (list_all is_word name) g ready;
    spelled = ap (λ l. 92 ∷ letter_of complement ∷ 123 ∷ l) (sym (append_assoc name (125 ∷ []) cs));
    next = ih _ tt acc;
  }
  named_front (in_class k) complement name notes item g ready acc = record {
    of = property complement name;
    rest = cs;
    good = both (is_given name) (list_all is_word name) g ready;
    spelled = ap (λ l. 92 ∷ letter_of complement ∷ 123 ∷ l) (sym (append_assoc name (125 ∷ []) cs));
    next = ih _ tt acc;
  }

  name_front : (w : Within) (complement : Bool) (name : List ℕ) (c : ℕ) → list_all is_word name ≡ true → Accepts (step_name (at (at_name w complement name)) w complement name c) cs →
      EscapeRemains w n (92 ∷ letter_of complement ∷ 123 ∷ (name ++ c ∷ cs))
  unfolding step_name
  name_front w complement name c ready =
      let G : ℕ → Type 0 = λ v. EscapeRemains w n (92 ∷ letter_of complement ∷ 123 ∷ (name ++ v ∷ cs)) in
      let P : Option State → Type 0 = λ o. Accepts o cs → G c in
      on_if P (is_word c) _ _ (λ e acc. subst (λ l. EscapeRemains w n (92 ∷ letter_of complement ∷ 123 ∷ l)) (append_assoc name (c ∷ []) cs) (ih _ (list_all_snoc is_word name c ready e) acc))
      (λ _. on_if P (c == 125) _ _
      (λ e. on_if P (is_given name) _ _ (λ g acc. at_char G c 125 e (named_front w complement name _ _ g ready acc)) (λ _. dead cs))
      (λ _. dead cs))

  abbrev E : Classed → List ℕ → Type 0
  E k = Ends (length k.groups) (Quantified (Tail n))

  end_front : (stage : Stage) (k : Classed) (more : ℕ) → Accepts (Some (closing (at stage) k more)) cs → Ends more (Quantified (Tail n)) cs
  end_front stage k zero acc = ih _ tt acc
  end_front stage k (suc more) acc = ih _ tt acc

  last_end_front : (stage : Stage) (k : Classed) (more c : ℕ) → Ready (at_end k more) → Accepts (step_end (at stage) k more c) cs → Ends more (Quantified (Tail n)) (c ∷ cs)
  unfolding step_end
  last_end_front stage k zero c ready acc = absurd ready
  last_end_front stage k (suc more) c ready acc =
      let G : ℕ → Type 0 = λ v. Ends (suc more) (Quantified (Tail n)) (v ∷ cs) in
      let P : Option State → Type 0 = λ o. Accepts o cs → G c in
      on_if P (c == 93) _ _ (λ e acc. at_char G c 93 e (record { rest = cs; spelled = refl; next = end_front stage k more (subst (λ m. Accepts (Some (closing (at stage) k m)) cs) (one_less more) acc) })) (λ _. dead cs) acc

  first_front : (stage : Stage) (k : Classed) (c : ℕ) → Accepts (step_first (at stage) k c) cs → WithBody (E k) (c ∷ cs)
  unfolding step_first
  first_front stage k c =
      let G : ℕ → Type 0 = λ v. WithBody (E k) (v ∷ cs) in
      let P : Option State → Type 0 = λ o. Accepts o cs → G c in
      on_if P (is_plain c) _ _ (λ e acc. body_front (c ∷ cs) (one_front (plain c) cs e (ih _ tt acc)))
      (λ _. on_if P (c == 92) _ _ (λ e acc. at_char G c 92 e (body_front (92 ∷ cs) (backslash_front cs (ih _ tt acc))))
      (λ _. on_if P (c == 45) _ _ (λ e acc. at_char G c 45 e (hyphen_body cs (ih _ tt acc))) (λ _. dead cs)))

  class_start : (k : Classed) (c : ℕ) → Accepts (step_class (at (at_class k)) k c) cs → WithClass (E k) (91 ∷ c ∷ cs)
  unfolding step_class
  class_start k c =
      let G : ℕ → Type 0 = λ v. WithClass (E k) (91 ∷ v ∷ cs) in
      let P : Option State → Type 0 = λ o. Accepts o cs → G c in
      on_if P (c == 94) _ _ (λ e acc. at_char G c 94 e (class_of_body true cs (ih _ tt acc) refl))
      (λ other acc. let t : WithBody (E k) (c ∷ cs) = first_front (at_class k) k c acc in class_of_body false (c ∷ cs) t (no_caret c cs t other))

  part_front : (k : Classed) (first : Option ℕ) (c : ℕ) → Accepts (step_part (at (at_part k first)) k first c) cs → BehindPart (E k) first (c ∷ cs)
  unfolding step_part
  part_front k first c =
      let G : ℕ → Type 0 = λ v. BehindPart (E k) first (v ∷ cs) in
      let P : Option State → Type 0 = λ o. Accepts o cs → G c in
      on_if P (is_plain c) _ _ (λ e acc. behind first (c ∷ cs) (one_front (plain c) cs e (ih _ tt acc)).parts)
      (λ _. on_if P (c == 92) _ _ (λ e acc. at_char G c 92 e (behind first (92 ∷ cs) (backslash_front cs (ih _ tt acc)).parts))
      (λ _. on_if P (c == 45) _ _ (λ e acc. at_char G c 45 e (ih _ tt acc))
      (λ _. on_if P (c == 93) _ _ (λ e acc. at_char G c 93 e (behind first (93 ∷ cs) (ended false (93 ∷ cs) (at_end_of cs (end_front (at_part k first) k (length k.groups) acc))))) (λ _. dead cs))))

  range_front : (k : Classed) (first : Option ℕ) (c : ℕ) → (c == 93) ≡ false → (c == 91) ≡ false → (c == 45) ≡ false → Accepts (step_range (at (at_hyphen k first)) k first c) cs → BehindPart (E k) first (45 ∷ c ∷ cs)
  unfolding step_range
  range_front k None c e f g = dead cs
  range_front k (Some first) c e f g =
      let G : ℕ → Type 0 = λ v. BehindPart (E k) (Some first) (45 ∷ v ∷ cs) in
      let P : Option State → Type 0 = λ o. Accepts o cs → G c in
      on_if P (c == 92) _ _
      (λ h. on_if P (nat_le first 125) _ _ (λ o acc. at_char G c 92 h (inr (ih _ o acc))) (λ _. dead cs))
      (λ h. on_if P (nat_le first c) _ _ (λ o acc. inr (record {
        last = plain c;
        rest = cs;
        good = other_plain c f e h g;
        order = o;
        spelled = refl;
        next = ih _ tt acc;
      })) (λ _. dead cs))

  hyphen_front : (k : Classed) (first : Option ℕ) (c : ℕ) → Accepts (step_hyphen (at (at_hyphen k first)) k first c) cs → BehindPart (E k) first (45 ∷ c ∷ cs)
  unfolding step_hyphen
  hyphen_front k first c =
      let G : ℕ → Type 0 = λ v. BehindPart (E k) first (45 ∷ v ∷ cs) in
      let P : Option State → Type 0 = λ o. Accepts o cs → G c in
      on_if P (c == 93) _ _ (λ e acc. at_char G c 93 e (behind first (45 ∷ 93 ∷ cs) (ended true (93 ∷ cs) (at_end_of cs (end_front (at_hyphen k first) _ (length k.groups) acc)))))
      (λ e. on_if P (c == 91) _ _ (λ f acc. at_char G c 91 f (behind first (45 ∷ 91 ∷ cs) (ended false (45 ∷ 91 ∷ cs) (less_front k.groups k.hand (Quantified (Tail n)) cs (ih _ tt acc)))))
      (λ f. on_if P (c == 45) _ _ (λ g acc. at_char G c 45 g (behind first (45 ∷ 45 ∷ cs) (ih _ tt acc))) (λ g. range_front k first c e f g)))

  subtract_front : (k : Classed) (c : ℕ) → Accepts (step_less (at (at_less k)) k c) cs → WithParts (E k) (45 ∷ 45 ∷ c ∷ cs)
  unfolding step_less
  subtract_front k c =
      let G : ℕ → Type 0 = λ v. WithParts (E k) (45 ∷ 45 ∷ v ∷ cs) in
      let P : Option State → Type 0 = λ o. Accepts o cs → G c in
      on_if P (c == 91) _ _ (λ f acc. at_char G c 91 f (ended true (45 ∷ 91 ∷ cs) (less_front k.groups k.hand (Quantified (Tail n)) cs (ih _ tt acc)))) (λ _. dead cs)

  range_escape_front : (k : Classed) (first c : ℕ) → Accepts (step_range_escape (at (at_range_escape k first)) k first c) cs → WithRange (E k) first (45 ∷ 92 ∷ c ∷ cs)
  unfolding step_range_escape
  range_escape_front k first c =
      let P : Option State → Type 0 = λ o. Accepts o cs → WithRange (E k) first (45 ∷ 92 ∷ c ∷ cs) in
      on_if P (is_single c) _ _
      (λ e. on_if P (nat_le first (single_value c)) _ _ (λ o acc. record { last = escaped c; rest = cs; good = e; order = o; spelled = refl; next = ih _ tt acc }) (λ _. dead cs))
      (λ _. dead cs)

  front : (stage : Stage) (c : ℕ) → Ready stage → Accepts (step (at stage) c) cs → RemainsIn stage n (c ∷ cs)
  front (at_piece false) c ready acc = piece_front false c acc
  front (at_piece true) c ready acc = piece_front true c acc
  front (at_least_digits digits) c ready acc = least_front digits c ready acc
  front (at_most_digits least digits) c ready acc = most_front least digits c ready.0 ready.1 acc
  front (at_backslash w) c ready acc = escape_front w c acc
  front (at_property w complement) c ready acc = property_front w complement c acc
  front (at_name w complement name) c ready acc = name_front w complement name c ready acc
  front (at_class k) c ready acc = class_start k c acc
  front (at_first k) c ready acc = first_front (at_first k) k c acc
  front (at_part k first) c ready acc = part_front k first c acc
  front (at_hyphen k first) c ready acc = hyphen_front k first c acc
  front (at_less k) c ready acc = subtract_front k c acc
  front (at_range_escape k first) c ready acc = range_escape_front k first c acc
  front (at_end k more) c ready acc = last_end_front (at_end k more) k more c ready acc

-- where a text is read to an end, it is the rest by the grammar
empty_rest : (stage : Stage) (b : Built) (noted : Notes) → is_end (record { stage = stage; built = b; noted = noted }) ≡ true → RemainsIn stage (length b.outer) []
empty_rest (at_piece repeatable) b noted e = unquantified repeatable (length b.outer) [] (no_outer b.outer e)
empty_rest (at_least_digits digits) b noted e = cc
empty_rest (at_most_digits least digits) b noted e = cc
empty_rest (at_backslash w) b noted e = cc
empty_rest (at_property w complement) b noted e = cc
empty_rest (at_name w complement name) b noted e = cc
empty_rest (at_class k) b noted e = cc
empty_rest (at_first k) b noted e = cc
empty_rest (at_part k first) b noted e = cc
empty_rest (at_hyphen k first) b noted e = cc
empty_rest (at_less k) b noted e = cc
empty_rest (at_range_escape k first) b noted e = cc
empty_rest (at_end k more) b noted e = cc

pub remains : (cs : List ℕ) → Holds cs
remains [] s ready (f, e, d) =
    let same : s ≡ f = cc in
    empty_rest s.stage s.built s.noted (subst (λ t. is_end t ≡ true) (sym same) d)
remains (c ∷ cs) s ready acc = front cs (remains cs) s.built s.noted s.stage c ready acc
