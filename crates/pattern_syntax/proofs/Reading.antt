-- What the machine makes of a text is what the text reads to.
use Rattle.std.proofs.Common.{◌≡◌, ℕ, suc, ◌+◌, ◌≤◌, ◌<◌, Bool, true, false, not, List, [], ◌∷◌, ◌++◌, length, get_or, take, drop, Option, Some, None, Result, Ok, Err, refl, ap, sym, ◌∙◌, subst, arith}
use Rattle.std.proofs.lemmas.List.{append-nil, take-take, take-append-drop, take_more}
use Rattle.std.specs.List.{list_any}
use Rattle.pattern_syntax.specs.Regex.{Regex, choice_of}
use Rattle.pattern_syntax.specs.declared.fault.PatternFault.{PatternFault}
use Rattle.pattern_syntax.specs.declared.fault.PatternFault.TheVariants.{Syntax, UnsupportedBlock, UnknownClass, TooLarge}
use Rattle.pattern_syntax.specs.Built.{no_frame, all_branches}
use Rattle.pattern_syntax.specs.declared.set.CharSet.{CharSet}
use Rattle.pattern_syntax.specs.Names.{set_named, begins_is}
use Rattle.pattern_syntax.specs.Notes.{is_large, name_fault, fault_of, first_of}
use Rattle.pattern_syntax.specs.Grammar.{RegExp, regexp_text, regexp_names, regexp_numbers, meaning, is_given}
use Rattle.pattern_syntax.specs.Machine.{at_piece, State, start, no_notes, after, step, is_end}
use Rattle.std.specs.Prelude.{IfOk}
use Rattle.pattern_syntax.specs.Outcome.{answer_at}
use Rattle.pattern_syntax.specs.Stages.{Stepped}
use Rattle.pattern_syntax.specs.Reading.{IsWritten, IsPattern, Begins, first_fault, refused_or, answer_of, Reads}
use Rattle.pattern_syntax.proofs.Effects.{regexp_built, regexp_noted, regexp_outer, regexp_branches}
use Rattle.pattern_syntax.proofs.Noting.{regexp_noted_is}
use Rattle.pattern_syntax.proofs.Runs.{at}
use Rattle.pattern_syntax.proofs.RunsWhole.{regexp_run, regexp_repeatable}
use Rattle.pattern_syntax.proofs.Sanity.{SaneBehind, after_sane}
use Rattle.pattern_syntax.proofs.Sound.{remains}
use Rattle.pattern_syntax.proofs.Viable.{Finishes, finishes}

-- ---- runs in two parts

after_append : (o : Option State) (xs ys : List ℕ) → after o (xs ++ ys) ≡ after (after o xs) ys
after_append None xs ys = refl
after_append (Some s) [] ys = refl
after_append (Some s) (x ∷ xs) ys = after_append (step s x) xs ys

-- ---- an expression

pub end_of : RegExp → State
end_of r = at (at_piece (regexp_repeatable false r)) (regexp_built r (record { outer = []; here = no_frame })) (regexp_noted r no_notes)

pub run_of : (text : List ℕ) (r : RegExp) → IsWritten text r → after (Some start) text ≡ Some (end_of r)
unfolding end_of
run_of text r w =
    ap (after (Some start)) (w.written ∙ sym (append-nil (regexp_text r)))
    ∙ regexp_run r false [] (record { outer = []; here = no_frame }) no_notes w.good

end_is_end : (r : RegExp) → is_end (end_of r) ≡ true
unfolding end_of
end_is_end r = ap (λ l. not (is_given l)) (regexp_outer r (record { outer = []; here = no_frame }))

end_answers : (r : RegExp) → answer_at (end_of r) ≡ answer_of r
unfolding end_of
end_answers r =
    ap (λ m. refused_or m.bad_name m.too_large (choice_of (all_branches (regexp_built r (record { outer = []; here = no_frame })).here))) (regexp_noted_is r no_notes)
    ∙ ap (λ l. refused_or (first_fault (regexp_names r)) (list_any is_large (regexp_numbers r)) (choice_of l)) (regexp_branches r [] [])

-- ---- fronts of patterns

-- a text that is read to an end is a pattern
accepted_pattern : (text : List ℕ) (s : State) → after (Some start) text ≡ Some s → is_end s ≡ true → IsPattern text
accepted_pattern text s e d =
    let w = remains text start tt (s, e, d) in
    (w.regexp, record { good = w.good; written = w.spelled })

-- what is read so far begins a pattern
live_begins : (front : List ℕ) (s : State) → after (Some start) front ≡ Some s → Begins front
live_begins front s e =
    let sane : SaneBehind (Some s) = subst SaneBehind e (after_sane front (Some start) tt) in
    let f : Finishes s = finishes s.stage s.built s.noted sane in
    (f.rest, accepted_pattern (front ++ f.rest) f.last (after_append (Some start) front f.rest ∙ ap (λ o. after o f.rest) e ∙ f.run) f.ends)

some_same : {A : Type 0} {x y : A} → Some x ≡ Some y → x ≡ y
some_same e = cc

true_false : true ≡ false → ⊥
true_false e = cc

some_front : (o : Option State) (rest : List ℕ) (t : State) → after o rest ≡ Some t → (s : State) × (o ≡ Some s)
some_front None rest t e = cc
some_front (Some s) rest t e = (s, refl)

-- what begins a pattern is read
begins_live : (front : List ℕ) → Begins front → (s : State) × (after (Some start) front ≡ Some s)
begins_live front (rest, (r, w)) = some_front (after (Some start) front) rest (end_of r) (sym (after_append (Some start) front rest) ∙ run_of (front ++ rest) r w)

pattern_begins : (text : List ℕ) → IsPattern text → Begins text
pattern_begins text p = ([], subst IsPattern (sym (append-nil text)) p)

some_none : {A : Type 0} {x : A} → Some x ≡ None → ⊥
some_none e = cc

by_contra : (place n : ℕ) → (suc place ≤ n → ⊥) → n ≤ place
by_contra place n h = grind arith

-- ---- the three ends of a reading

fault_no_syntax : (set : Option CharSet) (is : Bool) (place : ℕ) → fault_of set is ≡ Some (Syntax place) → ⊥
fault_no_syntax (Some set) is place e = cc
fault_no_syntax None true place e = cc
fault_no_syntax None false place e = cc

first_no_syntax : (x y : Option PatternFault) (place : ℕ) → (x ≡ Some (Syntax place) → ⊥) → (y ≡ Some (Syntax place) → ⊥) → first_of x y ≡ Some (Syntax place) → ⊥
first_no_syntax None y place f g e = g e
first_no_syntax (Some x) y place f g e = f e

answer_no_syntax : (x : Option PatternFault) (large : Bool) (regex : Regex) (place : ℕ) → (x ≡ Some (Syntax place) → ⊥) → refused_or x large regex ≡ Err (Syntax place) → ⊥
answer_no_syntax (Some x) large regex place f e = let same : x ≡ Syntax place = cc in f (ap Some same)
answer_no_syntax None true regex place f e = cc
answer_no_syntax None false regex place f e = cc

name_no_syntax : (name : List ℕ) (place : ℕ) → name_fault name ≡ Some (Syntax place) → ⊥
name_no_syntax name place e = fault_no_syntax (set_named name) (begins_is name) place e

no_first_syntax : (names : List (List ℕ)) (place : ℕ) → first_fault names ≡ Some (Syntax place) → ⊥
no_first_syntax [] place e = cc
no_first_syntax (name ∷ names) place e = first_no_syntax (name_fault name) (first_fault names) place (name_no_syntax name place) (no_first_syntax names place) e

no_syntax : (names : List (List ℕ)) (large : Bool) (regex : Regex) (place : ℕ) → refused_or (first_fault names) large regex ≡ Err (Syntax place) → ⊥
no_syntax names large regex place e = answer_no_syntax (first_fault names) large regex place (no_first_syntax names place) e

reads_of : (text : List ℕ) (r : RegExp) → IsWritten text r → (answer : Result Regex PatternFault) → answer_of r ≡ answer → Reads text answer
reads_of text r w (Ok regex) e = (r, w, e)
reads_of text r w (Err UnsupportedBlock) e = (r, w, e)
reads_of text r w (Err UnknownClass) e = (r, w, e)
reads_of text r w (Err TooLarge) e = (r, w, e)
reads_of text r w (Err (Syntax place)) e = absurd (no_syntax (regexp_names r) (list_any is_large (regexp_numbers r)) (meaning r) place e)

take_whole : (xs : List ℕ) → take (length xs) xs ≡ xs
take_whole [] = refl
take_whole (x ∷ xs) = ap (λ l. x ∷ l) (take_whole xs)

take_longer : (i n : ℕ) (xs : List ℕ) → i ≤ n → take n xs ≡ take i xs ++ drop i (take n xs)
take_longer i n xs l = sym (take-append-drop i (take n xs)) ∙ ap (λ t. t ++ drop i (take n xs)) (take-take i n xs l)

-- where the reading is stuck behind a front, no longer one is read
not_past : (text : List ℕ) (place n : ℕ) → after (Some start) (take (suc place) text) ≡ None → (s : State) × (after (Some start) (take n text) ≡ Some s) → n ≤ place
not_past text place n gone (s, e) = by_contra place n (λ l.
    let split : take n text ≡ take (suc place) text ++ drop (suc place) (take n text) = take_longer (suc place) n text l in
    let none : after (Some start) (take n text) ≡ None = ap (after (Some start)) split ∙ after_append (Some start) (take (suc place) text) (drop (suc place) (take n text)) ∙ ap (λ o. after o (drop (suc place) (take n text))) gone in
    some_none (sym e ∙ none))

-- the text is read to an end
pub reads_whole : (text : List ℕ) (s : State) → after (Some start) text ≡ Some s → is_end s ≡ true → Reads text (answer_at s)
reads_whole text s e d =
    let p : IsPattern text = accepted_pattern text s e d in
    let same : s ≡ end_of p.0 = some_same (sym e ∙ run_of text p.0 p.1) in
    reads_of text p.0 p.1 (answer_at s) (sym (end_answers p.0) ∙ ap answer_at (sym same))

-- the text ends too early
pub reads_short : (text : List ℕ) (s : State) → after (Some start) text ≡ Some s → is_end s ≡ false → Reads text (Err (Syntax (length text)))
reads_short text s e d = (
  (λ p.
      let same : s ≡ end_of p.0 = some_same (sym e ∙ run_of text p.0 p.1) in
      let ends : is_end s ≡ true = ap is_end same ∙ end_is_end p.0 in
      true_false (sym ends ∙ d)),
  record {
    within = omega arith;
    begins = subst Begins (sym (take_whole text)) (live_begins text s e);
    longest = λ n l _. l;
  },
)

-- no pattern goes on by the character at the place
pub reads_stuck : (text : List ℕ) (place : ℕ) (s : State) → place < length text → after (Some start) (take place text) ≡ Some s → after (Some start) (take (suc place) text) ≡ None → Reads text (Err (Syntax place))
reads_stuck text place s l live gone =
    let longest : (n : ℕ) → n ≤ length text → Begins (take n text) → n ≤ place = λ n _ front. not_past text place n gone (begins_live (take n text) front) in (
      (λ p. absurd (let h = longest (length text) (omega arith) (subst Begins (sym (take_whole text)) (pattern_begins text p)) in omega arith)),
      record {
        within = omega arith;
        begins = live_begins (take place text) s live;
        longest = longest;
      },
    )

-- the answer is that of each expression that the text is
pub reads_same : (text : List ℕ) (s : State) → after (Some start) text ≡ Some s → (r : RegExp) → IsWritten text r → answer_at s ≡ answer_of r
reads_same text s e r w = let same : s ≡ end_of r = some_same (sym e ∙ run_of text r w) in ap answer_at same ∙ end_answers r

-- ---- one character more

after_nothing : (o : Option State) → after o [] ≡ o
after_nothing None = refl
after_nothing (Some s) = refl

pub next_state : (text : List ℕ) (place c : ℕ) (s : State) (o : Option State) → place < length text → c ≡ get_or text place c → after (Some start) (take place text) ≡ Some s → step s c ≡ o →
    after (Some start) (take (place + 1) text) ≡ o
next_state text place c s o l same e f =
    ap (after (Some start)) (take_more text place c l ∙ ap (λ x. take place text ++ x ∷ []) (sym same))
    ∙ after_append (Some start) (take place text) (c ∷ [])
    ∙ ap (λ q. after q (c ∷ [])) e
    ∙ ap (λ q. after q []) f
    ∙ after_nothing o

suc_is : (n : ℕ) → suc n ≡ n + 1
suc_is n = omega arith

pub stuck_at : (text : List ℕ) (place c : ℕ) (s : State) → place < length text → c ≡ get_or text place c → after (Some start) (take place text) ≡ Some s → step s c ≡ None → Reads text (Err (Syntax place))
stuck_at text place c s l same e f = reads_stuck text place s l e (ap (λ n. after (Some start) (take n text)) (suc_is place) ∙ next_state text place c s None l same e f)

pub stuck_only : (text : List ℕ) (place : ℕ) → Reads text (Err (Syntax place)) → (r : RegExp) → IsWritten text r → Err (Syntax place) ≡ answer_of r
stuck_only text place e r w = absurd (e.0 (r, w))

-- the whole text is read
pub whole_read : (text : List ℕ) (place : ℕ) (s : State) → place ≡ length text → after (Some start) (take place text) ≡ Some s → after (Some start) text ≡ Some s
whole_read text place s same e = ap (after (Some start)) (sym (take_whole text)) ∙ ap (λ n. after (Some start) (take n text)) (sym same) ∙ e

-- ---- the program's clauses

pub dead_step : (alive : Bool) (o : Option State) (s : State) → alive ≡ false → Stepped alive o s → o ≡ None
dead_step true o s e f = cc
dead_step false o s e f = f

pub alive_step : (alive : Bool) (o : Option State) (s : State) → alive ≡ true → Stepped alive o s → o ≡ Some s
alive_step true o s e f = f
alive_step false o s e f = cc

pub on_ok : {A B : Type 0} (r : Result A B) (P Q : A → Type 0) → IfOk r P → ((a : A) → P a → Q a) → IfOk r Q
on_ok (Ok a) P Q p f = f a p
on_ok (Err b) P Q p f = tt

pub reads_end : (text : List ℕ) (s : State) (outcome : Result Regex PatternFault) → after (Some start) text ≡ Some s → is_end s ≡ true → outcome ≡ answer_at s → Reads text outcome
reads_end text s outcome e d f = subst (Reads text) (sym f) (reads_whole text s e d)

pub only_end : (text : List ℕ) (s : State) (outcome : Result Regex PatternFault) → after (Some start) text ≡ Some s → outcome ≡ answer_at s → (r : RegExp) → IsWritten text r → outcome ≡ answer_of r
only_end text s outcome e f r w = f ∙ reads_same text s e r w
