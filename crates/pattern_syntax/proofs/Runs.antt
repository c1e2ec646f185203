-- The machine reads each text of the grammar.
use Rattle.std.proofs.Common.{◌≡◌, ℕ, Bool, true, false, ◌==◌, if◌then◌else◌, List, [], ◌∷◌, ◌++◌, drop, Option, Some, None, refl, ap, sym, ◌∙◌, append_assoc}
use Rattle.std.specs.List.{list_all}
use Rattle.std.proofs.lemmas.List.{append-nil}
use Rattle.std.specs.Option.{unwrap_or}
use Rattle.pattern_syntax.specs.declared.class.ClassItem.{ClassItem}
use Rattle.pattern_syntax.specs.declared.class.ClassItem.TheVariants.{In}
use Rattle.pattern_syntax.specs.declared.set.CharSet.TheVariants.{NotLineEnd}
use Rattle.pattern_syntax.specs.declared.fault.Notes.{Notes}
use Rattle.pattern_syntax.specs.Built.{Built}
use Rattle.pattern_syntax.specs.Notes.{with_name}
use Rattle.pattern_syntax.specs.Characters.{is_single, single_value, several_item, is_word}
use Rattle.pattern_syntax.specs.Grammar.{Escape, several, property, escape_text, is_escape, is_given, is_some, property_item, escape_item}
use Rattle.pattern_syntax.specs.Machine.{Within, in_branch, in_class, Stage, at_backslash, at_property, at_name, State, in_stage, give, give_one, after, step, step_escape, step_letter, step_property, step_name}
use Rattle.pattern_syntax.proofs.Choosing.{on_if, left_of, right_of, at_char}
use Rattle.pattern_syntax.proofs.Effects.{escape_noted}

abbrev pub at : Stage → Built → Notes → State
at stage b m = record { stage = stage; built = b; noted = m }

pub taken : {A : Type 0} (t : Bool) (x y : A) → t ≡ true → (if t then x else y) ≡ x
taken true x y e = refl
taken false x y e = cc

pub passed : {A : Type 0} (t : Bool) (x y : A) → t ≡ false → (if t then x else y) ≡ y
passed false x y e = refl
passed true x y e = cc

-- one step, and the rest
pub goes : (s t : State) (c : ℕ) (cs : List ℕ) → step s c ≡ Some t → after (Some s) (c ∷ cs) ≡ after (Some t) cs
goes s t c cs e = ap (λ o. after o cs) e

-- ---- escapes

not_single : (c : ℕ) → is_some (several_item c) ≡ true → is_single c ≡ false
not_single c =
    let P : Option ClassItem → Type 0 = λ o. is_some o ≡ true → is_single c ≡ false in
    let G : ℕ → Type 0 = λ v. is_single v ≡ false in
    on_if P (c == 115) _ _ (λ e _. at_char G c 115 e refl)
    (λ _. on_if P (c == 83) _ _ (λ e _. at_char G c 83 e refl)
    (λ _. on_if P (c == 105) _ _ (λ e _. at_char G c 105 e refl)
    (λ _. on_if P (c == 73) _ _ (λ e _. at_char G c 73 e refl)
    (λ _. on_if P (c == 99) _ _ (λ e _. at_char G c 99 e refl)
    (λ _. on_if P (c == 67) _ _ (λ e _. at_char G c 67 e refl)
    (λ _. on_if P (c == 100) _ _ (λ e _. at_char G c 100 e refl)
    (λ _. on_if P (c == 68) _ _ (λ e _. at_char G c 68 e refl)
    (λ _. on_if P (c == 119) _ _ (λ e _. at_char G c 119 e refl)
    (λ _. on_if P (c == 87) _ _ (λ e _. at_char G c 87 e refl)
    (λ _ e. cc))))))))))

pub single_step : (s : State) (w : Within) (e : ℕ) → is_single e ≡ true → step_escape s w e ≡ Some (give_one s w (single_value e))
unfolding step_escape
single_step s w e g = taken (is_single e) _ _ g

several_letter : (s : State) (w : Within) (c : ℕ) (o : Option ClassItem) → is_some o ≡ true → step_letter s w c o ≡ Some (give s w (unwrap_or o (In NotLineEnd)))
several_letter s w c None e = cc
several_letter s w c (Some item) e = refl

several_step : (s : State) (w : Within) (letter : ℕ) → is_some (several_item letter) ≡ true → step_escape s w letter ≡ Some (give s w (escape_item (several letter)))
unfolding step_escape
several_step s w letter e = passed (is_single letter) _ _ (not_single letter e) ∙ several_letter s w letter (several_item letter) e

word_step : (s : State) (w : Within) (complement : Bool) (name : List ℕ) (c : ℕ) → is_word c ≡ true → step_name s w complement name c ≡ Some (in_stage s (at_name w complement (name ++ c ∷ [])))
unfolding step_name
word_step s w complement name c e = taken (is_word c) _ _ e

name_end : (s : State) (w : Within) (complement : Bool) (name : List ℕ) → is_given name ≡ true →
    step_name s w complement name 125 ≡ Some (give (record { stage = s.stage; built = s.built; noted = with_name s.noted name }) w (property_item complement name))
unfolding step_name
name_end s w complement name e = taken (is_given name) _ _ e

name_run : (w : Within) (complement : Bool) (front name more : List ℕ) (b : Built) (m : Notes) → list_all is_word name ≡ true →
    after (Some (at (at_name w complement front) b m)) (name ++ more) ≡ after (Some (at (at_name w complement (front ++ name)) b m)) more
name_run w complement front [] more b m e = ap (λ l. after (Some (at (at_name w complement l) b m)) more) (sym (append-nil front))
name_run w complement front (c ∷ cs) more b m e =
    goes (at (at_name w complement front) b m) (at (at_name w complement (front ++ c ∷ [])) b m) c (cs ++ more) (word_step _ w complement front c (left_of (is_word c) (list_all is_word cs) e))
    ∙ name_run w complement (front ++ c ∷ []) cs more b m (right_of (is_word c) (list_all is_word cs) e)
    ∙ ap (λ l. after (Some (at (at_name w complement l) b m)) more) (append_assoc front (c ∷ []) cs)

letter_step : (s : State) (w : Within) (complement : Bool) → step_escape s w (if complement then 80 else 112) ≡ Some (in_stage s (at_property w complement))
unfolding step_escape
letter_step s w true = refl
letter_step s w false = refl

brace_step : (s : State) (w : Within) (complement : Bool) → step_property s w complement 123 ≡ Some (in_stage s (at_name w complement []))
unfolding step_property
brace_step s w complement = refl

give_same : (w : Within) (b : Built) (m : Notes) (x y : Stage) (item : ClassItem) → give (at x b m) w item ≡ give (at y b m) w item
give_same in_branch b m x y item = refl
give_same (in_class k) b m x y item = refl

-- an escape of several characters, behind its backslash
pub escape_run : (w : Within) (of : Escape) (more : List ℕ) (b : Built) (m : Notes) → is_escape of ≡ true →
    after (Some (at (at_backslash w) b m)) (drop 1 (escape_text of) ++ more) ≡ after (Some (give (at (at_backslash w) b (escape_noted m of)) w (escape_item of))) more
escape_run w (several letter) more b m e = goes (at (at_backslash w) b m) _ letter more (several_step _ w letter e)
escape_run w (property complement name) more b m e =
    goes (at (at_backslash w) b m) (at (at_property w complement) b m) (if complement then 80 else 112) (123 ∷ ((name ++ 125 ∷ []) ++ more)) (letter_step _ w complement)
    ∙ goes (at (at_property w complement) b m) (at (at_name w complement []) b m) 123 ((name ++ 125 ∷ []) ++ more) (brace_step _ w complement)
    ∙ ap (after (Some (at (at_name w complement []) b m))) (append_assoc name (125 ∷ []) more)
    ∙ name_run w complement [] name (125 ∷ more) b m (right_of (is_given name) (list_all is_word name) e)
    ∙ goes (at (at_name w complement name) b m) _ 125 more (name_end _ w complement name (left_of (is_given name) (list_all is_word name) e))
    ∙ ap (λ s. after (Some s) more) (give_same w b (with_name m name) (at_name w complement name) (at_backslash w) (property_item complement name))
