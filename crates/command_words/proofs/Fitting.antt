-- clap takes the words that are accepted, and finds in them what they ask for.
use Rattle.std.proofs.Common.{◌≡◌, ℕ, ◌==◌, List, [], ◌∷◌, Bool, true, false, Option, Some, None, codes, is_some, refl, sym, subst, ap, ◌∙◌, arith}
use Rattle.std.specs.Char.{is_ascii_digit}
use Rattle.std.specs.Str.{bytes_eq}
use Rattle.std.proofs.lemmas.Bool.Decides.{nat_tests}
use Rattle.std.proofs.lemmas.Slice.Eq.{bytes_eq-Decides}
use Rattle.clap.specs.Words.{HasMatchesOf, Row, first_of as first_found, first_value, found_of, is_simple, matches_of, rows_of, takes}
use Rattle.clap.specs.declared.parser.matches.ArgMatches.{ArgMatches}
use Rattle.clap.proofs.WalkLemmas.{first_value-rows}
use Rattle.clap.specs.declared.parser.matches.ValueSource.TheVariants.{CommandLine}
use Rattle.clap.specs.declared.builder.value_parser.Reading.TheVariants.{AsWritten}
use Rattle.clap.proofs.OnLiterals.{clap_on_literals}
use Rattle.command_words.specs.Numbers.{is_number, number, between}
use Rattle.command_words.specs.Requests.{generated, generated_by, is_option, most, read_by, request, task, value_within}
use Rattle.command_words.specs.declared.request.Request.{Request}
use Rattle.command_words.specs.declared.request.Task.{Task}
use Rattle.command_words.specs.inside.Command.{given_by, xsv}
use Rattle.command_words.proofs.Lines.{Text, alone, apart_first, apart_last, glued_first, glued_last, made, name, named, no_two, option_is, too_many, within_is}

-- what is asked for by the rows that were found
abbrev pub found_by : List Row → Option Request
found_by rows = given_by (first_found (codes "COMMAND") rows) (first_found (codes "NUMBER") rows) (first_found (codes "COUNT") rows) (first_found (codes "max-errors") rows)

-- clap takes the words, and what it finds asks for this
pub record Fits (words : List Text) (asked : Option Request) : Type 0 where
  pub taken : takes xsv words ≡ true
  pub found : found_by (matches_of xsv words) ≡ asked

pub simple : is_simple xsv ≡ true
unfolding clap_on_literals
simple = refl

-- ---- words that are no options

-- the word does not begin with a hyphen
pub record IsWord (w : Text) : Type 0 where
  pub first : ℕ
  pub rest : Text
  pub is : w ≡ first ∷ rest
  pub other : (first == 45) ≡ false

reading_by : (w : Text) (a b c : Bool) → bytes_eq w (codes "check") ≡ a → bytes_eq w (codes "assess") ≡ b → bytes_eq w (codes "session") ≡ c
    → is_some (task w) ≡ true → IsWord w
reading_by w true b c e f g h = record { first = _; rest = _; is = (bytes_eq-Decides w (codes "check")).0 e; other = refl }
reading_by w false true c e f g h = record { first = _; rest = _; is = (bytes_eq-Decides w (codes "assess")).0 f; other = refl }
reading_by w false false true e f g h = record { first = _; rest = _; is = (bytes_eq-Decides w (codes "session")).0 g; other = refl }
reading_by w false false false e f g h = let none : is_some (task w) ≡ false = rw (e, f, g) refl in cc

reading : (w : Text) → is_some (task w) ≡ true → IsWord w
reading w = reading_by w _ _ _ refl refl refl

making_by : (w : Text) (a b : Bool) (n m : ℕ) → bytes_eq w (codes "generate") ≡ a → bytes_eq w (codes "trial") ≡ b
    → is_some (generated_by w (Some n) (Some m)) ≡ true → IsWord w
making_by w true b n m e f h = record { first = _; rest = _; is = (bytes_eq-Decides w (codes "generate")).0 e; other = refl }
making_by w false true n m e f h = record { first = _; rest = _; is = (bytes_eq-Decides w (codes "trial")).0 f; other = refl }
making_by w false false n m e f h = let none : is_some (generated_by w (Some n) (Some m)) ≡ false = rw (e, f) refl in cc

digit_other : (b : ℕ) → is_ascii_digit b ≡ true → (b == 45) ≡ false
digit_other b h = grind (arith, nat_tests, h)

all_digits : (w : Text) → is_number w ≡ true → IsWord w
all_digits [] h = cc
all_digits (b ∷ rest) h = record { first = b; rest = rest; is = refl; other = digit_other b (grind (arith, nat_tests, h)) }

digits_by : (w : Text) (t : Bool) → is_number w ≡ t → is_some (number w) ≡ true → IsWord w
digits_by w true e h = all_digits w e
digits_by w false e h = let none : is_some (number w) ≡ false = rw e refl in cc

digits : (w : Text) → is_some (number w) ≡ true → IsWord w
digits w = digits_by w (is_number w) refl

between_by : (least most : ℕ) (w : Text) (o : Option ℕ) → number w ≡ o → is_some (between least most w) ≡ true → IsWord w
between_by least most w None e h = let none : is_some (between least most w) ≡ false = rw e refl in cc
between_by least most w (Some n) e h = digits w (rw e refl)

within : (least most : ℕ) (w : Text) → is_some (between least most w) ≡ true → IsWord w
within least most w = between_by least most w (number w) refl

-- ---- the words, shape by shape

abbrev row_of : Text → Text → Row
row_of id value = record { id = id; values = value ∷ []; count = None; source = Some CommandLine; reading = AsWritten }

abbrev option_row : Text → Row
option_row = row_of (codes "max-errors")

abbrev command_row : Text → Row
command_row = row_of (codes "COMMAND")

module _ (b : ℕ) (rest : Text) (other : (b == 45) ≡ false) where
  abbrev w : Text
  w = b ∷ rest

  fits_alone : Fits (w ∷ []) (read_by (task w) (most None))
  unfolding clap_on_literals
  fits_alone =
      let rows : matches_of xsv (w ∷ []) ≡ command_row w ∷ [] = simp other in
      record { taken = simp other; found = ap found_by rows }

  fits_glued_first : (v : Text) → Fits (named v ∷ w ∷ []) (read_by (task w) (most (Some v)))
  unfolding clap_on_literals
  fits_glued_first v =
      let rows : matches_of xsv (named v ∷ w ∷ []) ≡ option_row v ∷ command_row w ∷ [] = simp other in
      record { taken = simp other; found = ap found_by rows }

  fits_glued_last : (v : Text) → Fits (w ∷ named v ∷ []) (read_by (task w) (most (Some v)))
  unfolding clap_on_literals
  fits_glued_last v =
      let rows : matches_of xsv (w ∷ named v ∷ []) ≡ command_row w ∷ option_row v ∷ [] = simp other in
      record { taken = simp other; found = ap found_by rows }

  module _ (c : ℕ) (more : Text) (digit : (c == 45) ≡ false) where
    abbrev v : Text
    v = c ∷ more

    fits_apart_first : Fits (name ∷ v ∷ w ∷ []) (read_by (task w) (most (Some v)))
    unfolding clap_on_literals
    fits_apart_first =
        let rows : matches_of xsv (name ∷ v ∷ w ∷ []) ≡ option_row v ∷ command_row w ∷ [] = simp (other, digit) in
        record { taken = simp (other, digit); found = ap found_by rows }

    fits_apart_last : Fits (w ∷ name ∷ v ∷ []) (read_by (task w) (most (Some v)))
    unfolding clap_on_literals
    fits_apart_last =
        let rows : matches_of xsv (w ∷ name ∷ v ∷ []) ≡ command_row w ∷ option_row v ∷ [] = simp (other, digit) in
        record { taken = simp (other, digit); found = ap found_by rows }

    module _ (d : ℕ) (last : Text) (figure : (d == 45) ≡ false) where
      abbrev u : Text
      u = d ∷ last

      fits_made : Fits (w ∷ v ∷ u ∷ []) (generated w v u)
      unfolding clap_on_literals
      fits_made =
          let rows : matches_of xsv (w ∷ v ∷ u ∷ []) ≡ command_row w ∷ row_of (codes "NUMBER") v ∷ row_of (codes "COUNT") u ∷ [] = simp (other, digit, figure) in
          record { taken = simp (other, digit, figure); found = ap found_by rows }

-- ---- all words that are accepted

some_read : (t : Option Task) (m : Option ℕ) → is_some (read_by t m) ≡ true → (is_some t ≡ true) × (is_some m ≡ true)
some_read None m h = cc
some_read (Some t) None h = cc
some_read (Some t) (Some m) h = (refl, refl)

some_made : (w : Text) (a b : Option ℕ) → is_some (generated_by w a b) ≡ true → IsWord w × (is_some a ≡ true) × (is_some b ≡ true)
some_made w None b h = cc
some_made w (Some a) None h = cc
some_made w (Some a) (Some b) h = (making_by w _ _ a b refl refl h, refl, refl)

-- a fact of a word, by its first character
spelt : (P : Text → Type 0) (w : Text) (is : IsWord w) → P (is.first ∷ is.rest) → P w
spelt P w is h = subst P (sym is.is) h

fits_one : (w : Text) → is_some (request (w ∷ [])) ≡ true → Fits (w ∷ []) (request (w ∷ []))
fits_one w h =
    let some = some_read (task w) (most None) (ap is_some (sym (alone w)) ∙ h) in
    let is = reading w some.0 in
    subst (Fits (w ∷ [])) (sym (alone w)) (spelt (λ x. Fits (x ∷ []) (read_by (task x) (most None))) w is (fits_alone is.first is.rest is.other))

two_by : (f s : Text) (a b : Option Text) → value_within f ≡ a → value_within s ≡ b → is_some (request (f ∷ s ∷ [])) ≡ true → Fits (f ∷ s ∷ []) (request (f ∷ s ∷ []))
two_by f s (Some v) b e l h =
    let same = glued_first f s v e in
    let some = some_read (task s) (most (Some v)) (ap is_some (sym same) ∙ h) in
    let is = reading s some.0 in
    subst (λ x. Fits (x ∷ s ∷ []) (request (f ∷ s ∷ []))) (sym (within_is f v e)) (subst (Fits (named v ∷ s ∷ [])) (sym same)
    (spelt (λ x. Fits (named v ∷ x ∷ []) (read_by (task x) (most (Some v)))) s is (fits_glued_first is.first is.rest is.other v)))
two_by f s None (Some v) e l h =
    let same = glued_last f s v e l in
    let some = some_read (task f) (most (Some v)) (ap is_some (sym same) ∙ h) in
    let is = reading f some.0 in
    subst (λ x. Fits (f ∷ x ∷ []) (request (f ∷ s ∷ []))) (sym (within_is s v l)) (subst (Fits (f ∷ named v ∷ [])) (sym same)
    (spelt (λ x. Fits (x ∷ named v ∷ []) (read_by (task x) (most (Some v)))) f is (fits_glued_last is.first is.rest is.other v)))
two_by f s None None e l h = let none = ap is_some (no_two f s e l) in cc

read_first : (f s t : Text) → is_option f ≡ true → is_some (request (f ∷ s ∷ t ∷ [])) ≡ true → Fits (f ∷ s ∷ t ∷ []) (request (f ∷ s ∷ t ∷ []))
read_first f s t e h =
    let same = apart_first f s t e in
    let some = some_read (task t) (most (Some s)) (ap is_some (sym same) ∙ h) in
    let is = reading t some.0 in
    let d = within 0 4294967295 s some.1 in
    subst (λ x. Fits (x ∷ s ∷ t ∷ []) (request (f ∷ s ∷ t ∷ []))) (sym (option_is f e)) (subst (Fits (name ∷ s ∷ t ∷ [])) (sym same)
    (spelt (λ x. Fits (name ∷ s ∷ x ∷ []) (read_by (task x) (most (Some s)))) t is
    (spelt (λ x. Fits (name ∷ x ∷ (is.first ∷ is.rest) ∷ []) (read_by (task (is.first ∷ is.rest)) (most (Some x)))) s d
    (fits_apart_first is.first is.rest is.other d.first d.rest d.other))))

read_last : (f s t : Text) → is_option f ≡ false → is_option s ≡ true → is_some (request (f ∷ s ∷ t ∷ [])) ≡ true → Fits (f ∷ s ∷ t ∷ []) (request (f ∷ s ∷ t ∷ []))
read_last f s t plain e h =
    let same = apart_last f s t plain e in
    let some = some_read (task f) (most (Some t)) (ap is_some (sym same) ∙ h) in
    let is = reading f some.0 in
    let d = within 0 4294967295 t some.1 in
    subst (λ x. Fits (f ∷ x ∷ t ∷ []) (request (f ∷ s ∷ t ∷ []))) (sym (option_is s e)) (subst (Fits (f ∷ name ∷ t ∷ [])) (sym same)
    (spelt (λ x. Fits (x ∷ name ∷ t ∷ []) (read_by (task x) (most (Some t)))) f is
    (spelt (λ x. Fits ((is.first ∷ is.rest) ∷ name ∷ x ∷ []) (read_by (task (is.first ∷ is.rest)) (most (Some x)))) t d
    (fits_apart_last is.first is.rest is.other d.first d.rest d.other))))

generated_three : (f s t : Text) → is_option f ≡ false → is_option s ≡ false → is_some (request (f ∷ s ∷ t ∷ [])) ≡ true → Fits (f ∷ s ∷ t ∷ []) (request (f ∷ s ∷ t ∷ []))
generated_three f s t lone none h =
    let same = made f s t lone none in
    let some = some_made f (number s) (between 1 100000 t) (ap is_some (sym same) ∙ h) in
    let is = some.0 in
    let d = digits s some.1 in
    let n = within 1 100000 t some.2 in
    subst (Fits (f ∷ s ∷ t ∷ [])) (sym same)
    (spelt (λ x. Fits (x ∷ s ∷ t ∷ []) (generated x s t)) f is
    (spelt (λ x. Fits ((is.first ∷ is.rest) ∷ x ∷ t ∷ []) (generated (is.first ∷ is.rest) x t)) s d
    (spelt (λ x. Fits ((is.first ∷ is.rest) ∷ (d.first ∷ d.rest) ∷ x ∷ []) (generated (is.first ∷ is.rest) (d.first ∷ d.rest) x)) t n
    (fits_made is.first is.rest is.other d.first d.rest d.other n.first n.rest n.other))))

three_by : (f s t : Text) (a b : Bool) → is_option f ≡ a → is_option s ≡ b → is_some (request (f ∷ s ∷ t ∷ [])) ≡ true → Fits (f ∷ s ∷ t ∷ []) (request (f ∷ s ∷ t ∷ []))
three_by f s t true b e l h = read_first f s t e h
three_by f s t false true e l h = read_last f s t e l h
three_by f s t false false e l h = generated_three f s t e l h

pub fits : (words : List Text) → is_some (request words) ≡ true → Fits words (request words)
fits [] h = cc
fits (w ∷ []) h = fits_one w h
fits (f ∷ s ∷ []) h = two_by f s _ _ refl refl h
fits (f ∷ s ∷ t ∷ []) h = three_by f s t _ _ refl refl h
fits (a ∷ b ∷ c ∷ d ∷ more) h = let no = ap is_some (too_many (a ∷ b ∷ c ∷ d ∷ more) (omega arith)) in cc

-- ---- what clap is called with, and what it finds

pub taken : (read words : List Text) → read ≡ words → is_some (request words) ≡ true → takes xsv read ≡ true
taken read words is some = ap (takes xsv) is ∙ (fits words some).taken

pub asked_for : (m : ArgMatches) (read words : List Text) → HasMatchesOf xsv read m → read ≡ words → is_some (request words) ≡ true
    → given_by (first_value (found_of m) (codes "COMMAND")) (first_value (found_of m) (codes "NUMBER")) (first_value (found_of m) (codes "COUNT")) (first_value (found_of m) (codes "max-errors"))
    ≡ request words
asked_for m read words h is some =
    let f = found_of m in
    let rows : rows_of f ≡ matches_of xsv words = (h simple).0 ∙ ap (matches_of xsv) is in
    (λ i. given_by (first_value-rows f (codes "COMMAND") i) (first_value-rows f (codes "NUMBER") i) (first_value-rows f (codes "COUNT") i) (first_value-rows f (codes "max-errors") i))
    ∙ (ap found_by rows ∙ (fits words some).found)

pub unasked : (o : Option Request) → false ≡ is_some o → None ≡ o
unasked None e = refl
unasked (Some r) e = cc
