-- A word is the option's name, has its value, or is some other; and what words ask for, by the kinds of each.
use Rattle.std.proofs.Common.{◌≡◌, ◌⊎◌, inl, inr, ℕ, suc, ◌≤◌, ◌+◌, ◌&&◌, List, [], ◌∷◌, ◌++◌, Bool, true, false, drop, length, Option, Some, None, MatchOption, codes, refl, sym, subst, ap, ◌∙◌, arith}
use Rattle.std.specs.Prelude.{nat_eq, nat_lt, nat_le, if◌then◌else◌}
use Rattle.std.specs.List.{starts_with}
use Rattle.std.specs.Str.{bytes_eq}
use Rattle.std.specs.Str.Parse.{digits_value}
use Rattle.std.specs.Str.{IsCharBoundary}
use Rattle.std.specs.Str.Pattern.{FindsTextPrefix, StripsPrefix}
use Rattle.std.specs.Option.{option_copied}
use Rattle.std.specs.Borrow.{Bor}
use Rattle.std.proofs.lemmas.Str.Pattern.{starts_text}
use Rattle.std.proofs.lemmas.Bool.Decides.{Decides-eqb}
use Rattle.std.proofs.lemmas.Slice.Eq.{bytes_eq-Decides, starts_is}
use Rattle.command_words.specs.Numbers.{is_number, number, between}
use Rattle.command_words.specs.Requests.{Line, asked, asked_by, generated, generated_by, is_option, line, most, no_words, read_by, request, task, value_within, with_by, with_positional, with_value}

abbrev pub Text : Type 0
Text = List ℕ

abbrev pub name : Text
name = codes "--max-errors"

abbrev pub named : Text → Text
named v = codes "--max-errors=" ++ v

-- the word is no part of the option
pub record IsOther (w : Text) : Type 0 where
  pub apart : is_option w ≡ false
  pub within : value_within w ≡ None

abbrev pub Kind : Text → Type 0
Kind w = (w ≡ name) ⊎ ((v : Text) × (w ≡ named v)) ⊎ IsOther w

pub option_is : (w : Text) → is_option w ≡ true → w ≡ name
option_is w e = (bytes_eq-Decides w name).0 e

-- what is behind the option's name and an equals sign
pub within_of : (w : Text) (r : Option (Bor Text)) → MatchOption r (FindsTextPrefix (codes "--max-errors=") w None) (λ x. StripsPrefix (FindsTextPrefix (codes "--max-errors=")) w x.now)
    → option_copied r ≡ value_within w
within_of w None h = rw (← starts_text false (codes "--max-errors=") w h) refl
within_of w (Some x) h = rw (← starts_text true (codes "--max-errors=") w (h.0, h.1, subst (IsCharBoundary w) (sym h.1.0) h.1.2)) (ap Some (h.2 ∙ ap (λ k. drop k w) h.1.0))

within_by : (w v : Text) (t : Bool) → t ≡ starts_with nat_eq w (codes "--max-errors=") → (if t then Some (drop 13 w) else None) ≡ Some v → w ≡ named v
within_by w v false same e = cc
within_by w v true same e =
    let at : w ≡ codes "--max-errors=" ++ drop 13 w = (starts_is Decides-eqb w (codes "--max-errors=") true same).0 refl in
    let is : drop 13 w ≡ v = cc in
    at ∙ ap named is

pub within_is : (w v : Text) → value_within w ≡ Some v → w ≡ named v
within_is w v e = within_by w v (starts_with nat_eq w (codes "--max-errors=")) refl e

kind_by : (w : Text) (t : Bool) (o : Option Text) → is_option w ≡ t → value_within w ≡ o → Kind w
kind_by w true o at within = inl (option_is w at)
kind_by w false (Some v) at within = inr (inl (v, within_is w v within))
kind_by w false None at within = inr (inr (record { apart = at; within = within }))

pub kind : (w : Text) → Kind w
kind w = kind_by w (is_option w) (value_within w) refl refl

-- ---- numbers

no_digits : (a b c : Bool) → (a && (b && (false && c))) ≡ false
no_digits false b c = refl
no_digits true false c = refl
no_digits true true c = refl

number_by : (w : Text) (n : ℕ) (t : Bool) → t ≡ false → (if t then Some n else None) ≡ None
number_by w n true e = cc
number_by w n false e = refl

pub named_number : (v : Text) → number (named v) ≡ None
named_number v =
    number_by (named v) _ (is_number (named v)) (no_digits (nat_lt 0 (length (named v))) (nat_le (length (named v)) 20) (nat_le (digits_value 10 (named v)) 18446744073709551615))

pub ungenerated : (word : Text) (a b : Option ℕ) → bytes_eq word (codes "generate") ≡ false → bytes_eq word (codes "trial") ≡ false → generated_by word a b ≡ None
ungenerated word None b e f = refl
ungenerated word (Some a) None e f = refl
ungenerated word (Some a) (Some b) e f = rw (e, f) refl

pub uncounted : (word : Text) (a : Option ℕ) → generated_by word a None ≡ None
uncounted word None = refl
uncounted word (Some a) = refl

-- ---- one word

-- the option's value stands beside one word
pub one_more : (v t : Text) → asked (with_value v (line (t ∷ []))) ≡ read_by (task t) (most (Some v))
one_more v t = go (kind t)
  where
    go : Kind t → asked (with_value v (line (t ∷ []))) ≡ read_by (task t) (most (Some v))
    go (inl is) = subst (λ w. asked (with_value v (line (w ∷ []))) ≡ read_by (task w) (most (Some v))) (sym is) refl
    go (inr (inl p)) = subst (λ w. asked (with_value v (line (w ∷ []))) ≡ read_by (task w) (most (Some v))) (sym p.1) refl
    go (inr (inr o)) = rw (o.apart, o.within) refl

pub alone : (w : Text) → request (w ∷ []) ≡ read_by (task w) (most None)
alone w = go (kind w)
  where
    go : Kind w → request (w ∷ []) ≡ read_by (task w) (most None)
    go (inl is) = subst (λ x. request (x ∷ []) ≡ read_by (task x) (most None)) (sym is) refl
    go (inr (inl p)) = subst (λ x. request (x ∷ []) ≡ read_by (task x) (most None)) (sym p.1) refl
    go (inr (inr o)) = rw (o.apart, o.within) refl

-- ---- two words

pub glued_first : (f s v : Text) → value_within f ≡ Some v → request (f ∷ s ∷ []) ≡ read_by (task s) (most (Some v))
glued_first f s v e = subst (λ w. request (w ∷ s ∷ []) ≡ read_by (task s) (most (Some v))) (sym (within_is f v e)) (one_more v s)

pub glued_last : (f s v : Text) → value_within f ≡ None → value_within s ≡ Some v → request (f ∷ s ∷ []) ≡ read_by (task f) (most (Some v))
glued_last f s v none e = subst (λ w. request (f ∷ w ∷ []) ≡ read_by (task f) (most (Some v))) (sym (within_is s v e)) (go (kind f))
  where
    go : Kind f → request (f ∷ named v ∷ []) ≡ read_by (task f) (most (Some v))
    go (inl is) = subst (λ w. request (w ∷ named v ∷ []) ≡ read_by (task w) (most (Some v))) (sym is) refl
    go (inr (inl p)) = let found : value_within f ≡ Some p.0 = ap value_within p.1 in cc
    go (inr (inr o)) = rw (o.apart, o.within) refl

pub no_two : (f s : Text) → value_within f ≡ None → value_within s ≡ None → request (f ∷ s ∷ []) ≡ None
no_two f s none lone = go (kind f) (kind s)
  where
    go : Kind f → Kind s → request (f ∷ s ∷ []) ≡ None
    go (inl is) k = subst (λ w. request (w ∷ s ∷ []) ≡ None) (sym is) refl
    go (inr (inl p)) k = let found : value_within f ≡ Some p.0 = ap value_within p.1 in cc
    go (inr (inr o)) (inl is) = subst (λ w. request (f ∷ w ∷ []) ≡ None) (sym is) (rw (o.apart, o.within) refl)
    go (inr (inr o)) (inr (inl p)) = let found : value_within s ≡ Some p.0 = ap value_within p.1 in cc
    go (inr (inr o)) (inr (inr q)) = rw (o.apart, o.within) (rw (q.apart, q.within) refl)

-- ---- three words

pub apart_first : (f s t : Text) → is_option f ≡ true → request (f ∷ s ∷ t ∷ []) ≡ read_by (task t) (most (Some s))
apart_first f s t e = subst (λ w. request (w ∷ s ∷ t ∷ []) ≡ read_by (task t) (most (Some s))) (sym (option_is f e)) (one_more s t)

pub apart_last : (f s t : Text) → is_option f ≡ false → is_option s ≡ true → request (f ∷ s ∷ t ∷ []) ≡ read_by (task f) (most (Some t))
apart_last f s t other e = subst (λ w. request (f ∷ w ∷ t ∷ []) ≡ read_by (task f) (most (Some t))) (sym (option_is s e)) (go (kind f))
  where
    go : Kind f → request (f ∷ name ∷ t ∷ []) ≡ read_by (task f) (most (Some t))
    go (inl is) = let found : is_option f ≡ true = ap is_option is in cc
    go (inr (inl p)) = subst (λ w. request (w ∷ name ∷ t ∷ []) ≡ read_by (task w) (most (Some t))) (sym p.1) refl
    go (inr (inr o)) = rw (o.apart, o.within) refl

-- two positional words behind an option with its value ask for nothing
behind_value : (v s t : Text) → is_option s ≡ false → asked (with_value v (line (s ∷ t ∷ []))) ≡ None
behind_value v s t other = go (kind s) (kind t)
  where
    last : IsOther s → Kind t → asked (with_value v (with_positional s (line (t ∷ [])))) ≡ None
    last o (inl is) = subst (λ w. asked (with_value v (with_positional s (line (w ∷ [])))) ≡ None) (sym is) refl
    last o (inr (inl p)) = subst (λ w. asked (with_value v (with_positional s (line (w ∷ [])))) ≡ None) (sym p.1) refl
    last o (inr (inr q)) = rw (q.apart, q.within) refl

    twice : (u : Text) → Kind t → asked (with_value v (with_value u (line (t ∷ [])))) ≡ None
    twice u (inl is) = subst (λ w. asked (with_value v (with_value u (line (w ∷ [])))) ≡ None) (sym is) refl
    twice u (inr (inl p)) = subst (λ w. asked (with_value v (with_value u (line (w ∷ [])))) ≡ None) (sym p.1) refl
    twice u (inr (inr q)) = rw (q.apart, q.within) refl

    go : Kind s → Kind t → asked (with_value v (line (s ∷ t ∷ []))) ≡ None
    go (inl is) k = let found : is_option s ≡ true = ap is_option is in cc
    go (inr (inl p)) k = subst (λ w. asked (with_value v (line (w ∷ t ∷ []))) ≡ None) (sym p.1) (twice p.0 k)
    go (inr (inr o)) k = rw (o.apart, o.within) (last o k)

pub made : (f s t : Text) → is_option f ≡ false → is_option s ≡ false → request (f ∷ s ∷ t ∷ []) ≡ generated f s t
made f s t lone none = go (kind f) (kind s) (kind t)
  where
    second : (u : Text) → Kind t → asked (with_positional f (with_value u (line (t ∷ [])))) ≡ None
    second u (inl is) = subst (λ w. asked (with_positional f (with_value u (line (w ∷ [])))) ≡ None) (sym is) refl
    second u (inr (inl p)) = subst (λ w. asked (with_positional f (with_value u (line (w ∷ [])))) ≡ None) (sym p.1) refl
    second u (inr (inr q)) = rw (q.apart, q.within) refl

    third : Kind t → asked (with_positional f (with_positional s (line (t ∷ [])))) ≡ generated f s t
    third (inl is) = subst (λ w. asked (with_positional f (with_positional s (line (w ∷ [])))) ≡ generated f s w) (sym is) (sym (uncounted f (number s)))
    third (inr (inl p)) = subst (λ w. asked (with_positional f (with_positional s (line (w ∷ [])))) ≡ generated f s w) (sym p.1)
        (rw (named_number p.0) (sym (uncounted f (number s))))
    third (inr (inr q)) = rw (q.apart, q.within) refl

    go : Kind f → Kind s → Kind t → request (f ∷ s ∷ t ∷ []) ≡ generated f s t
    go (inl is) k l = let found : is_option f ≡ true = ap is_option is in cc
    go (inr (inl p)) k l = subst (λ w. request (w ∷ s ∷ t ∷ []) ≡ generated w s t) (sym p.1)
        (behind_value p.0 s t none ∙ sym (ungenerated (named p.0) (number s) (between 1 100000 t) refl refl))
    go (inr (inr o)) (inl is) l = let found : is_option s ≡ true = ap is_option is in cc
    go (inr (inr o)) (inr (inl p)) l = rw (o.apart, o.within)
        (subst (λ w. asked (with_positional f (line (w ∷ t ∷ []))) ≡ generated f w t) (sym p.1) (second p.0 l ∙ sym (rw (named_number p.0) refl)))
    go (inr (inr o)) (inr (inr q)) l = rw (o.apart, o.within) (rw (q.apart, q.within) (third l))

-- ---- more words

abbrev Holds : ℕ → List Text → Option Text → Type 0
Holds n words None = n ≤ length words
Holds n words (Some v) = n ≤ length words + 2

-- so many words are in the line, where there is one
abbrev Counts : ℕ → Option Line → Type 0
Counts n None = Unit {0}
Counts n (Some l) = Holds n l.positional l.value

once : (v : Text) (n : ℕ) (words : List Text) (o : Option Text) → Holds n words o
    → Counts (suc (suc n)) (with_value v (Some (record { positional = words; value = o })))
once v n words None h = omega arith
once v n words (Some other) h = tt

with_two : (v : Text) (n : ℕ) (o : Option Line) → Counts n o → Counts (suc (suc n)) (with_value v o)
with_two v n None h = tt
with_two v n (Some l) h = once v n l.positional l.value h

less : (n : ℕ) (words : List Text) (o : Option Text) → Holds (suc n) words o → Holds n words o
less n words None h = omega arith
less n words (Some v) h = omega arith

fewer : (n : ℕ) (o : Option Line) → Counts (suc n) o → Counts n o
fewer n None h = tt
fewer n (Some l) h = less n l.positional l.value h

placed : (w : Text) (n : ℕ) (words : List Text) (o : Option Text) → Holds n words o → Holds (suc n) (w ∷ words) o
placed w n words None h = omega arith
placed w n words (Some v) h = omega arith

with_one : (w : Text) (n : ℕ) (x : Option Text) (o : Option Line) → Counts n o → Counts (suc n) (with_by w x o)
with_one w n (Some v) o h = fewer (suc n) (with_value v o) (with_two v n o h)
with_one w n None None h = tt
with_one w n None (Some l) h = placed w n l.positional l.value h

single : (w : Text) (t : Bool) → Counts 1 (if t then None else with_by w (value_within w) (Some no_words))
single w true = tt
single w false = with_one w 0 (value_within w) (Some no_words) (omega arith)

several : (w next : Text) (more : List Text) (t : Bool) → Counts (length more) (line more) → Counts (suc (length more)) (line (next ∷ more))
    → Counts (suc (suc (length more))) (if t then with_value next (line more) else with_by w (value_within w) (line (next ∷ more)))
several w next more true h l = with_two next (length more) (line more) h
several w next more false h l = with_one w (suc (length more)) (value_within w) (line (next ∷ more)) l

counts : (words : List Text) → Counts (length words) (line words)
counts [] = omega arith
counts (w ∷ []) = single w (is_option w)
counts (w ∷ next ∷ more) = several w next more (is_option w) (counts more) (counts (next ∷ more))

unasked : (n : ℕ) (words : List Text) (o : Option Text) → 4 ≤ n → Holds n words o → asked_by o words ≡ None
unasked n [] None many h = refl
unasked n (a ∷ []) None many h = let few : n ≤ 1 = h in absurd (omega arith)
unasked n (a ∷ b ∷ []) None many h = refl
unasked n (a ∷ b ∷ c ∷ []) None many h = let few : n ≤ 3 = h in absurd (omega arith)
unasked n (a ∷ b ∷ c ∷ d ∷ more) None many h = refl
unasked n [] (Some v) many h = refl
unasked n (a ∷ []) (Some v) many h = let few : n ≤ 3 = h in absurd (omega arith)
unasked n (a ∷ b ∷ more) (Some v) many h = refl

too_many_by : (n : ℕ) (o : Option Line) → 4 ≤ n → Counts n o → asked o ≡ None
too_many_by n None many h = refl
too_many_by n (Some l) many h = unasked n l.positional l.value many h

pub too_many : (words : List Text) → 4 ≤ length words → request words ≡ None
too_many words many = too_many_by (length words) (line words) many (counts words)
