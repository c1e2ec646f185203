-- What is read between separators is tight, and has no separator.
use Rattle.std.proofs.Common.{lit<, ◌≡◌, ℕ, ◌==◌, ◌&&◌, ◌||◌, ◌<◌, Bool, true, false, not, List, [], ◌∷◌, ◌++◌, None, Some, length, get_or, suc, refl, sym, ◌∙◌, ap, subst, true≢false, arith}
use Rattle.std.specs.Prelude.{codes}
use Rattle.std.specs.List.{list_any, list_all}
use Rattle.std.specs.Str.{chars, NonePass}
use Rattle.std.proofs.lemmas.Str.{encodes-chars, NoCharPasses-byte, chars-nil}
use Rattle.xs_names.specs.Characters.{is_ncname, is_name, is_name_char, is_name_start, is_colon}
use Rattle.xpath_subset.specs.Grammar.{WrittenTest, star, any_of, name, WrittenStep, itself, child, attribute, WrittenPath, IsName, IsTest, Follows, IsElementStep, IsLastOfField, EndsIn, StartsAnywhere, IsPath}
use Rattle.xpath_subset.specs.inside.Trims.{is_white_byte, put_before, trim_end, IsTight}
use Rattle.xpath_subset.proofs.Trims.{front_other, put_other, tight-join, both}
use Rattle.xpath_subset.proofs.Pieces.{IsPlain, any_append, white_pieces, neither, eqb_true}

-- the characters of NCNames
abbrev pub is_inner : ℕ → Bool
is_inner c = is_name_char c && not (is_colon c)

all_inner : (cs : List ℕ) → list_all is_name_char cs ≡ true → list_any is_colon cs ≡ false → NonePass (λ c. not (is_inner c)) cs
all_inner [] e f = tt
all_inner (c ∷ cs) e f =
    let named = both (is_name_char c) (list_all is_name_char cs) e in
    let bare = neither (is_colon c) (list_any is_colon cs) f in
    (by (is_name_char c) (is_colon c) named.0 bare.0, all_inner cs named.1 bare.1)
  where
    by : (a b : Bool) → a ≡ true → b ≡ false → not (a && not b) ≡ false
    by true true e f = absurd (true≢false f)
    by true false e f = refl
    by false b e f = absurd (true≢false (sym e))

start_char : (c : ℕ) → is_name_start c ≡ true → is_name_char c ≡ true
start_char c e = grind (arith, e)

ncname_inner : (cs : List ℕ) → is_ncname cs ≡ true → NonePass (λ c. not (is_inner c)) cs
ncname_inner [] e = tt
ncname_inner (c ∷ cs) e =
    let parts = both (is_name (c ∷ cs)) (not (list_any is_colon (c ∷ cs))) e in
    let named = both (is_name_start c) (list_all is_name_char cs) parts.0 in
    all_inner (c ∷ cs) (by (is_name_char c) (list_all is_name_char cs) (start_char c named.0) named.1) (off (list_any is_colon (c ∷ cs)) parts.1)
  where
    by : (a b : Bool) → a ≡ true → b ≡ true → a && b ≡ true
    by true b e f = f
    by false b e f = absurd (true≢false (sym e))

    off : (b : Bool) → not b ≡ true → b ≡ false
    off true e = absurd (true≢false (sym e))
    off false e = refl

-- each byte of a name that is a character is one of an NCName
any_none : (p : ℕ → Bool) (bs : List ℕ) → ((i : ℕ) → i < length bs → p (get_or bs i 0) ≡ false) → list_any p bs ≡ false
any_none p [] none = refl
any_none p (b ∷ bs) none =
    ap (λ c. c || list_any p bs) (none 0 (omega arith)) ∙ any_none p bs (λ i below. none (suc i) (omega (arith, below)))

pub name_without : (p : ℕ → Bool) → ((b : ℕ) → p b ≡ true → (b < 128) × (is_inner b ≡ false)) → (bs : List ℕ) → IsName bs → list_any p bs ≡ false
name_without p outside bs named = any_none p bs (λ i below. by (get_or bs i 0) (NoCharPasses-byte (λ c. not (is_inner c)) bs i (chars bs, encodes-chars bs named.0, ncname_inner (chars bs) named.1) below) (p (get_or bs i 0)) refl)
  where
    by : (b : ℕ) → (b < 128 → not (is_inner b) ≡ false) → (test : Bool) → p b ≡ test → p b ≡ false
    by b inner false e = e
    by b inner true e =
        let out = outside b e in
        absurd (true≢false (sym (ap not out.1) ∙ inner out.0))

pub name_some : (bs : List ℕ) → IsName bs → (b : ℕ) × (rest : List ℕ) × (bs ≡ b ∷ rest)
name_some [] named = absurd (true≢false (sym named.1 ∙ ap is_ncname chars-nil))
name_some (b ∷ bs) named = (b, bs, refl)

white_is : (P : ℕ → Type 0) → P 32 → P 9 → P 10 → P 13 → (b : ℕ) → is_white_byte b ≡ true → P b
white_is P space tab feed return b e = by (b == 32) refl (b == 9) refl (b == 10) refl (b == 13) refl e
  where
    by : (s : Bool) → b == 32 ≡ s → (t : Bool) → b == 9 ≡ t → (f : Bool) → b == 10 ≡ f → (r : Bool) → b == 13 ≡ r → (s || t) || (f || r) ≡ true → P b
    by true s t t1 f f1 r r1 e = subst P (sym (eqb_true b 32 s)) space
    by false s true t f f1 r r1 e = subst P (sym (eqb_true b 9 t)) tab
    by false s false t true f r r1 e = subst P (sym (eqb_true b 10 f)) feed
    by false s false t false f true r e = subst P (sym (eqb_true b 13 r)) return
    by false s false t false f false r e = absurd (true≢false (sym e))

pub white_outside : (b : ℕ) → is_white_byte b ≡ true → (b < 128) × (is_inner b ≡ false)
white_outside = white_is (λ b. (b < 128) × (is_inner b ≡ false)) (lit< tt, refl) (lit< tt, refl) (lit< tt, refl) (lit< tt, refl)

-- a text without white space, and not empty, is tight
no_white_end : (bs : List ℕ) → list_any is_white_byte bs ≡ false → trim_end bs ≡ bs
no_white_end [] e = refl
no_white_end (b ∷ bs) e =
    let parts = neither (is_white_byte b) (list_any is_white_byte bs) e in
    ap (put_before b) (no_white_end bs parts.1) ∙ by bs parts.0
  where
    by : (bs : List ℕ) → is_white_byte b ≡ false → put_before b bs ≡ b ∷ bs
    by [] e = put_other b e
    by (c ∷ cs) e = refl

ends_from : (front : List ℕ) (b : ℕ) (bs : List ℕ) → trim_end (b ∷ bs) ≡ b ∷ bs → trim_end (front ++ b ∷ bs) ≡ front ++ b ∷ bs
ends_from [] b bs e = e
ends_from (c ∷ front) b bs e = ap (put_before c) (ends_from front b bs e) ∙ by front
  where
    by : (front : List ℕ) → put_before c (front ++ b ∷ bs) ≡ c ∷ (front ++ b ∷ bs)
    by [] = refl
    by (d ∷ front) = refl

pub tight_cons : (b : ℕ) (bs : List ℕ) → list_any is_white_byte (b ∷ bs) ≡ false → IsTight (b ∷ bs)
tight_cons b bs e = record {
  begins = λ more. front_other b (bs ++ more) (neither (is_white_byte b) (list_any is_white_byte bs) e).0;
  ends = λ front. ends_from front b bs (no_white_end (b ∷ bs) e);
}

-- a test of bytes that passes no byte of a name, of white space or of a name test
pub record IsApart (p : ℕ → Bool) : Type 0 where
  pub white : (b : ℕ) → is_white_byte b ≡ true → p b ≡ false
  pub inner : (b : ℕ) → p b ≡ true → (b < 128) × (is_inner b ≡ false)
  pub star : p 42 ≡ false
  pub colon : p 58 ≡ false
  pub dot : p 46 ≡ false
  pub at : p 64 ≡ false
  pub child : list_any p (codes "child::") ≡ false
  pub attribute : list_any p (codes "attribute::") ≡ false

one_none : (p : ℕ → Bool) (b : ℕ) → p b ≡ false → list_any p (b ∷ []) ≡ false
one_none p b e = ap (λ c. c || false) e

pub test_without : (p : ℕ → Bool) → ((b : ℕ) → p b ≡ true → (b < 128) × (is_inner b ≡ false)) → p 42 ≡ false → p 58 ≡ false → (test : WrittenTest) (text : List ℕ) → IsTest test text → list_any p text ≡ false
test_without p outside s c star text reads = ap (list_any p) reads.0 ∙ one_none p 42 s
test_without p outside s c (any_of prefix) text reads = ap (list_any p) reads.0 ∙ any_append p prefix (58 ∷ 42 ∷ []) (name_without p outside prefix reads.1) (ap (λ b. b || (p 42 || false)) c ∙ one_none p 42 s)
test_without p outside s c (name None local) text reads = ap (list_any p) reads.0 ∙ name_without p outside local reads.1
test_without p outside s c (name (Some prefix) local) text reads = ap (list_any p) reads.0 ∙ any_append p prefix (58 ∷ local) (name_without p outside prefix reads.1.0) (ap (λ b. b || list_any p local) c ∙ name_without p outside local reads.1.1)

pub test_some : (test : WrittenTest) (text : List ℕ) → IsTest test text → (b : ℕ) × (rest : List ℕ) × (text ≡ b ∷ rest)
test_some star text reads = (42, [], reads.0)
test_some (any_of prefix) text reads = let some = name_some prefix reads.1 in (some.0, some.1 ++ 58 ∷ 42 ∷ [], reads.0 ∙ ap (λ t. t ++ 58 ∷ 42 ∷ []) some.2)
test_some (name None local) text reads = let some = name_some local reads.1 in (some.0, some.1, reads.0 ∙ some.2)
test_some (name (Some prefix) local) text reads = let some = name_some prefix reads.1.0 in (some.0, some.1 ++ 58 ∷ local, reads.0 ∙ ap (λ t. t ++ 58 ∷ local) some.2)

pub tight_some : (text : List ℕ) → list_any is_white_byte text ≡ false → (b : ℕ) × (rest : List ℕ) × (text ≡ b ∷ rest) → IsTight text
tight_some text none some = subst IsTight (sym some.2) (tight_cons some.0 some.1 (sym (ap (list_any is_white_byte) some.2) ∙ none))

pub test_tight : (test : WrittenTest) (text : List ℕ) → IsTest test text → IsTight text
test_tight test text reads = tight_some text (test_without is_white_byte white_outside refl refl test text reads) (test_some test text reads)

pub test_plain : (p : ℕ → Bool) → IsApart p → (test : WrittenTest) (text : List ℕ) → IsTest test text → IsPlain p text
test_plain p apart test text reads = record { tight = test_tight test text reads; whole = test_without p apart.inner apart.star apart.colon test text reads }

follows_plain : (p : ℕ → Bool) → IsApart p → (token : List ℕ) → IsTight token → list_any p token ≡ false → (IsRest : List ℕ → Type 0) → ((rest : List ℕ) → IsRest rest → IsPlain p rest) → (text : List ℕ) → Follows token IsRest text → IsPlain p text
follows_plain p apart token tight none IsRest plain text follows =
    let rest = plain follows.1 follows.4 in
    subst (IsPlain p) (sym follows.2) (record {
      tight = tight-join token follows.0 follows.1 tight rest.tight;
      whole = any_append p token (follows.0 ++ follows.1) none (any_append p follows.0 follows.1 (white_pieces p apart.white follows.0 follows.3) rest.whole);
    })

tight_dot : IsTight (codes ".")
tight_dot = tight_cons 46 [] refl

pub element_plain : (p : ℕ → Bool) → IsApart p → (step : WrittenStep) (text : List ℕ) → IsElementStep step text → IsPlain p text
element_plain p apart itself text reads = subst (IsPlain p) (sym reads) (record { tight = tight_dot; whole = one_none p 46 apart.dot })
element_plain p apart (child false test) text reads = test_plain p apart test text reads
element_plain p apart (child true test) text reads = follows_plain p apart (codes "child::") (tight_cons 99 _ refl) apart.child (IsTest test) (test_plain p apart test) text reads
element_plain p apart (attribute axis test) text reads = absurd reads

pub last_plain : (p : ℕ → Bool) → IsApart p → (step : WrittenStep) (text : List ℕ) → IsLastOfField step text → IsPlain p text
last_plain p apart itself text reads = element_plain p apart itself text reads
last_plain p apart (child axis test) text reads = element_plain p apart (child axis test) text reads
last_plain p apart (attribute false test) text reads = follows_plain p apart (codes "@") (tight_cons 64 _ refl) (one_none p 64 apart.at) (IsTest test) (test_plain p apart test) text reads
last_plain p apart (attribute true test) text reads = follows_plain p apart (codes "attribute::") (tight_cons 97 _ refl) apart.attribute (IsTest test) (test_plain p apart test) text reads

-- `/` and `|` are apart
pub equal_outside : (c : ℕ) → c < 128 → is_inner c ≡ false → (b : ℕ) → b == c ≡ true → (b < 128) × (is_inner b ≡ false)
equal_outside c small out b e = subst (λ x. (x < 128) × (is_inner x ≡ false)) (sym (eqb_true b c e)) (small, out)

pub slash_apart : IsApart (λ b. b == 47)
slash_apart = record { white = white_is (λ b. b == 47 ≡ false) refl refl refl refl; inner = equal_outside 47 (lit< tt) refl; star = refl; colon = refl; dot = refl; at = refl; child = refl; attribute = refl }

pub bar_apart : IsApart (λ b. b == 124)
bar_apart = record { white = white_is (λ b. b == 124 ≡ false) refl refl refl refl; inner = equal_outside 124 (lit< tt) refl; star = refl; colon = refl; dot = refl; at = refl; child = refl; attribute = refl }

-- a path has no `|`
pub ends_plain : (IsLast : WrittenStep → List ℕ → Type 0) → ((step : WrittenStep) (text : List ℕ) → IsLast step text → IsPlain (λ b. b == 124) text) → (steps : List WrittenStep) (last : WrittenStep) (text : List ℕ) → EndsIn 47 IsElementStep IsLast steps last text → IsPlain (λ b. b == 124) text
ends_plain IsLast plain [] last text reads = plain last text reads
ends_plain IsLast plain (step ∷ steps) last text reads =
    let front = element_plain (λ b. b == 124) bar_apart step reads.0 reads.5 in
    let rest = ends_plain IsLast plain steps last reads.6.1 reads.6.4 in
    let end = follows_plain (λ b. b == 124) bar_apart (47 ∷ []) (tight_cons 47 [] refl) refl (EndsIn 47 IsElementStep IsLast steps last) (λ t r. ends_plain IsLast plain steps last t r) reads.2 reads.6 in
    subst (IsPlain (λ b. b == 124)) (sym reads.3) (record {
      tight = tight-join reads.0 reads.1 reads.2 front.tight end.tight;
      whole = any_append (λ b. b == 124) reads.0 (reads.1 ++ reads.2) front.whole (any_append (λ b. b == 124) reads.1 reads.2 (white_pieces (λ b. b == 124) bar_apart.white reads.1 reads.4) end.whole);
    })

pub path_plain : (IsLast : WrittenStep → List ℕ → Type 0) → ((step : WrittenStep) (text : List ℕ) → IsLast step text → IsPlain (λ b. b == 124) text) → (path : WrittenPath) (text : List ℕ) → IsPath IsLast path text → IsPlain (λ b. b == 124) text
path_plain IsLast plain path text reads = by path.anywhere reads
  where
    by : (anywhere : Bool) → StartsAnywhere anywhere (EndsIn 47 IsElementStep IsLast path.steps path.last) text → IsPlain (λ b. b == 124) text
    by false reads = ends_plain IsLast plain path.steps path.last text reads
    by true reads = follows_plain (λ b. b == 124) bar_apart (codes ".//") (tight_cons 46 _ refl) refl (EndsIn 47 IsElementStep IsLast path.steps path.last) (λ t r. ends_plain IsLast plain path.steps path.last t r) text reads
