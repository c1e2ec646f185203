-- A text has at most one reading as a QName, since a name without a colon holds no colon.
use Rattle.std.proofs.Common.{◌≡◌, ℕ, ◌<◌, Bool, true, false, not, ◌&&◌, ◌||◌, List, [], ◌∷◌, ◌++◌, None, Some, refl, sym, ap, ◌∙◌, true≢false, arith, subst, take, drop, slice_index, if◌then◌else◌, ◌+◌, ◌≤◌, length}
use Rattle.std.specs.List.{list_any, before_first, after_first}
use Rattle.std.specs.Str.{chars, IsUtf8, IsCharBoundary, NonePass, NoCharPasses}
use Rattle.std.specs.Str.Pattern.{HasCharAt}
use Rattle.std.proofs.lemmas.List.{take-append-drop}
use Rattle.std.proofs.lemmas.Str.{chars-append, chars_past_char, chars_from_encodes, encode_ascii, IsUtf8-take, IsUtf8-drop, IsCharBoundary-before_ascii}
use Rattle.std.proofs.lemmas.Str.Pattern.{drop_at_char}
use Rattle.xs_names.specs.Characters.{is_colon, is_name, is_ncname}
use Rattle.xs_names.specs.QName.{IsNoQName, qname}

-- a name without a colon is one
pub list_any-is_ncname : (cs : List ℕ) → is_ncname cs ≡ true → list_any is_colon cs ≡ false
list_any-is_ncname cs e = by (is_name cs) (list_any is_colon cs) refl e
  where
    by : (a b : Bool) → list_any is_colon cs ≡ b → a && not b ≡ true → list_any is_colon cs ≡ false
    by true true c h = cc
    by true false c h = c
    by false b c h = cc

list_any-colon : (p l : List ℕ) → list_any is_colon (p ++ 58 ∷ l) ≡ true
list_any-colon [] l = refl
list_any-colon (x ∷ p) l = by (is_colon x) (list_any-colon p l)
  where
    by : (b : Bool) → list_any is_colon (p ++ 58 ∷ l) ≡ true → b || list_any is_colon (p ++ 58 ∷ l) ≡ true
    by true h = refl
    by false h = h

-- no colon among the items: none at the first, none behind
no_colon_head : (x : ℕ) (xs : List ℕ) → list_any is_colon (x ∷ xs) ≡ false → is_colon x ≡ false
no_colon_head x xs e = by (is_colon x) refl e
  where
    by : (b : Bool) → is_colon x ≡ b → b || list_any is_colon xs ≡ false → is_colon x ≡ false
    by true c h = cc
    by false c h = c

no_colon_tail : (x : ℕ) (xs : List ℕ) → list_any is_colon (x ∷ xs) ≡ false → list_any is_colon xs ≡ false
no_colon_tail x xs e = by (is_colon x) refl e
  where
    by : (b : Bool) → is_colon x ≡ b → b || list_any is_colon xs ≡ false → list_any is_colon xs ≡ false
    by true c h = cc
    by false c h = h

-- a list is cut at its first colon in one way
cut_once : (p q l m : List ℕ) → list_any is_colon p ≡ false → list_any is_colon q ≡ false → p ++ 58 ∷ l ≡ q ++ 58 ∷ m → (p ≡ q) × (l ≡ m)
cut_once [] [] l m a b e = (refl, cc)
cut_once [] (y ∷ q) l m a b e =
    let colon : 58 ≡ y = cc in
    absurd (true≢false (ap is_colon colon ∙ no_colon_head y q b))
cut_once (x ∷ p) [] l m a b e =
    let colon : x ≡ 58 = cc in
    absurd (true≢false (sym (ap is_colon colon) ∙ no_colon_head x p a))
cut_once (x ∷ p) (y ∷ q) l m a b e =
    let head : x ≡ y = cc in
    let tail : p ++ 58 ∷ l ≡ q ++ 58 ∷ m = cc in
    let same = cut_once p q l m (no_colon_tail x p a) (no_colon_tail y q b) tail in
    (ap (λ h. h ∷ p) head ∙ ap (λ t. y ∷ t) same.0, same.1)

-- without a colon only a name is a QName
pub IsNoQName-uncut : (cs : List ℕ) → list_any is_colon cs ≡ false → is_ncname cs ≡ false → IsNoQName cs
IsNoQName-uncut cs c n None local q = true≢false (sym q.1 ∙ sym (ap is_ncname q.0) ∙ n)
IsNoQName-uncut cs c n (Some p) local q = true≢false (sym (list_any-colon p local) ∙ sym (ap (list_any is_colon) q.0) ∙ c)

-- with a colon only the parts round the first can be names
pub IsNoQName-cut : (cs front back : List ℕ) → cs ≡ front ++ 58 ∷ back → list_any is_colon front ≡ false → (is_ncname front ≡ true → is_ncname back ≡ false) → IsNoQName cs
IsNoQName-cut cs front back e c n None local q = true≢false (sym (list_any-colon front back) ∙ sym (ap (list_any is_colon) e) ∙ list_any-is_ncname cs (ap is_ncname q.0 ∙ q.1))
IsNoQName-cut cs front back e c n (Some p) local q =
    let same = cut_once p front local back (list_any-is_ncname p q.1) c (sym q.0 ∙ e) in
    true≢false (sym q.2 ∙ ap is_ncname same.1 ∙ n (sym (ap is_ncname same.0) ∙ q.1))

-- no character is a colon
list_any-NonePass : (cs : List ℕ) → NonePass is_colon cs → list_any is_colon cs ≡ false
list_any-NonePass [] n = refl
list_any-NonePass (c ∷ cs) n = ap (λ b. b || list_any is_colon cs) n.0 ∙ list_any-NonePass cs n.1

pub list_any-NoCharPasses : (bs : List ℕ) → IsUtf8 bs → NoCharPasses is_colon bs → list_any is_colon (chars bs) ≡ false
list_any-NoCharPasses bs u n = sym (ap (list_any is_colon) (chars_from_encodes n.0 bs u n.1)) ∙ list_any-NonePass n.0 n.2

-- the parts of a text round its first colon, as characters
pub record Cut (bs front back : List ℕ) : Type 0 where
  pub characters : chars bs ≡ chars front ++ 58 ∷ chars back
  pub no_colon : list_any is_colon (chars front) ≡ false

pub Cut-HasCharAt : (bs : List ℕ) (i j : ℕ) → IsUtf8 bs → NoCharPasses is_colon (take i bs) → HasCharAt 58 bs i j → j ≤ length bs → Cut bs (take i bs) (drop j bs)
Cut-HasCharAt bs i j u n h l =
    let one : j ≡ i + 1 = h.ends in
    let within : i < length bs = omega arith in
    let byte : slice_index bs i < 128 = omega (arith, h.byte (omega arith)) in
    let boundary : IsCharBoundary bs i = IsCharBoundary-before_ascii bs i within byte in
    let colon : drop i bs ≡ 58 ∷ drop j bs = drop_at_char 58 bs i j h (omega arith) in
    let front : IsUtf8 (take i bs) = IsUtf8-take bs i u boundary in
    let rest : IsUtf8 (58 ∷ drop j bs) = subst IsUtf8 colon (IsUtf8-drop bs i u boundary) in
    let past : chars (58 ∷ drop j bs) ≡ 58 ∷ chars (drop j bs) = chars_past_char (58 ∷ drop j bs) (drop j bs) 58 rest (ap (λ e. e ++ drop j bs) (sym (encode_ascii 58 (omega arith)))) in
    let whole : bs ≡ take i bs ++ 58 ∷ drop j bs = sym (take-append-drop i bs) ∙ ap (λ r. take i bs ++ r) colon in
    record {
      characters = ap chars whole ∙ chars-append (take i bs) (58 ∷ drop j bs) front ∙ ap (λ r. chars (take i bs) ++ r) past;
      no_colon = list_any-NoCharPasses (take i bs) front n;
    }

-- the same of parts that are known by their bytes
pub Cut-parts : (bs front back : List ℕ) (i j : ℕ) → IsUtf8 bs → NoCharPasses is_colon (take i bs) → HasCharAt 58 bs i j → front ≡ take i bs → back ≡ drop j bs → length back + j ≡ length bs → Cut bs front back
Cut-parts bs front back i j u n h f b l = rw (f, b) (Cut-HasCharAt bs i j u n h (omega arith))

-- what a text with a colon reads as
pub qname-cut : (bs front back : List ℕ) → Cut bs front back → front ≡ before_first is_colon bs → back ≡ after_first is_colon bs
    → (b : Bool) → is_ncname (chars front) && is_ncname (chars back) ≡ b → qname bs ≡ (if b then Some (Some front, back) else None)
qname-cut bs front back cut f g b e =
    let whole : is_ncname (chars bs) ≡ false = colon_is_bad (is_ncname (chars bs)) refl in
    let parts : is_ncname (chars (before_first is_colon bs)) && is_ncname (chars (after_first is_colon bs)) ≡ b = rw (← f, ← g) e in
    rw (whole, parts, ← f, ← g) refl
  where
    colon_is_bad : (r : Bool) → is_ncname (chars bs) ≡ r → is_ncname (chars bs) ≡ false
    colon_is_bad true t = absurd (true≢false (sym (list_any-colon (chars front) (chars back)) ∙ sym (ap (list_any is_colon) cut.characters) ∙ list_any-is_ncname (chars bs) t))
    colon_is_bad false t = t
