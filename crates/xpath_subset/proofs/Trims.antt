-- White space at the ends of texts.
use Rattle.std.proofs.Common.{◌≡◌, ℕ, ◌&&◌, Bool, true, false, if◌then◌else◌, List, [], ◌∷◌, ◌++◌, refl, sym, ◌∙◌, ap, subst, true≢false, append_assoc}
use Rattle.xs_names.specs.White.{is_white}
use Rattle.xpath_subset.specs.inside.Trims.{is_white_byte, trim_front, put_before, trim_end, trim_white, IsTight}

-- white space is a white byte, and white space
pub both : (a b : Bool) → a && b ≡ true → (a ≡ true) × (b ≡ true)
both true b e = (refl, e)
both false b e = absurd (true≢false (sym e))

pub white_cons : (b : ℕ) (gap : List ℕ) → is_white (b ∷ gap) ≡ true → (is_white_byte b ≡ true) × (is_white gap ≡ true)
white_cons b gap e = both (is_white_byte b) (is_white gap) e

pub white_put : (b : ℕ) (gap : List ℕ) → is_white_byte b ≡ true → is_white gap ≡ true → is_white (b ∷ gap) ≡ true
white_put b gap e f = rw e f

-- a white byte is cut off, and another byte is not
pub front_white : (b : ℕ) (bs : List ℕ) → is_white_byte b ≡ true → trim_front (b ∷ bs) ≡ trim_front bs
front_white b bs e = ap (λ test. if test then trim_front bs else b ∷ bs) e

pub front_other : (b : ℕ) (bs : List ℕ) → is_white_byte b ≡ false → trim_front (b ∷ bs) ≡ b ∷ bs
front_other b bs e = ap (λ test. if test then trim_front bs else b ∷ bs) e

put_white : (b : ℕ) → is_white_byte b ≡ true → put_before b [] ≡ []
put_white b e = ap (λ test. if test then [] else b ∷ []) e

pub put_other : (b : ℕ) → is_white_byte b ≡ false → put_before b [] ≡ b ∷ []
put_other b e = ap (λ test. if test then [] else b ∷ []) e

-- white space before and after a text goes
pub trim_front-gap : (gap text : List ℕ) → is_white gap ≡ true → trim_front (gap ++ text) ≡ trim_front text
trim_front-gap [] text e = refl
trim_front-gap (b ∷ gap) text e =
    let parts = white_cons b gap e in
    front_white b (gap ++ text) parts.0 ∙ trim_front-gap gap text parts.1

trim_end-white : (gap : List ℕ) → is_white gap ≡ true → trim_end gap ≡ []
trim_end-white [] e = refl
trim_end-white (b ∷ gap) e =
    let parts = white_cons b gap e in
    ap (put_before b) (trim_end-white gap parts.1) ∙ put_white b parts.0

pub trim_end-gap : (text gap : List ℕ) → is_white gap ≡ true → trim_end (text ++ gap) ≡ trim_end text
trim_end-gap [] gap e = trim_end-white gap e
trim_end-gap (b ∷ text) gap e = ap (put_before b) (trim_end-gap text gap e)

-- what is cut off is white space
pub front_cut : (text : List ℕ) → (gap : List ℕ) × (is_white gap ≡ true) × (text ≡ gap ++ trim_front text)
front_cut [] = ([], refl, refl)
front_cut (b ∷ text) = by (front_cut text) (is_white_byte b) refl
  where
    by : (gap : List ℕ) × (is_white gap ≡ true) × (text ≡ gap ++ trim_front text) → (test : Bool) → is_white_byte b ≡ test → (gap : List ℕ) × (is_white gap ≡ true) × (b ∷ text ≡ gap ++ trim_front (b ∷ text))
    by rest true e =
        (b ∷ rest.0, white_put b rest.0 e rest.1, ap (λ tail. b ∷ tail) rest.2 ∙ ap (λ tail. b ∷ (rest.0 ++ tail)) (sym (front_white b text e)))
    by rest false e = ([], refl, sym (front_other b text e))

pub end_cut : (text : List ℕ) → (gap : List ℕ) × (is_white gap ≡ true) × (text ≡ trim_end text ++ gap)
end_cut [] = ([], refl, refl)
end_cut (b ∷ text) =
    let rest = end_cut text in
    by (trim_end text) rest.0 rest.1 rest.2 (is_white_byte b) refl
  where
    by : (cut gap : List ℕ) → is_white gap ≡ true → text ≡ cut ++ gap → (test : Bool) → is_white_byte b ≡ test → (gap : List ℕ) × (is_white gap ≡ true) × (b ∷ text ≡ put_before b cut ++ gap)
    by [] gap w e true t = (b ∷ gap, white_put b gap t w, ap (λ tail. b ∷ tail) e ∙ ap (λ front. front ++ b ∷ gap) (sym (put_white b t)))
    by [] gap w e false t = (gap, w, ap (λ tail. b ∷ tail) e ∙ ap (λ front. front ++ gap) (sym (put_other b t)))
    by (c ∷ cs) gap w e test t = (gap, w, ap (λ tail. b ∷ tail) e)

-- a tight text between white space is what is left
pub trim_white-tight : (gap text more : List ℕ) → is_white gap ≡ true → is_white more ≡ true → IsTight text → trim_white (gap ++ (text ++ more)) ≡ text
trim_white-tight gap text more e f tight =
    ap trim_end (trim_front-gap gap (text ++ more) e ∙ tight.begins more) ∙ trim_end-gap text more f ∙ tight.ends []

pub trim_white-gap : (gap text : List ℕ) → is_white gap ≡ true → trim_white (gap ++ text) ≡ trim_white text
trim_white-gap gap text e = ap trim_end (trim_front-gap gap text e)

-- tight texts at the ends make a tight text
pub tight-join : (front middle end : List ℕ) → IsTight front → IsTight end → IsTight (front ++ (middle ++ end))
tight-join front middle end f e = record {
  begins = λ more. subst (λ text. trim_front text ≡ text) (sym (append_assoc front (middle ++ end) more)) (f.begins ((middle ++ end) ++ more));
  ends = λ before. subst (λ text. trim_end text ≡ text) (append_assoc before (front ++ middle) end ∙ ap (λ text. before ++ text) (append_assoc front middle end)) (e.ends (before ++ (front ++ middle)));
}
