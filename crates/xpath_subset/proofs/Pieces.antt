-- A text of items with separators, by the pieces between the separators.
use Rattle.std.proofs.Common.{◌≡◌, ◌⊎◌, inl, inr, cond, ℕ, ◌==◌, ◌||◌, ◌+◌, Bool, true, false, List, [], ◌∷◌, ◌++◌, map, length, refl, sym, ◌∙◌, ap, subst, true≢false, arith, append_assoc}
use Rattle.std.specs.List.{slice_split, onto_first, list_any}
use Rattle.std.proofs.lemmas.List.{append-nil}
use Rattle.std.proofs.lemmas.List.Splits.{slice_split-cons_yes, slice_split-cons_no, length-slice_split}
use Rattle.xs_names.specs.White.{is_white}
use Rattle.xpath_subset.specs.Grammar.{EndsIn}
use Rattle.xpath_subset.specs.inside.Gives.{AreWrittenAndLast}
use Rattle.xpath_subset.specs.inside.Trims.{is_white_byte, trim_front, put_before, trim_end, trim_white, IsTight}
use Rattle.xpath_subset.proofs.Trims.{white_cons, front_white, trim_white-tight, front_cut, end_cut, trim_front-gap}

pub neither : (a b : Bool) → a || b ≡ false → (a ≡ false) × (b ≡ false)
neither true b e = absurd (true≢false e)
neither false b e = (refl, e)

-- a text without a separator is one piece, and the first piece ends at the first separator
pub split_none : (p : ℕ → Bool) (xs : List ℕ) → list_any p xs ≡ false → slice_split p xs ≡ xs ∷ []
split_none p [] e = refl
split_none p (x ∷ xs) e =
    let parts = neither (p x) (list_any p xs) e in
    slice_split-cons_no p x xs parts.0 ∙ ap (onto_first x) (split_none p xs parts.1)

pub split_at : (p : ℕ → Bool) (xs : List ℕ) (y : ℕ) (ys : List ℕ) → list_any p xs ≡ false → p y ≡ true → slice_split p (xs ++ y ∷ ys) ≡ xs ∷ slice_split p ys
split_at p [] y ys e f = slice_split-cons_yes p y ys f
split_at p (x ∷ xs) y ys e f =
    let parts = neither (p x) (list_any p xs) e in
    slice_split-cons_no p x (xs ++ y ∷ ys) parts.0 ∙ ap (onto_first x) (split_at p xs y ys parts.1 f)

pub any_append : (p : ℕ → Bool) (xs ys : List ℕ) → list_any p xs ≡ false → list_any p ys ≡ false → list_any p (xs ++ ys) ≡ false
any_append p [] ys e f = f
any_append p (x ∷ xs) ys e f =
    let parts = neither (p x) (list_any p xs) e in
    ap (λ b. b || list_any p (xs ++ ys)) parts.0 ∙ any_append p xs ys parts.1 f

-- a text is cut at its first separator, or has none
pub cut_first : (p : ℕ → Bool) (xs : List ℕ) → (list_any p xs ≡ false) ⊎ ((front : List ℕ) × (y : ℕ) × (rest : List ℕ) × (xs ≡ front ++ y ∷ rest) × (list_any p front ≡ false) × (p y ≡ true))
cut_first p [] = inl refl
cut_first p (x ∷ xs) = by (p x) refl (cut_first p xs)
  where
    by : (b : Bool) → p x ≡ b → (list_any p xs ≡ false) ⊎ ((front : List ℕ) × (y : ℕ) × (rest : List ℕ) × (xs ≡ front ++ y ∷ rest) × (list_any p front ≡ false) × (p y ≡ true)) → (list_any p (x ∷ xs) ≡ false) ⊎ ((front : List ℕ) × (y : ℕ) × (rest : List ℕ) × (x ∷ xs ≡ front ++ y ∷ rest) × (list_any p front ≡ false) × (p y ≡ true))
    by true e tail = inr ([], x, xs, refl, refl, e)
    by false e (inl none) = inl (ap (λ b. b || list_any p xs) e ∙ none)
    by false e (inr cut) = inr (x ∷ cut.0, cut.1, cut.2, ap (λ tail. x ∷ tail) cut.3, ap (λ b. b || list_any p cut.0) e ∙ cut.4, cut.5)

-- white space before a text does not change its trimmed pieces
gap_pieces : (p : ℕ → Bool) → ((b : ℕ) → is_white_byte b ≡ true → p b ≡ false) → (gap text : List ℕ) → is_white gap ≡ true → map trim_white (slice_split p (gap ++ text)) ≡ map trim_white (slice_split p text)
gap_pieces p apart [] text e = refl
gap_pieces p apart (b ∷ gap) text e =
    let parts = white_cons b gap e in
    ap (map trim_white) (slice_split-cons_no p b (gap ++ text) (apart b parts.0)) ∙ onto (slice_split p (gap ++ text)) _ (length-slice_split p (gap ++ text)) parts.0 ∙ gap_pieces p apart gap text parts.1
  where
    onto : (pieces : List (List ℕ)) (n : ℕ) → length pieces ≡ n + 1 → is_white_byte b ≡ true → map trim_white (onto_first b pieces) ≡ map trim_white pieces
    onto [] n e w = absurd (omega (arith, e))
    onto (piece ∷ pieces) n e w = ap (λ first. trim_end first ∷ map trim_white pieces) (front_white b piece w)

pub white_pieces : (p : ℕ → Bool) → ((b : ℕ) → is_white_byte b ≡ true → p b ≡ false) → (gap : List ℕ) → is_white gap ≡ true → list_any p gap ≡ false
white_pieces p apart [] e = refl
white_pieces p apart (b ∷ gap) e =
    let parts = white_cons b gap e in
    ap (λ c. c || list_any p gap) (apart b parts.0) ∙ white_pieces p apart gap parts.1

-- a text that ends in no white space has such ends
pub end_of : (front text : List ℕ) → trim_end (front ++ text) ≡ front ++ text → trim_end text ≡ text
end_of [] text e = e
end_of (b ∷ front) text e = end_of front text (by (front ++ text) (trim_end (front ++ text)) refl e)
  where
    by : (whole cut : List ℕ) → trim_end whole ≡ cut → put_before b cut ≡ b ∷ whole → trim_end whole ≡ whole
    by [] cut e f = refl
    by (c ∷ whole) [] e f = at (is_white_byte b) f
      where
        at : (test : Bool) → (cond test [] (b ∷ [])) ≡ b ∷ c ∷ whole → trim_end (c ∷ whole) ≡ c ∷ whole
        at true f = absurd (let n = ap length f in omega (arith, n))
        at false f = absurd (let n = ap length f in omega (arith, n))
    by (c ∷ whole) (d ∷ cut) e f = e ∙ tails f
      where
        tails : b ∷ d ∷ cut ≡ b ∷ c ∷ whole → d ∷ cut ≡ c ∷ whole
        tails f = cc

-- a text of an item: it is tight, and has no separator
pub record IsPlain (p : ℕ → Bool) (text : List ℕ) : Type 0 where
  pub tight : IsTight text
  pub whole : list_any p text ≡ false

pub eqb_true : (a b : ℕ) → a == b ≡ true → a ≡ b
eqb_true a b e = grind arith

-- the trimmed pieces of a text of items, and the text of such pieces
module _ {A B : Type 0} (sep : ℕ) (IsItem : A → List ℕ → Type 0) (IsLast : B → List ℕ → Type 0) (apart : (b : ℕ) → is_white_byte b ≡ true → b == sep ≡ false) (same : sep == sep ≡ true)
    (item_plain : (item : A) (text : List ℕ) → IsItem item text → IsPlain (λ b. b == sep) text) (last_plain : (last : B) (text : List ℕ) → IsLast last text → IsPlain (λ b. b == sep) text) where
  pub pieces-from_EndsIn : (items : List A) (last : B) (text : List ℕ) → EndsIn sep IsItem IsLast items last text → AreWrittenAndLast IsItem IsLast items last (map trim_white (slice_split (λ b. b == sep) text))
  pieces-from_EndsIn [] last text reads =
      let plain = last_plain last text reads in
      let whole = split_none (λ b. b == sep) text plain.whole in
      let trims : trim_white text ≡ text = ap (λ t. trim_end (trim_front t)) (sym (append-nil text)) ∙ trim_white-tight [] text [] refl refl plain.tight in
      subst (λ pieces. AreWrittenAndLast IsItem IsLast [] last (map trim_white pieces)) (sym whole) (subst (IsLast last) (sym trims) reads)
  pieces-from_EndsIn (item ∷ items) last text reads =
      let front = reads.0 in let gap = reads.1 in let follows = reads.6 in
      let plain = item_plain item front reads.5 in
      let rest = pieces-from_EndsIn items last follows.1 follows.4 in
      let text_is : text ≡ (front ++ gap) ++ sep ∷ (follows.0 ++ follows.1) = reads.3 ∙ ap (λ t. front ++ (gap ++ t)) follows.2 ∙ sym (append_assoc front gap (sep ∷ (follows.0 ++ follows.1))) in
      let none = any_append (λ b. b == sep) front gap plain.whole (white_pieces (λ b. b == sep) apart gap reads.4) in
      let cut : slice_split (λ b. b == sep) text ≡ (front ++ gap) ∷ slice_split (λ b. b == sep) (follows.0 ++ follows.1) = ap (slice_split (λ b. b == sep)) text_is ∙ split_at (λ b. b == sep) (front ++ gap) sep (follows.0 ++ follows.1) none same in
      let first : trim_white (front ++ gap) ≡ front = trim_white-tight [] front gap refl reads.4 plain.tight in
      let all : map trim_white (slice_split (λ b. b == sep) text) ≡ front ∷ map trim_white (slice_split (λ b. b == sep) follows.1) = ap (map trim_white) cut ∙ ap (λ t. t ∷ map trim_white (slice_split (λ b. b == sep) (follows.0 ++ follows.1))) first ∙ ap (λ ts. front ∷ ts) (gap_pieces (λ b. b == sep) apart follows.0 follows.1 follows.3) in
      subst (AreWrittenAndLast IsItem IsLast (item ∷ items) last) (sym all) (reads.5, rest)

  from_last : (last : B) (text : List ℕ) → trim_end text ≡ text → (list_any (λ b. b == sep) text ≡ false) ⊎ ((front : List ℕ) × (y : ℕ) × (rest : List ℕ) × (text ≡ front ++ y ∷ rest) × (list_any (λ b. b == sep) front ≡ false) × (y == sep ≡ true)) → AreWrittenAndLast IsItem IsLast [] last (map trim_white (slice_split (λ b. b == sep) text)) → IsLast last (trim_front text)
  from_last last text ends (inl none) zip =
      let cut = front_cut text in
      let same : trim_white text ≡ trim_front text = end_of cut.0 (trim_front text) (subst (λ t. trim_end t ≡ t) cut.2 ends) in
      subst (IsLast last) same (subst (λ pieces. AreWrittenAndLast IsItem IsLast [] last (map trim_white pieces)) (split_none (λ b. b == sep) text none) zip)
  from_last last text ends (inr cut) zip = absurd (two (slice_split (λ b. b == sep) cut.2) _ (length-slice_split (λ b. b == sep) cut.2)
      (subst (λ pieces. AreWrittenAndLast IsItem IsLast [] last (map trim_white pieces)) (ap (slice_split (λ b. b == sep)) cut.3 ∙ split_at (λ b. b == sep) cut.0 cut.1 cut.2 cut.4 cut.5) zip))
    where
      two : (pieces : List (List ℕ)) (n : ℕ) → length pieces ≡ n + 1 → AreWrittenAndLast IsItem IsLast [] last (trim_white cut.0 ∷ map trim_white pieces) → ⊥
      two [] n e zip = let none : 0 ≡ n + 1 = e in omega (arith, none)
      two (piece ∷ pieces) n e zip = zip

  from_item : (item : A) (items : List A) (last : B) (text : List ℕ) → ((rest : List ℕ) → trim_end rest ≡ rest → AreWrittenAndLast IsItem IsLast items last (map trim_white (slice_split (λ b. b == sep) rest)) → EndsIn sep IsItem IsLast items last (trim_front rest))
      → trim_end text ≡ text → (list_any (λ b. b == sep) text ≡ false) ⊎ ((front : List ℕ) × (y : ℕ) × (rest : List ℕ) × (text ≡ front ++ y ∷ rest) × (list_any (λ b. b == sep) front ≡ false) × (y == sep ≡ true)) → AreWrittenAndLast IsItem IsLast (item ∷ items) last (map trim_white (slice_split (λ b. b == sep) text)) → EndsIn sep IsItem IsLast (item ∷ items) last (trim_front text)
  from_item item items last text later ends (inl none) zip = absurd (subst (λ pieces. AreWrittenAndLast IsItem IsLast (item ∷ items) last (map trim_white pieces)) (split_none (λ b. b == sep) text none) zip).1
  from_item item items last text later ends (inr cut) zip =
      let y_is : cut.1 ≡ sep = eqb_true cut.1 sep cut.5 in
      let parts : AreWrittenAndLast IsItem IsLast (item ∷ items) last (trim_white cut.0 ∷ map trim_white (slice_split (λ b. b == sep) cut.2)) =
      subst (λ pieces. AreWrittenAndLast IsItem IsLast (item ∷ items) last (map trim_white pieces)) (ap (slice_split (λ b. b == sep)) cut.3 ∙ split_at (λ b. b == sep) cut.0 cut.1 cut.2 cut.4 cut.5) zip in
      let tight = (item_plain item (trim_white cut.0) parts.0).tight in
      let seam : (cut.0 ++ cut.1 ∷ []) ++ cut.2 ≡ cut.0 ++ cut.1 ∷ cut.2 = append_assoc cut.0 (cut.1 ∷ []) cut.2 in
      let rest_ends = end_of (cut.0 ++ cut.1 ∷ []) cut.2 (subst (λ t. trim_end t ≡ t) (cut.3 ∙ sym seam) ends) in
      let before = front_cut cut.0 in
      let after = end_cut (trim_front cut.0) in
      let next = front_cut cut.2 in
      let front_is : cut.0 ≡ before.0 ++ (trim_white cut.0 ++ after.0) = before.2 ∙ ap (λ t. before.0 ++ t) after.2 in
      let whole : text ≡ before.0 ++ (trim_white cut.0 ++ (after.0 ++ cut.1 ∷ cut.2)) =
      cut.3 ∙ ap (λ t. t ++ cut.1 ∷ cut.2) front_is ∙ append_assoc before.0 (trim_white cut.0 ++ after.0) (cut.1 ∷ cut.2) ∙ ap (λ t. before.0 ++ t) (append_assoc (trim_white cut.0) after.0 (cut.1 ∷ cut.2)) in
      let cut_off : trim_front text ≡ trim_white cut.0 ++ (after.0 ++ cut.1 ∷ cut.2) =
      ap trim_front whole ∙ trim_front-gap before.0 (trim_white cut.0 ++ (after.0 ++ cut.1 ∷ cut.2)) before.1 ∙ tight.begins (after.0 ++ cut.1 ∷ cut.2) in
      (trim_white cut.0, after.0, cut.1 ∷ cut.2, cut_off, after.1, parts.0, (next.0, trim_front cut.2, ap (λ y. y ∷ cut.2) y_is ∙ ap (λ t. sep ∷ t) next.2, next.1, later cut.2 rest_ends parts.1))

  pub EndsIn-from_pieces : (items : List A) (last : B) (text : List ℕ) → trim_end text ≡ text → AreWrittenAndLast IsItem IsLast items last (map trim_white (slice_split (λ b. b == sep) text)) → EndsIn sep IsItem IsLast items last (trim_front text)
  EndsIn-from_pieces [] last text ends zip = from_last last text ends (cut_first (λ b. b == sep) text) zip
  EndsIn-from_pieces (item ∷ items) last text ends zip = from_item item items last text (λ rest e z. EndsIn-from_pieces items last rest e z) ends (cut_first (λ b. b == sep) text) zip
