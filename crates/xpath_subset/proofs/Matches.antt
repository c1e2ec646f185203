-- What std's cuts of white space leave.
use Rattle.std.proofs.Common.{◌≡◌, ℕ, ◌<◌, ◌-◌, Bool, true, false, List, [], ◌∷◌, ◌++◌, Option, None, Some, drop, take, length, refl, sym, ◌∙◌, ap, true≢false, arith, append_assoc}
use Rattle.std.specs.Option.{IfSome}
use Rattle.std.specs.Char.{char_set_contains, IsScalar}
use Rattle.std.specs.Str.Pattern.{FindsPrefixBy, FindsSuffixBy, CutsPrefixes, CutsSuffixes, IsFullyTrimmed}
use Rattle.std.proofs.lemmas.List.{take-append-drop, drop_all, append-nil}
use Rattle.std.proofs.lemmas.Str.{encode_ascii, len_utf8_ascii}
use Rattle.xs_names.specs.White.{is_white}
use Rattle.xpath_subset.specs.inside.Trims.{is_white_byte, trim_front, trim_end}
use Rattle.xpath_subset.proofs.Trims.{white_cons, front_white, front_other, trim_end-gap, end_cut}

abbrev pub white_set : List ℕ
white_set = 32 ∷ 9 ∷ 10 ∷ 13 ∷ []

abbrev pub FindsFront : List ℕ → Option ℕ → Type 0
FindsFront s r = (k : ℕ → Bool) → ((c : ℕ) → char_set_contains white_set c ≡ k c) → FindsPrefixBy k s r

abbrev pub FindsEnd : List ℕ → Option ℕ → Type 0
FindsEnd s r = (k : ℕ → Bool) → ((c : ℕ) → char_set_contains white_set c ≡ k c) → FindsSuffixBy k s r

white_test : (c : ℕ) → char_set_contains white_set c ≡ is_white_byte c
white_test c = grind arith

white_small : (c : ℕ) → is_white_byte c ≡ true → c < 128
white_small c e = grind arith

white_scalar : (c : ℕ) → c < 128 → IsScalar c
white_scalar c e = grind arith

cut_front : (ns s r : List ℕ) → CutsPrefixes FindsFront s ns r → trim_front s ≡ trim_front r
cut_front [] s r e = ap trim_front (sym e)
cut_front (n ∷ ns) s r cuts =
    let found = cuts.2 is_white_byte white_test in
    let encoded = encode_ascii found.0 (white_small found.0 found.1) in
    let front : cuts.0 ≡ found.0 ∷ drop n cuts.0 = found.2.split ∙ ap (λ code. code ++ drop n cuts.0) encoded in
    cut_front ns s cuts.0 cuts.1 ∙ ap trim_front front ∙ front_white found.0 (drop n cuts.0) found.1 ∙ ap trim_front (sym cuts.3)

full_front : (r : List ℕ) → IsFullyTrimmed FindsFront r → trim_front r ≡ r
full_front r full = by full.0 r (full.1 is_white_byte white_test) full.2
  where
    by : (o : Option ℕ) (r : List ℕ) → FindsPrefixBy is_white_byte r o → IfSome o (λ n. n ≡ 0) → trim_front r ≡ r
    by None [] none zero = refl
    by None (b ∷ r) none zero = at (is_white_byte b) refl
      where
        at : (test : Bool) → is_white_byte b ≡ test → trim_front (b ∷ r) ≡ b ∷ r
        at true e = absurd (true≢false (sym e ∙ none b r (white_scalar b (white_small b e)) (ap (λ code. code ++ r) (sym (encode_ascii b (white_small b e))))))
        at false e = front_other b r e
    by (Some n) r found zero =
        let one = len_utf8_ascii found.0 (white_small found.0 found.1) in
        let ends = found.2.ends in
        absurd (omega (arith, one, ends, zero))

pub trim_front_is : (ns s r : List ℕ) → CutsPrefixes FindsFront s ns r → IsFullyTrimmed FindsFront r → r ≡ trim_front s
trim_front_is ns s r cuts full = sym (full_front r full) ∙ sym (cut_front ns s r cuts)

cut_end : (ns s r : List ℕ) → CutsSuffixes FindsEnd s ns r → trim_end s ≡ trim_end r
cut_end [] s r e = ap trim_end (sym e)
cut_end (n ∷ ns) s r cuts =
    let found = cuts.2 is_white_byte white_test in
    let encoded = encode_ascii found.0 (white_small found.0 found.1) in
    let none : drop (length cuts.0) cuts.0 ≡ [] = drop_all (length cuts.0) cuts.0 (omega arith) in
    let end : drop (length cuts.0 - n) cuts.0 ≡ found.0 ∷ [] = found.2.split ∙ ap (λ code. code ++ drop (length cuts.0) cuts.0) encoded ∙ ap (λ rest. found.0 ∷ rest) none in
    let whole : cuts.0 ≡ take (length cuts.0 - n) cuts.0 ++ found.0 ∷ [] = sym (take-append-drop (length cuts.0 - n) cuts.0) ∙ ap (λ rest. take (length cuts.0 - n) cuts.0 ++ rest) end in
    let white : is_white (found.0 ∷ []) ≡ true = rw found.1 refl in
    cut_end ns s cuts.0 cuts.1 ∙ ap trim_end whole ∙ trim_end-gap (take (length cuts.0 - n) cuts.0) (found.0 ∷ []) white ∙ ap trim_end (sym cuts.3)

-- white space that is not empty ends in a white byte
last_white : (b : ℕ) (gap : List ℕ) → is_white (b ∷ gap) ≡ true → (front : List ℕ) × (last : ℕ) × (b ∷ gap ≡ front ++ last ∷ []) × (is_white_byte last ≡ true)
last_white b [] e = ([], b, refl, (white_cons b [] e).0)
last_white b (c ∷ gap) e =
    let rest = last_white c gap (white_cons b (c ∷ gap) e).1 in
    (b ∷ rest.0, rest.1, ap (λ tail. b ∷ tail) rest.2, rest.3)

full_end : (r : List ℕ) → IsFullyTrimmed FindsEnd r → trim_end r ≡ r
full_end r full = by full.0 (full.1 is_white_byte white_test) full.2
  where
    by : (o : Option ℕ) → FindsSuffixBy is_white_byte r o → IfSome o (λ n. n ≡ 0) → trim_end r ≡ r
    by None none zero = let cut = end_cut r in at cut.0 cut.1 cut.2
      where
        at : (gap : List ℕ) → is_white gap ≡ true → r ≡ trim_end r ++ gap → trim_end r ≡ r
        at [] w e = sym (e ∙ append-nil (trim_end r))
        at (b ∷ gap) w e =
            let end = last_white b gap w in
            let small = white_small end.1 end.3 in
            let whole : r ≡ (trim_end r ++ end.0) ++ end.1 ∷ [] = e ∙ ap (λ rest. trim_end r ++ rest) end.2 ∙ sym (append_assoc (trim_end r) end.0 (end.1 ∷ [])) in
            absurd (true≢false (sym end.3 ∙ none end.1 (trim_end r ++ end.0) (white_scalar end.1 small) (whole ∙ ap (λ code. (trim_end r ++ end.0) ++ code) (sym (encode_ascii end.1 small)))))
    by (Some n) found zero =
        let one = len_utf8_ascii found.0 (white_small found.0 found.1) in
        let ends = found.2.ends in
        absurd (omega (arith, one, ends, zero))

pub trim_end_is : (ns s r : List ℕ) → CutsSuffixes FindsEnd s ns r → IsFullyTrimmed FindsEnd r → r ≡ trim_end s
trim_end_is ns s r cuts full = sym (full_end r full) ∙ sym (cut_end ns s r cuts)
