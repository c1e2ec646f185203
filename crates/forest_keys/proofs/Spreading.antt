-- The codes of all elements, and those of each place.
use Rattle.std.proofs.Common.{◌≡◌, ℕ, zero, suc, ◌<◌, List, [], ◌∷◌, ◌++◌, length, get_or, take, drop, map, refl, sym, ap, ◌∙◌, arith, append_assoc, append-nil}
use Rattle.std.specs.List.{drop-map}
use Rattle.std.proofs.lemmas.List.{take-append-drop, take-map, length-map}
use Rattle.std.proofs.Math.Seq.{take-append_seam}
use Rattle.xs_names.specs.Names.{NameTable}
use Rattle.xs_codes.specs.declared.fault.Found.{Found}
use Rattle.xs_components.specs.Tables.{Tables}
use Rattle.xpath_subset.specs.declared.paths.IdentityPaths.{IdentityPaths}
use Rattle.identity_constraints.specs.Seen.{KeyElement, KeyForest, none, element}
use Rattle.identity_constraints.specs.Satisfied.{identity_codes}
use Rattle.assessment.specs.Assessment.{Entry, Assessed, nothing, entry, entries}
use Rattle.what_is_found.specs.Identity.{seen, seen_element}
use Rattle.forest_keys.specs.Codes.{all_codes}
use Rattle.tree_assess.specs.Entries.{entry_of}
use Rattle.tree_assess.specs.declared.entry.ElementEntry.{ElementEntry}
use Rattle.forest_keys.specs.inside.Parsed.{assessed_by, assessed_of, Sized, sized_of, flat}
use Rattle.forest_keys.specs.inside.Coded.{first_codes, coded, coded_from}
use Rattle.forest_keys.proofs.Parsing.{parse_first, parse_flat, own_is, count_is, below_flat, behind_flat}

-- ---- what is seen goes by what codes do not change

record Shown : Type 0 where
  below : ℕ
  own : KeyElement

abbrev shown_of : ElementEntry → Shown
shown_of e = record { below = e.below; own = seen_element (entry_of e) }

abbrev shown_by : ℕ → List Shown → KeyForest
shown_by zero xs = none
shown_by (suc n) [] = none
shown_by (suc n) (x ∷ xs) = element x.own (shown_by n (take x.below xs)) (shown_by n (drop x.below xs))

shown-is : (n : ℕ) (es : List ElementEntry) → seen (assessed_by n es) ≡ shown_by n (map shown_of es)
shown-is zero es = refl
shown-is (suc n) [] = refl
shown-is (suc n) (e ∷ es) =
    let one = shown-is n (take e.below es) ∙ ap (shown_by n) (sym (take-map shown_of e.below es)) in
    let two = shown-is n (drop e.below es) ∙ ap (shown_by n) (sym (drop-map shown_of e.below es)) in
    λ i. element (seen_element (entry_of e)) (one i) (two i)

-- entries that show the same are seen as the same
seen-alike : (es fs : List ElementEntry) → map shown_of es ≡ map shown_of fs → seen (assessed_of es) ≡ seen (assessed_of fs)
seen-alike es fs e =
    let size : length es ≡ length fs = sym (length-map es shown_of) ∙ ap length e ∙ length-map fs shown_of in
    shown-is (length es) es ∙ (λ i. shown_by (size i) (e i)) ∙ sym (shown-is (length fs) fs)

module _ (names : NameTable) (t : Tables) (identities : List IdentityPaths) where
  shown-coded : (es : List ElementEntry) → map shown_of (coded names t identities es) ≡ map shown_of es
  shown-coded [] = refl
  shown-coded (e ∷ es) = ap (λ xs. shown_of e ∷ xs) (shown-coded es)

  shown-from : (n : ℕ) (es : List ElementEntry) → map shown_of (coded_from names t identities n es) ≡ map shown_of es
  shown-from zero es = shown-coded es
  shown-from (suc n) [] = refl
  shown-from (suc n) (e ∷ es) = ap (λ xs. shown_of e ∷ xs) (shown-from n es)

  -- those behind a place are seen as they were
  pub seen-behind : (place n : ℕ) (es mid : List ElementEntry) → mid ≡ coded_from names t identities n es → seen (assessed_of (drop place mid)) ≡ seen (assessed_of (drop place es))
  seen-behind place n es mid is =
      seen-alike (drop place mid) (drop place es)
      (sym (drop-map shown_of place mid) ∙ ap (drop place) (ap (map shown_of) is ∙ shown-from n es) ∙ drop-map shown_of place es)

  -- ---- of each place

  abbrev codes_down : List ElementEntry → List (List Found)
  codes_down [] = []
  codes_down (e ∷ es) = first_codes names t identities (seen (assessed_of (e ∷ es))) ∷ codes_down es

  no-cons : (x : Sized) (xs : List Sized) → [] ≡ x ∷ xs → ⊥
  no-cons x xs e = cc

  no-nil : (x : Sized) (xs : List Sized) → x ∷ xs ≡ [] → ⊥
  no-nil x xs e = cc

  first-of : (own : Entry) (below : Assessed) (e : ElementEntry) (one more : List ElementEntry) → entry_of e ≡ own → e.below ≡ length one → assessed_of one ≡ below
      → first_codes names t identities (seen (assessed_of (e ∷ (one ++ more)))) ≡ identity_codes names t identities (seen_element own) (seen below)
  first-of own below e one more is count under =
      ap (λ (a : Assessed). first_codes names t identities (seen a)) (parse_first e (one ++ more))
      ∙ ap (λ (xs : List ElementEntry). identity_codes names t identities (seen_element (entry_of e)) (seen (assessed_of xs))) (ap (λ n. take n (one ++ more)) count ∙ take-append_seam one more)
      ∙ (λ i. identity_codes names t identities (seen_element (is i)) (seen (under i)))

  codes-part : (found : Assessed) (part rest : List ElementEntry) → map sized_of part ≡ flat found → codes_down (part ++ rest) ≡ all_codes names t identities (seen found) ++ codes_down rest
  codes-part nothing [] rest h = refl
  codes-part nothing (e ∷ es) rest h = absurd (no-nil (sized_of e) (map sized_of es) h)
  codes-part (entry own below next) [] rest h = absurd (no-cons (record { below = length (entries below); own = own }) (flat below ++ flat next) h)
  codes-part (entry own below next) (e ∷ es) rest h =
      let one = take e.below es in
      let two = drop e.below es in
      let split : es ++ rest ≡ one ++ (two ++ rest) = ap (λ xs. xs ++ rest) (sym (take-append-drop e.below es)) ∙ append_assoc one two rest in
      let count : e.below ≡ length one =
      (let flats = count_is own below next e es h in let sizes = ap length (below_flat own below next e es h) in let mapped = length-map one sized_of in flats ∙ sym sizes ∙ mapped) in
      let first = first-of own below e one (two ++ rest) (own_is own below next e es h) count (parse_flat below one (below_flat own below next e es h)) in
      let a = codes-part below one (two ++ rest) (below_flat own below next e es h) in
      let b = codes-part next two rest (behind_flat own below next e es h) in
      ap (λ xs. first_codes names t identities (seen (assessed_of (e ∷ xs))) ∷ codes_down xs) split
      ∙ (λ i. first i ∷ (a ∙ ap (λ xs. all_codes names t identities (seen below) ++ xs) b ∙ sym (append_assoc (all_codes names t identities (seen below)) (all_codes names t identities (seen next)) (codes_down rest))) i)

  all-down : (found : Assessed) (es : List ElementEntry) → map sized_of es ≡ flat found → codes_down es ≡ all_codes names t identities (seen (assessed_of es))
  all-down found es h =
      ap codes_down (sym (append-nil es)) ∙ codes-part found es [] h ∙ append-nil (all_codes names t identities (seen found))
      ∙ ap (λ (a : Assessed). all_codes names t identities (seen a)) (sym (parse_flat found es h))

  length-down : (es : List ElementEntry) → length (codes_down es) ≡ length es
  length-down [] = refl
  length-down (e ∷ es) = ap suc (length-down es)

  down-at : (place : ℕ) (es : List ElementEntry) (d : List Found) → place < length es → get_or (codes_down es) place d ≡ first_codes names t identities (seen (assessed_of (drop place es)))
  down-at place [] d within = absurd (omega (arith, within))
  down-at zero (e ∷ es) d within = refl
  down-at (suc place) (e ∷ es) d within = down-at place es d (omega (arith, within))

  -- there are as many codes as entries
  pub codes-long : (found : Assessed) (es : List ElementEntry) (codes : List (List Found)) → map sized_of es ≡ flat found → codes ≡ all_codes names t identities (seen (assessed_of es)) → length codes ≡ length es
  codes-long found es codes h is = ap length (is ∙ sym (all-down found es h)) ∙ length-down es

  -- the codes of a place are those of the first of the entries from there
  pub codes-at : (found : Assessed) (es mid : List ElementEntry) (codes : List (List Found)) (place n : ℕ) (one : List Found) → map sized_of es ≡ flat found → codes ≡ all_codes names t identities (seen (assessed_of es)) → place < length es
      → one ≡ get_or codes place one → mid ≡ coded_from names t identities n es → one ≡ first_codes names t identities (seen (assessed_of (drop place mid)))
  codes-at found es mid codes place n one h is within at so =
      at ∙ ap (λ (cs : List (List Found)). get_or cs place one) (is ∙ sym (all-down found es h)) ∙ down-at place es one within
      ∙ ap (first_codes names t identities) (sym (seen-behind place n es mid so))
