-- A line put behind others, its characters behind theirs.
use Rattle.std.proofs.Common.{◌≡◌, ℕ, ◌+◌, ◌-◌, ◌≤◌, List, [], ◌∷◌, ◌++◌, length, map, take, drop, refl, sym, ap, ◌∙◌, subst, arith, append_assoc}
use Rattle.std.specs.Prelude.{All, slice_range, IsCharBoundary}
use Rattle.std.specs.Str.{IsUtf8}
use Rattle.std.proofs.lemmas.List.{length-append, length-drop, map_push, take_all, take_at, drop_at, take-append-le, drop-append-le}
use Rattle.std.proofs.lemmas.List.Elements.{All-head, All-tail, All-push, All-weaker}
use Rattle.std.proofs.lemmas.Str.{IsUtf8-append, IsUtf8-drop, IsCharBoundary-from_drop, IsCharBoundary-at_seam, IsCharBoundary-end}
use Rattle.tag_names.specs.Packed.{line_at, Fits}
use Rattle.tag_names.specs.declared.lines.AttributeLine.{AttributeLine}
use Rattle.tag_names.specs.declared.packed.Spot.{Spot}

same_line : (a b c d : List ℕ) → a ≡ c → b ≡ d → (let x : AttributeLine = record { name = a; value = b } in let y : AttributeLine = record { name = c; value = d } in x ≡ y)
same_line a b c d p q = cc

-- with more characters behind
module _ (text more : List ℕ) where
  boundary-more : (i : ℕ) → IsUtf8 text → IsUtf8 more → IsCharBoundary text i → IsCharBoundary (text ++ more) i
  boundary-more i u v b =
      let long = length-append text more in
      IsCharBoundary-from_drop (text ++ more) i (omega (arith, long, b.0))
      (subst IsUtf8 (sym (drop-append-le i text more b.0)) (IsUtf8-append (drop i text) more (IsUtf8-drop text i u b) v))

  fits-more : (spot : Spot) → IsUtf8 text → IsUtf8 more → Fits text spot → Fits (text ++ more) spot
  fits-more spot u v fits = record {
    name = fits.name;
    value = fits.value;
    start = boundary-more spot.start u v fits.start;
    middle = boundary-more spot.middle u v fits.middle;
    end = boundary-more spot.end u v fits.end;
  }

  range-more : (from to : ℕ) → from ≤ to → to ≤ length text → slice_range (text ++ more) from to ≡ slice_range text from to
  range-more from to order within =
      let left = length-drop from text in
      ap (take (to - from)) (drop-append-le from text more (omega arith)) ∙ take-append-le (to - from) (drop from text) more (omega (arith, left))

  line-more : (spot : Spot) → Fits text spot → line_at (text ++ more) spot ≡ line_at text spot
  line-more spot fits =
      let middle = fits.middle.0 in
      let end = fits.end.0 in
      same_line _ _ _ _ (range-more spot.start spot.middle fits.name middle) (range-more spot.middle spot.end fits.value end)

  lines-more : (spots : List Spot) → All (Fits text) spots → map (line_at (text ++ more)) spots ≡ map (line_at text) spots
  lines-more [] fits = refl
  lines-more (spot ∷ spots) fits =
      ap (λ l. l ∷ map (line_at (text ++ more)) spots) (line-more spot (All-head (Fits text) spot spots fits))
      ∙ ap (λ ls. line_at text spot ∷ ls) (lines-more spots (All-tail (Fits text) spot spots fits))

-- the line whose characters are put behind
module _ (text name value : List ℕ) (spot : Spot) (start : spot.start ≡ length text) (middle : spot.middle ≡ length text + length name)
    (end : spot.end ≡ length text + length (name ++ value)) where
  new-line : (let line : AttributeLine = record { name = name; value = value } in line_at (text ++ (name ++ value)) spot ≡ line)
  new-line =
      let all = text ++ (name ++ value) in
      let both = length-append name value in
      let front = length-append text name in
      let behind : drop spot.start all ≡ name ++ value = drop_at text (name ++ value) spot.start (sym start) in
      let first : slice_range all spot.start spot.middle ≡ name =
      ap (take (spot.middle - spot.start)) behind ∙ take_at name value (spot.middle - spot.start) (omega (arith, start, middle)) in
      let last : drop spot.middle all ≡ value =
      ap (drop spot.middle) (sym (append_assoc text name value)) ∙ drop_at (text ++ name) value spot.middle (omega (arith, front, middle)) in
      let second : slice_range all spot.middle spot.end ≡ value =
      ap (take (spot.end - spot.middle)) last ∙ take_all (spot.end - spot.middle) value (omega (arith, middle, end, both)) in
      same_line _ _ _ _ first second

  new-fits : IsUtf8 (name ++ value) → IsUtf8 value → Fits (text ++ (name ++ value)) spot
  new-fits u v =
      let all = text ++ (name ++ value) in
      let both = length-append name value in
      let front : length (text ++ name) ≡ spot.middle = length-append text name ∙ sym middle in
      let whole : length all ≡ spot.end = length-append text (name ++ value) ∙ sym end in
      record {
        name = omega (arith, start, middle);
        value = omega (arith, middle, end, both);
        start = subst (IsCharBoundary all) (sym start) (IsCharBoundary-at_seam all text (name ++ value) refl u);
        middle = subst (IsCharBoundary all) front (IsCharBoundary-at_seam all (text ++ name) value (sym (append_assoc text name value)) v);
        end = subst (IsCharBoundary all) whole (IsCharBoundary-end all);
      }

  module _ (grown : List ℕ) (spots pushed : List Spot) (is_grown : grown ≡ text ++ (name ++ value)) (is_pushed : pushed ≡ spots ++ spot ∷ []) (fits : All (Fits text) spots) where
    -- the lines with one more
    pub lines-pushed : map (line_at grown) pushed ≡ map (line_at text) spots ++ record { name = name; value = value } ∷ []
    lines-pushed =
        let all = text ++ (name ++ value) in
        ap (λ t. map (line_at t) pushed) is_grown ∙ ap (map (line_at all)) is_pushed ∙ map_push (line_at all) spots spot
        ∙ ap (λ ls. ls ++ line_at all spot ∷ []) (lines-more text (name ++ value) spots fits) ∙ ap (λ l. map (line_at text) spots ++ l ∷ []) new-line

    pub fits-pushed : IsUtf8 text → IsUtf8 (name ++ value) → IsUtf8 value → All (Fits grown) pushed
    fits-pushed t u v =
        let all = text ++ (name ++ value) in
        let together : All (Fits all) (spots ++ spot ∷ []) =
        All-push (Fits all) spots spot (All-weaker (Fits text) (Fits all) (λ s f. fits-more text (name ++ value) s t u f) spots fits) (new-fits u v) in
        subst (λ t. All (Fits t) pushed) (sym is_grown) (subst (All (Fits all)) (sym is_pushed) together)
