-- What is put at a spot, on the rows and on the tree.
use Rattle.std.proofs.Common.{◌≡◌, ℕ, ◌+◌, ◌≤◌, ◌<◌, List, [], ◌∷◌, ◌++◌, true, false, ◌||◌, Ok, length, take, drop, refl, sym, ap, ◌∙◌, arith, nat_lt, max, subst}
use Rattle.std.proofs.lemmas.Bool.Decides.{nat_tests}
use Rattle.tree_rows.specs.Forest.{Forest, none, text, element, count, Document}
use Rattle.tree_rows.specs.Rows.{rows_of, siblings}
use Rattle.tree_rows.specs.RowLaws.{siblings-all}
use Rattle.tree_edits.specs.Edits.{deepest_of, renumbered, replaced, with_children, too_many_more, put_within}
use Rattle.tree_building.specs.Shape.{AreWhole, AreSound, AreUnder, deepest_with, deepest_row}
use Rattle.tree_edits.specs.EditRows.{raised}
use Rattle.tree_edits.specs.Spots.{tree_of, IsSpot, Puts, Fits, HasRoom, HasNoRoom}
use Rattle.tree_rows.specs.declared.row.Row.{Row}
use Rattle.tree_rows.specs.declared.row.Content.{Content}
use Rattle.tree_rows.specs.declared.row.Content.TheVariants as contents
use Rattle.tree_edits.specs.declared.places.Spot.{Spot}
use Rattle.tree_edits.specs.declared.edit.EditError.TheVariants.{TooManyNodes, TooDeep}
use Rattle.tree_edits.proofs.Placing.{count-rows, deepest-rows, deepest-append, deepest-part, raised-rows, raised-deepest}

-- rows of a tree are those of the tree that they are
pub whole_from : (rows : List Row) (f : Forest) → rows ≡ rows_of 1 f → (siblings rows 1 ≡ f) × AreWhole rows
whole_from rows f e =
    let is : siblings rows 1 ≡ f = ap (λ l. siblings l 1) e ∙ siblings-all f in
    (is, e ∙ ap (rows_of 1) (sym is))

pub count-whole : (rows : List Row) → AreWhole rows → count (siblings rows 1) ≡ length rows
count-whole rows whole = sym (ap length whole ∙ count-rows 1 (siblings rows 1))

pub deep-whole : (levels : ℕ) (rows : List Row) → AreWhole rows → deepest_of (levels + 1) (siblings rows 1) ≡ deepest_row levels rows
deep-whole levels rows whole =
    let turn : levels + 1 ≡ 1 + levels = omega arith in
    ap (λ d. deepest_of d (siblings rows 1)) turn ∙ sym (deepest-rows levels 1 (siblings rows 1)) ∙ ap (deepest_row levels) (sym whole)

are_many : (rows new : List Row) (next : ℕ) → AreWhole rows → AreWhole new
    → too_many_more (tree_of rows next) (count (siblings new 1)) ≡ (nat_lt 131072 (length rows + length new) || nat_lt 4294967295 (next + length new))
are_many rows new next whole new_whole =
    ap (λ k. nat_lt 131072 (k + count (siblings new 1)) || nat_lt 4294967295 (next + count (siblings new 1))) (count-whole rows whole)
    ∙ ap (λ k. nat_lt 131072 (length rows + k) || nat_lt 4294967295 (next + k)) (count-whole new new_whole)

are_more : (rows : List Row) (next more : ℕ) (new : Forest) → AreWhole rows → count new ≡ more
    → too_many_more (tree_of rows next) (count new) ≡ (nat_lt 131072 (length rows + more) || nat_lt 4294967295 (next + more))
are_more rows next more new whole size =
    ap (λ k. nat_lt 131072 (k + count new) || nat_lt 4294967295 (next + count new)) (count-whole rows whole)
    ∙ ap (λ k. nat_lt 131072 (length rows + k) || nat_lt 4294967295 (next + k)) size

-- nodes that stand so many levels deeper
deeper_most : (levels depth : ℕ) (f : Forest) → deepest_of (depth + levels) f ≤ deepest_of depth f + levels
deeper_most levels depth none = omega arith
deeper_most levels depth (text n chars next) = deeper_most levels depth next
deeper_most levels depth (element n name bindings attributes children next) =
    let up : depth + 1 + levels ≡ depth + levels + 1 = omega arith in
    omega (arith, ap (λ d. deepest_of d children) up, deeper_most levels (depth + 1) children, deeper_most levels depth next)

deeper_least : (levels depth : ℕ) (f : Forest) → deepest_of depth f + levels ≤ max levels (deepest_of (depth + levels) f)
deeper_least levels depth none = omega arith
deeper_least levels depth (text n chars next) = deeper_least levels depth next
deeper_least levels depth (element n name bindings attributes children next) =
    let up : depth + 1 + levels ≡ depth + levels + 1 = omega arith in
    omega (arith, ap (λ d. deepest_of d children) up, deeper_least levels (depth + 1) children, deeper_least levels depth next)

from_one : (depth : ℕ) (f : Forest) → deepest_of (depth + 1) f ≡ deepest_of (1 + depth) f
from_one depth f = ap (λ d. deepest_of d f) (omega arith)

pub put_many : (rows : List Row) (next more depth deepest : ℕ) → AreWhole rows
    → (nat_lt 131072 (length rows + more) || nat_lt 4294967295 (next + more)) ≡ true → HasNoRoom rows next more depth deepest TooManyNodes
put_many rows next more depth deepest whole e =
    λ parent place new size deep. let many = are_more rows next more new whole size ∙ e in rw many refl

pub put_deep : (rows : List Row) (next more depth deepest : ℕ) → AreWhole rows → depth ≤ 128
    → (nat_lt 131072 (length rows + more) || nat_lt 4294967295 (next + more)) ≡ false → 128 < depth + deepest → HasNoRoom rows next more depth deepest TooDeep
put_deep rows next more depth deepest whole low e h =
    λ parent place new size deep.
    let many = are_more rows next more new whole size ∙ e in
    let past : 128 < deepest_of (depth + 1) new = omega (arith, from_one depth new, deeper_least depth 1 new, deep, h, low) in
    let is : nat_lt 128 (deepest_of (depth + 1) new) ≡ true = grind (arith, nat_tests, past) in
    rw (many, is) refl

shallow_below : (depth deepest : ℕ) (f : Forest) → deepest_of 1 f ≡ deepest → depth + deepest ≤ 128 → deepest_of (depth + 1) f ≤ 128
shallow_below depth deepest f deep h = omega (arith, from_one depth f, deeper_most depth 1 f, deep, h)

-- nodes that have room are put
pub put_ok : (rows : List Row) (next more depth deepest parent place : ℕ) (new : Forest) → AreWhole rows → HasRoom rows next more depth deepest → count new ≡ more
    → deepest_of 1 new ≡ deepest → (d : Document) × (put_within (tree_of rows next) parent place new depth ≡ Ok d)
put_ok rows next more depth deepest parent place new whole room size deep =
    let many = are_more rows next more new whole size ∙ room.few in
    let low = shallow_below depth deepest new deep room.shallow in
    let is : nat_lt 128 (deepest_of (depth + 1) new) ≡ false = grind (arith, nat_tests, low) in (
      record {
        forest = replaced parent (with_children place (renumbered next new)) (siblings rows 1);
        next_free = next + count new;
      },
      rw (many, is) refl,
    )

-- rows of nodes that have room fit
pub fits_room : (rows new : List Row) (next more depth deepest : ℕ) → AreWhole new → HasRoom rows next more depth deepest → count (siblings new 1) ≡ more
    → deepest_of 1 (siblings new 1) ≡ deepest → Fits rows new next depth
fits_room rows new next more depth deepest whole room size deep =
    let same : length new ≡ more = sym (count-whole new whole) ∙ size in
    record {
      few = ap (λ k. nat_lt 131072 (length rows + k) || nat_lt 4294967295 (next + k)) same ∙ room.few;
      shallow = omega (arith, deep-whole depth new whole, shallow_below depth deepest (siblings new 1) deep room.shallow);
    }

pub put_fits : (rows new changed : List Row) (next free parent place : ℕ) (s : Spot) → AreSound rows → AreWhole new → IsSpot rows parent place s
    → (nat_lt 131072 (length rows + length new) || nat_lt 4294967295 (next + length new)) ≡ false → deepest_row s.depth new ≤ 128
    → changed ≡ take s.place rows ++ (raised next s.depth new ++ drop s.place rows) → free ≡ next + length new
    → Puts rows changed next free parent place s.depth new
put_fits rows new changed next free parent place s sound new_whole spot e h is free_is =
    let g : Forest = siblings new 1 in
    let many = are_many rows new next sound.whole new_whole ∙ e in
    let deep : nat_lt 128 (deepest_of (s.depth + 1) g) ≡ false = grind (arith, nat_tests, deep-whole s.depth new new_whole, h) in
    let turn : 1 + s.depth ≡ s.depth + 1 = omega arith in
    let lifted : raised next s.depth new ≡ rows_of (s.depth + 1) (renumbered next g) =
    ap (raised next s.depth) new_whole ∙ raised-rows next s.depth 1 g ∙ ap (λ d. rows_of d (renumbered next g)) turn in
    let all : changed ≡ rows_of 1 (replaced parent (with_children place (renumbered next g)) (siblings rows 1)) =
    is ∙ ap (λ l. take s.place rows ++ (l ++ drop s.place rows)) lifted ∙ sym (spot.becomes (renumbered next g)) in
    let now = whole_from changed (replaced parent (with_children place (renumbered next g)) (siblings rows 1)) all in
    let counted : next + count g ≡ free = ap (λ k. next + k) (count-whole new new_whole) ∙ sym free_is in
    let parts = ap (deepest_row 0) is ∙ deepest-append 0 (take s.place rows) (raised next s.depth new ++ drop s.place rows)
    ∙ ap (max (deepest_row 0 (take s.place rows))) (deepest-append 0 (raised next s.depth new) (drop s.place rows)
    ∙ ap (λ k. max k (deepest_row 0 (drop s.place rows))) (raised-deepest next s.depth new)) in
    let part = deepest-part 0 s.place rows in
    record {
      puts = rw (many, deep) (ap (λ f. Ok (record { forest = f; next_free = next + count g })) (sym now.0)
          ∙ ap (λ k. Ok (record { forest = siblings changed 1; next_free = k })) counted);
      sound = record { whole = now.1; shallow = omega (arith, parts, part.0, part.1, sound.shallow, h) };
    }

-- rows stand under a greater bound
pub under-weaker : (low high : ℕ) (rows : List Row) → low ≤ high → AreUnder low rows → AreUnder high rows
under-weaker low high [] h u = tt
under-weaker low high (row ∷ rows) h u = (omega (arith, u.0, h), under-weaker low high rows h u.1)

deepest-low : (content : Content) (depth levels a b : ℕ) → a ≤ b → deepest_with content (depth + 0) a ≤ deepest_with content (depth + levels) b
deepest-low (contents.Element name) depth levels a b h = omega (arith, h)
deepest-low (contents.Chars chars) depth levels a b h = h

deepest-levels : (levels : ℕ) (rows : List Row) → deepest_row 0 rows ≤ deepest_row levels rows
deepest-levels levels [] = omega arith
deepest-levels levels (row ∷ rows) = deepest-low row.content row.depth levels (deepest_row 0 rows) (deepest_row levels rows) (deepest-levels levels rows)

pub new_under : (levels : ℕ) (new : List Row) → AreUnder (deepest_row 0 new + 1) new → deepest_row levels new ≤ 128 → AreUnder 129 new
new_under levels new u h = under-weaker (deepest_row 0 new + 1) 129 new (omega (arith, deepest-levels levels new, h)) u

-- the row of a text alone is that of a tree
pub text_whole : (chars : List ℕ) (rows : List Row) → rows ≡ record { number = 0; depth = 1; content = contents.Chars chars; bindings = []; attributes = [] } ∷ []
    → (siblings rows 1 ≡ text 0 chars none) × AreWhole rows
text_whole chars rows e = whole_from rows (text 0 chars none) e

pub text_under : (chars : List ℕ) (rows : List Row) → rows ≡ record { number = 0; depth = 1; content = contents.Chars chars; bindings = []; attributes = [] } ∷ []
    → AreUnder (deepest_row 0 rows + 1) rows
text_under chars rows e = subst (λ (l : List Row). AreUnder (deepest_row 0 l + 1) l) (sym e) (omega arith, tt)
