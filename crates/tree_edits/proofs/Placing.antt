-- Rows that come, go and change, and the tree that they are then.
use Rattle.std.proofs.Common.{◌≡◌, ℕ, ◌+◌, ◌-◌, ◌≤◌, List, [], ◌∷◌, ◌++◌, Bool, true, false, ◌==◌, length, take, drop, refl, sym, ap, ◌∙◌, arith, append_assoc, append-nil, max, nat_lt, nat_le}
use Rattle.std.specs.List.{position_or_len}
use Rattle.std.proofs.lemmas.Bool.Decides.{nat_tests}
use Rattle.std.proofs.lemmas.Grind.{common_steps}
use Rattle.tree_rows.specs.Forest.{Forest, none, text, element, count}
use Rattle.tree_rows.specs.Rows.{rows_of}
use Rattle.tree_rows.specs.RowLaws.{Ends}
use Rattle.tree_edits.specs.Edits.{width, insert_at, renumbered}
use Rattle.tree_building.specs.Shape.{deepest_with, deepest_row}
pub use Rattle.tree_building.proofs.RowCounts.{deepest-append, deepest-rows, count-rows}
use Rattle.tree_edits.specs.EditRows.{rows_width, put_rows, ends_at, raised}
use Rattle.tree_rows.specs.declared.name.Expanded.{Expanded}
use Rattle.tree_rows.specs.declared.row.Attribute.{Attribute}
use Rattle.tree_rows.specs.declared.row.Binding.{Binding}
use Rattle.tree_rows.specs.declared.row.Row.{Row}
use Rattle.tree_edits.proofs.Standing.{text_row, element_row, rows-append}

not_less : (d : ℕ) → nat_lt d d ≡ false
not_less d = grind (arith, nat_tests)

same : (d : ℕ) → (d == d) ≡ true
same d = grind (arith, nat_tests)

-- children are counted
width-skip : (low depth : ℕ) (f : Forest) (rows : List Row) → low + 1 ≤ depth → rows_width low (rows_of depth f ++ rows) ≡ rows_width low rows
width-skip low depth none rows h = refl
width-skip low depth (text n chars next) rows h =
    let above : nat_lt depth low ≡ false = grind (arith, nat_tests) in
    let other : (depth == low) ≡ false = grind (arith, nat_tests) in
    rw (above, other) (width-skip low depth next rows h)
width-skip low depth (element n name bindings attributes children next) rows h =
    let above : nat_lt depth low ≡ false = grind (arith, nat_tests) in
    let other : (depth == low) ≡ false = grind (arith, nat_tests) in
    rw (above, other) (ap (rows_width low) (append_assoc (rows_of (depth + 1) children) (rows_of depth next) rows)
    ∙ width-skip low (depth + 1) children (rows_of depth next ++ rows) (omega arith) ∙ width-skip low depth next rows h)

width-ends : (depth : ℕ) (rows : List Row) → Ends depth rows → rows_width depth rows ≡ 0
width-ends depth [] e = refl
width-ends depth (row ∷ rows) e = let less : nat_lt row.depth depth ≡ true = grind (arith, nat_tests) in rw less refl

pub width-rows : (depth : ℕ) (f : Forest) (rows : List Row) → Ends depth rows → rows_width depth (rows_of depth f ++ rows) ≡ width f
width-rows depth none rows e = width-ends depth rows e
width-rows depth (text n chars next) rows e = rw (not_less depth, same depth) (ap (λ k. 1 + k) (width-rows depth next rows e))
width-rows depth (element n name bindings attributes children next) rows e =
    rw (not_less depth, same depth) (ap (λ k. 1 + k) (ap (rows_width depth) (append_assoc (rows_of (depth + 1) children) (rows_of depth next) rows)
    ∙ width-skip depth (depth + 1) children (rows_of depth next ++ rows) (omega arith) ∙ width-rows depth next rows e))

-- new rows are put among children
put-skip : (place low depth : ℕ) (new : List Row) (f : Forest) (rows : List Row) → low + 1 ≤ depth
    → put_rows place low new (rows_of depth f ++ rows) ≡ rows_of depth f ++ put_rows place low new rows
put-skip place low depth new none rows h = refl
put-skip place low depth new (text n chars next) rows h =
    let above : nat_lt depth low ≡ false = grind (arith, nat_tests) in
    let other : (depth == low) ≡ false = grind (arith, nat_tests) in
    rw (above, other) (ap (λ l. text_row n depth chars ∷ l) (put-skip place low depth new next rows h))
put-skip place low depth new (element n name bindings attributes children next) rows h =
    let above : nat_lt depth low ≡ false = grind (arith, nat_tests) in
    let other : (depth == low) ≡ false = grind (arith, nat_tests) in
    rw (above, other) (ap (λ l. element_row n depth name bindings attributes ∷ l)
    (ap (put_rows place low new) (append_assoc (rows_of (depth + 1) children) (rows_of depth next) rows)
    ∙ put-skip place low (depth + 1) new children (rows_of depth next ++ rows) (omega arith)
    ∙ ap (λ l. rows_of (depth + 1) children ++ l) (put-skip place low depth new next rows h)
    ∙ sym (append_assoc (rows_of (depth + 1) children) (rows_of depth next) (put_rows place low new rows))))

put-ends : (place depth : ℕ) (new rows : List Row) → Ends depth rows → put_rows place depth new rows ≡ new ++ rows
put-ends place depth new [] e = sym (append-nil new)
put-ends place depth new (row ∷ rows) e = let less : nat_lt row.depth depth ≡ true = grind (arith, nat_tests) in rw less refl

put_text : (place depth n : ℕ) (chars : List ℕ) (g next : Forest) (rows : List Row)
    → (place - 1 ≤ width next → put_rows (place - 1) depth (rows_of depth g) (rows_of depth next ++ rows) ≡ rows_of depth (insert_at (place - 1) g next) ++ rows)
    → place ≤ 1 + width next → (t : Bool) → (place == 0) ≡ t
    → put_rows place depth (rows_of depth g) (rows_of depth (text n chars next) ++ rows) ≡ rows_of depth (insert_at place g (text n chars next)) ++ rows
put_text place depth n chars g next rows more h true is =
    rw (not_less depth, same depth, is) (sym (ap (λ l. l ++ rows) (rows-append depth g (text n chars next))
    ∙ append_assoc (rows_of depth g) (rows_of depth (text n chars next)) rows))
put_text place depth n chars g next rows more h false is =
    rw (not_less depth, same depth, is) (ap (λ l. text_row n depth chars ∷ l) (more (omega (arith, h))))

put_element : (place depth n : ℕ) (name : Expanded) (bindings : List Binding) (attributes : List Attribute) (children g next : Forest) (rows : List Row)
    → (place - 1 ≤ width next → put_rows (place - 1) depth (rows_of depth g) (rows_of depth next ++ rows) ≡ rows_of depth (insert_at (place - 1) g next) ++ rows)
    → place ≤ 1 + width next → (t : Bool) → (place == 0) ≡ t
    → put_rows place depth (rows_of depth g) (rows_of depth (element n name bindings attributes children next) ++ rows)
    ≡ rows_of depth (insert_at place g (element n name bindings attributes children next)) ++ rows
put_element place depth n name bindings attributes children g next rows more h true is =
    rw (not_less depth, same depth, is) (sym (ap (λ l. l ++ rows) (rows-append depth g (element n name bindings attributes children next))
    ∙ append_assoc (rows_of depth g) (rows_of depth (element n name bindings attributes children next)) rows))
put_element place depth n name bindings attributes children g next rows more h false is =
    rw (not_less depth, same depth, is) (ap (λ l. element_row n depth name bindings attributes ∷ l)
    (ap (put_rows (place - 1) depth (rows_of depth g)) (append_assoc (rows_of (depth + 1) children) (rows_of depth next) rows)
    ∙ put-skip (place - 1) depth (depth + 1) (rows_of depth g) children (rows_of depth next ++ rows) (omega arith)
    ∙ ap (λ l. rows_of (depth + 1) children ++ l) (more (omega (arith, h)))
    ∙ sym (append_assoc (rows_of (depth + 1) children) (rows_of depth (insert_at (place - 1) g next)) rows)))

pub put-rows : (place depth : ℕ) (g f : Forest) (rows : List Row) → place ≤ width f → Ends depth rows
    → put_rows place depth (rows_of depth g) (rows_of depth f ++ rows) ≡ rows_of depth (insert_at place g f) ++ rows
put-rows place depth g none rows h e = put-ends place depth (rows_of depth g) rows e
put-rows place depth g (text n chars next) rows h e =
    put_text place depth n chars g next rows (λ (k : place - 1 ≤ width next). put-rows (place - 1) depth g next rows k e) h (place == 0) refl
put-rows place depth g (element n name bindings attributes children next) rows h e =
    put_element place depth n name bindings attributes children g next rows (λ (k : place - 1 ≤ width next). put-rows (place - 1) depth g next rows k e) h (place == 0) refl

-- the rows below a node are those up to the first that is not deeper
below-skip : (low depth : ℕ) (f : Forest) (rows : List Row) → low + 1 ≤ depth
    → position_or_len (ends_at low) (rows_of depth f ++ rows) ≡ length (rows_of depth f) + position_or_len (ends_at low) rows
below-skip low depth none rows h = omega arith
below-skip low depth (text n chars next) rows h =
    let deeper : nat_le depth low ≡ false = grind (arith, nat_tests) in
    rw deeper (omega (arith, below-skip low depth next rows h))
below-skip low depth (element n name bindings attributes children next) rows h =
    let deeper : nat_le depth low ≡ false = grind (arith, nat_tests) in
    let two : length (rows_of (depth + 1) children ++ rows_of depth next) ≡ length (rows_of (depth + 1) children) + length (rows_of depth next) = grind (arith, common_steps) in
    rw deeper (ap (λ l. 1 + position_or_len (ends_at low) l) (append_assoc (rows_of (depth + 1) children) (rows_of depth next) rows)
    ∙ omega (arith, two, below-skip low (depth + 1) children (rows_of depth next ++ rows) (omega arith), below-skip low depth next rows h))

below-ends : (low : ℕ) (rows : List Row) → Ends (low + 1) rows → position_or_len (ends_at low) rows ≡ 0
below-ends low [] e = refl
below-ends low (row ∷ rows) e = let yes : nat_le row.depth low ≡ true = grind (arith, nat_tests) in rw yes refl

pub below-rows : (low : ℕ) (f : Forest) (rows : List Row) → Ends (low + 1) rows
    → position_or_len (ends_at low) (rows_of (low + 1) f ++ rows) ≡ length (rows_of (low + 1) f)
below-rows low f rows e = omega (arith, below-skip low (low + 1) f rows (omega arith), below-ends low rows e)

pub deepest-part : (levels n : ℕ) (rows : List Row) → (deepest_row levels (take n rows) ≤ deepest_row levels rows) × (deepest_row levels (drop n rows) ≤ deepest_row levels rows)
deepest-part levels n rows =
    let whole = deepest-append levels (take n rows) (drop n rows) in
    let all : deepest_row levels rows ≡ max (deepest_row levels (take n rows)) (deepest_row levels (drop n rows)) = grind (arith, common_steps, whole) in
    (omega (arith, all), omega (arith, all))

-- nodes get numbers and stand deeper
raised-append : (free levels : ℕ) (xs ys : List Row) → raised free levels (xs ++ ys) ≡ raised free levels xs ++ raised (free + length xs) levels ys
raised-append free levels [] ys = ap (λ k. raised k levels ys) (omega arith)
raised-append free levels (row ∷ rows) ys =
    let on : free + 1 + length rows ≡ free + length (row ∷ rows) = omega arith in
    ap (λ l. record row { number = free; depth = row.depth + levels } ∷ l) (raised-append (free + 1) levels rows ys
    ∙ ap (λ k. raised (free + 1) levels rows ++ raised k levels ys) on)

pub raised-rows : (free levels depth : ℕ) (f : Forest) → raised free levels (rows_of depth f) ≡ rows_of (depth + levels) (renumbered free f)
raised-rows free levels depth none = refl
raised-rows free levels depth (text n chars next) = ap (λ l. text_row free (depth + levels) chars ∷ l) (raised-rows (free + 1) levels depth next)
raised-rows free levels depth (element n name bindings attributes children next) =
    let up : depth + 1 + levels ≡ depth + levels + 1 = omega arith in
    ap (λ l. element_row free (depth + levels) name bindings attributes ∷ l)
    (raised-append (free + 1) levels (rows_of (depth + 1) children) (rows_of depth next)
    ∙ ap (λ k. raised (free + 1) levels (rows_of (depth + 1) children) ++ raised (free + 1 + k) levels (rows_of depth next)) (count-rows (depth + 1) children)
    ∙ ap (λ l. l ++ raised (free + 1 + count children) levels (rows_of depth next))
    (raised-rows (free + 1) levels (depth + 1) children ∙ ap (λ d. rows_of d (renumbered (free + 1) children)) up)
    ∙ ap (λ l. rows_of (depth + levels + 1) (renumbered (free + 1) children) ++ l) (raised-rows (free + 1 + count children) levels depth next))

pub raised-deepest : (free levels : ℕ) (rows : List Row) → deepest_row 0 (raised free levels rows) ≡ deepest_row levels rows
raised-deepest free levels [] = refl
raised-deepest free levels (row ∷ rows) =
    ap (deepest_with row.content (row.depth + levels + 0)) (raised-deepest (free + 1) levels rows)
    ∙ ap (λ k. deepest_with row.content k (deepest_row levels rows)) (omega arith)
