-- How many rows a tree has, and how deep they are.
use Rattle.std.proofs.Common.{◌≡◌, ℕ, ◌+◌, List, [], ◌∷◌, ◌++◌, length, refl, ap, ◌∙◌, arith, max}
use Rattle.std.proofs.lemmas.Grind.{common_steps}
use Rattle.tree_rows.specs.Forest.{Forest, none, text, element, count, deepest_of}
use Rattle.tree_rows.specs.Rows.{rows_of}
use Rattle.tree_rows.specs.declared.row.Row.{Row}
use Rattle.tree_rows.specs.declared.row.Content.{Content}
use Rattle.tree_rows.specs.declared.row.Content.TheVariants as contents
use Rattle.tree_building.specs.Shape.{deepest_with, deepest_row}

-- how deep rows are
deepest-with : (content : Content) (depth a b : ℕ) → deepest_with content depth (max a b) ≡ max (deepest_with content depth a) b
deepest-with (contents.Element name) depth a b = omega arith
deepest-with (contents.Chars chars) depth a b = refl

pub deepest-append : (levels : ℕ) (xs ys : List Row) → deepest_row levels (xs ++ ys) ≡ max (deepest_row levels xs) (deepest_row levels ys)
deepest-append levels [] ys = omega arith
deepest-append levels (row ∷ rows) ys =
    ap (deepest_with row.content (row.depth + levels)) (deepest-append levels rows ys)
    ∙ deepest-with row.content (row.depth + levels) (deepest_row levels rows) (deepest_row levels ys)

pub deepest-rows : (levels depth : ℕ) (f : Forest) → deepest_row levels (rows_of depth f) ≡ deepest_of (depth + levels) f
deepest-rows levels depth none = refl
deepest-rows levels depth (text n chars next) = deepest-rows levels depth next
deepest-rows levels depth (element n name bindings attributes children next) =
    let up : depth + 1 + levels ≡ depth + levels + 1 = omega arith in
    ap (max (depth + levels)) (deepest-append levels (rows_of (depth + 1) children) (rows_of depth next)
    ∙ ap (λ k. max k (deepest_row levels (rows_of depth next))) (deepest-rows levels (depth + 1) children ∙ ap (λ d. deepest_of d children) up)
    ∙ ap (max (deepest_of (depth + levels + 1) children)) (deepest-rows levels depth next))

pub count-rows : (depth : ℕ) (f : Forest) → length (rows_of depth f) ≡ count f
count-rows depth none = refl
count-rows depth (text n chars next) = omega (arith, count-rows depth next)
count-rows depth (element n name bindings attributes children next) =
    grind (arith, common_steps, count-rows (depth + 1) children, count-rows depth next)
