-- Rows that are cut into those below the first one and those beside it.
use Rattle.std.proofs.Common.{◌≡◌, ℕ, ◌+◌, ◌≤◌, List, [], ◌∷◌, ◌++◌, length, take, drop, refl, sym, ap, ◌∙◌, arith, append-nil, subst}
use Rattle.std.proofs.Math.Seq.{take-append_seam, drop-append_seam}
use Rattle.std.proofs.lemmas.Grind.{common_steps}
use Rattle.tree_rows.specs.Forest.{Forest, none, text, element, count}
use Rattle.tree_rows.specs.Rows.{rows_of, siblings, node}
use Rattle.tree_rows.specs.RowLaws.{siblings-rows_of}
use Rattle.tree_rows.specs.declared.row.Row.{Row}
use Rattle.tree_rows.specs.declared.row.Content.TheVariants as contents
use Rattle.tree_rows.specs.Cuts.{top_depth, forest_in}
use Rattle.tree_rows.specs.Held.{AreCut}
use Rattle.tree_rows.specs.Sizes.{counts_of}

pub length-rows : (depth : ℕ) (f : Forest) → length (rows_of depth f) ≡ count f
length-rows depth none = refl
length-rows depth (text n chars next) = omega (arith, length-rows depth next)
length-rows depth (element n name bindings attributes children next) =
    grind (arith, common_steps, length-rows (depth + 1) children, length-rows depth next)

pub length-counts : (f : Forest) → length (counts_of f) ≡ count f
length-counts none = refl
length-counts (text n chars next) = omega (arith, length-counts next)
length-counts (element n name bindings attributes children next) = grind (arith, common_steps, length-counts children, length-counts next)

-- the forest of a forest's rows
pub forest-rows : (depth : ℕ) (f : Forest) → forest_in (rows_of depth f) ≡ f
forest-rows depth none = refl
forest-rows depth (text n chars next) =
    ap (λ l. siblings l depth) (sym (append-nil (rows_of depth (text n chars next)))) ∙ siblings-rows_of depth (text n chars next) [] tt
forest-rows depth (element n name bindings attributes children next) =
    ap (λ l. siblings l depth) (sym (append-nil (rows_of depth (element n name bindings attributes children next))))
    ∙ siblings-rows_of depth (element n name bindings attributes children next) [] tt

own_depth : (depth : ℕ) (f : Forest) → rows_of depth f ≡ rows_of (top_depth (rows_of depth f)) f
own_depth depth none = refl
own_depth depth (text n chars next) = refl
own_depth depth (element n name bindings attributes children next) = refl

-- a forest's rows and counts are cut
pub cut_of : (depth : ℕ) (f : Forest) (rows : List Row) (below : List ℕ) → rows ≡ rows_of depth f → below ≡ counts_of f → AreCut rows below
cut_of depth f rows below r b =
    subst (λ l. AreCut l below) (sym r) (record {
      rows_are = own_depth depth f ∙ ap (rows_of (top_depth (rows_of depth f))) (sym (forest-rows depth f));
      counts_are = b ∙ ap counts_of (sym (forest-rows depth f));
    })

pub forest_is : (depth : ℕ) (f : Forest) (rows : List Row) → rows ≡ rows_of depth f → forest_in rows ≡ f
forest_is depth f rows r = ap forest_in r ∙ forest-rows depth f

-- the first node, what is below it, and what is beside it
pub record Opens (row : Row) (rows : List Row) (size : ℕ) (counts : List ℕ) (f : Forest) : Type 0 where
  pub depth : ℕ
  pub children : Forest
  pub next : Forest
  pub is : f ≡ node row.number row.content row.bindings row.attributes children next
  pub within : size ≤ length rows
  pub counted : size ≤ length counts
  pub below : take size rows ≡ rows_of (depth + 1) children
  pub beside : drop size rows ≡ rows_of depth next
  pub below_counts : take size counts ≡ counts_of children
  pub beside_counts : drop size counts ≡ counts_of next

first_of : {X : Type 0} (x y : X) (xs ys : List X) → x ∷ xs ≡ y ∷ ys → x ≡ y
first_of x y xs ys e = cc e

rest_of : {X : Type 0} (x y : X) (xs ys : List X) → x ∷ xs ≡ y ∷ ys → xs ≡ ys
rest_of x y xs ys e = cc e

none_of : {X : Type 0} (x : X) (xs : List X) → x ∷ xs ≡ [] → ⊥
none_of x xs e = cc e

pub opens : (depth : ℕ) (f : Forest) (row : Row) (rows : List Row) (size : ℕ) (counts : List ℕ) → row ∷ rows ≡ rows_of depth f → size ∷ counts ≡ counts_of f → Opens row rows size counts f
opens depth none row rows size counts r c = absurd (none_of row rows r)
opens depth (text n chars next) row rows size counts r c =
    let is_row = first_of _ _ _ _ r in
    let is_rows = rest_of _ _ _ _ r in
    let zero_is : size ≡ 0 = first_of _ _ _ _ c in
    let is_counts = rest_of _ _ _ _ c in
    record {
      depth = depth;
      children = none;
      next = next;
      is = ap (λ (x : Row). node x.number x.content x.bindings x.attributes none next) (sym is_row);
      within = omega (arith, zero_is);
      counted = omega (arith, zero_is);
      below = ap (λ k. take k rows) zero_is;
      beside = ap (λ k. drop k rows) zero_is ∙ is_rows;
      below_counts = ap (λ k. take k counts) zero_is;
      beside_counts = ap (λ k. drop k counts) zero_is ∙ is_counts;
    }
opens depth (element n name bindings attributes children next) row rows size counts r c =
    let is_row = first_of _ _ _ _ r in
    let is_rows : rows ≡ rows_of (depth + 1) children ++ rows_of depth next = rest_of _ _ _ _ r in
    let is_size : size ≡ count children = first_of _ _ _ _ c in
    let is_counts : counts ≡ counts_of children ++ counts_of next = rest_of _ _ _ _ c in
    let rows_long : size ≡ length (rows_of (depth + 1) children) = is_size ∙ sym (length-rows (depth + 1) children) in
    let counts_long : size ≡ length (counts_of children) = is_size ∙ sym (length-counts children) in
    record {
      depth = depth;
      children = children;
      next = next;
      is = ap (λ (x : Row). node x.number x.content x.bindings x.attributes children next) (sym is_row);
      within = grind (arith, common_steps, rows_long, ap length is_rows);
      counted = grind (arith, common_steps, counts_long, ap length is_counts);
      below = ap (λ k. take k rows) rows_long ∙ ap (take (length (rows_of (depth + 1) children))) is_rows ∙ take-append_seam (rows_of (depth + 1) children) (rows_of depth next);
      beside = ap (λ k. drop k rows) rows_long ∙ ap (drop (length (rows_of (depth + 1) children))) is_rows ∙ drop-append_seam (rows_of (depth + 1) children) (rows_of depth next);
      below_counts = ap (λ k. take k counts) counts_long ∙ ap (take (length (counts_of children))) is_counts ∙ take-append_seam (counts_of children) (counts_of next);
      beside_counts = ap (λ k. drop k counts) counts_long ∙ ap (drop (length (counts_of children))) is_counts ∙ drop-append_seam (counts_of children) (counts_of next);
    }

pub opens_cut : (row : Row) (rows : List Row) (size : ℕ) (counts : List ℕ) → AreCut (row ∷ rows) (size ∷ counts) → Opens row rows size counts (forest_in (row ∷ rows))
opens_cut row rows size counts cut = opens row.depth (forest_in (row ∷ rows)) row rows size counts cut.rows_are cut.counts_are

no_counts : (depth : ℕ) (f : Forest) → [] ≡ counts_of f → rows_of depth f ≡ []
no_counts depth none e = refl
no_counts depth (text n chars next) e = absurd (cc e)
no_counts depth (element n name bindings attributes children next) e = absurd (cc e)

-- rows have counts
pub never_empty : (row : Row) (rows : List Row) → AreCut (row ∷ rows) [] → ⊥
never_empty row rows cut = none_of row rows (cut.rows_are ∙ no_counts row.depth (forest_in (row ∷ rows)) cut.counts_are)

-- the rows of a tree are cut from nothing
pub whole_cut : (rows : List Row) (below : List ℕ) → rows ≡ rows_of 1 (siblings rows 1) → below ≡ counts_of (siblings rows 1) → AreCut rows below
whole_cut rows below r b = cut_of 1 (siblings rows 1) rows below r b
