-- The names of a tree's rows, row by row.
use Rattle.std.proofs.Common.{◌≡◌, ℕ, ◌+◌, ◌<◌, ◌≤◌, suc, List, [], ◌∷◌, ◌++◌, length, drop, get_or, refl, sym, ap, ◌∙◌, drop-cons, add-one}
use Rattle.std.proofs.lemmas.List.{drop_all}
use Rattle.xs_names.specs.Names.{NameTable}
use Rattle.tree_rows.specs.Forest.{Forest, none, text, element}
use Rattle.tree_rows.specs.Rows.{rows_of}
use Rattle.tree_rows.specs.declared.row.Row.{Row}
use Rattle.plain_tree.specs.Table.{with_tag, document_table}
use Rattle.plain_tree.specs.inside.Rows.{with_row, with_rows}

with_rows-append : (t : NameTable) (xs ys : List Row) → with_rows t (xs ++ ys) ≡ with_rows (with_rows t xs) ys
with_rows-append t [] ys = refl
with_rows-append t (row ∷ xs) ys = with_rows-append (with_row t row) xs ys

-- the names of a tree's rows are those of the tree
pub rows_are : (t : NameTable) (depth : ℕ) (f : Forest) → with_rows t (rows_of depth f) ≡ document_table t f
rows_are t depth none = refl
rows_are t depth (text number chars next) = rows_are t depth next
rows_are t depth (element number name bindings attributes children next) =
    let u = with_tag t name bindings attributes in
    with_rows-append u (rows_of (depth + 1) children) (rows_of depth next)
    ∙ ap (λ v. with_rows v (rows_of depth next)) (rows_are u (depth + 1) children)
    ∙ rows_are (document_table u children) depth next

-- one step along a list
pub drop_next : {A : Type 0} (xs : List A) (i : ℕ) (x : A) → i < length xs → x ≡ get_or xs i x → drop i xs ≡ x ∷ drop (i + 1) xs
drop_next xs i x lt is = drop-cons xs i x lt ∙ ap (λ y. y ∷ drop (suc i) xs) (sym is) ∙ ap (λ n. x ∷ drop n xs) (sym (add-one i))

-- where no row of a tree is left
pub rows_end : (t u : NameTable) (f : Forest) (rows : List Row) (i : ℕ) → rows ≡ rows_of 1 f → length rows ≤ i → with_rows u (drop i rows) ≡ with_rows t rows → u ≡ document_table t f
rows_end t u f rows i are all table = sym (ap (with_rows u) (drop_all i rows all)) ∙ table ∙ ap (with_rows t) are ∙ rows_are t 1 f
