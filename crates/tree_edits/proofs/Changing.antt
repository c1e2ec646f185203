-- What a changed text or a node that goes is, on the rows and on the tree.
use Rattle.std.proofs.Common.{◌≡◌, ℕ, suc, ◌+◌, ◌≤◌, ◌<◌, List, [], ◌∷◌, ◌++◌, Bool, true, false, ◌==◌, Some, Ok, Err, length, take, drop, get_or, set, refl, sym, ap, ◌∙◌, arith, append-nil, max}
use Rattle.std.specs.List.{position_or_len}
use Rattle.std.proofs.lemmas.Grind.{common_steps}
use Rattle.tree_rows.specs.Forest.{Forest, none, text, element}
use Rattle.tree_rows.specs.Rows.{rows_of, siblings}
use Rattle.tree_rows.specs.RowLaws.{Ends}
use Rattle.tree_edits.specs.Edits.{found, replaced, with_chars, is_root, reword, remove}
use Rattle.tree_building.specs.Shape.{AreWhole, AreSound, deepest_with, deepest_row}
use Rattle.tree_edits.specs.EditRows.{is_numbered, ends_at}
use Rattle.tree_edits.specs.Spots.{tree_of, Rewords, Removes}
use Rattle.tree_rows.specs.declared.name.Expanded.{Expanded}
use Rattle.tree_rows.specs.declared.row.Row.{Row}
use Rattle.tree_rows.specs.declared.row.Content.{Content}
use Rattle.tree_rows.specs.declared.row.Content.TheVariants as contents
use Rattle.tree_edits.specs.declared.edit.EditError.TheVariants.{UnknownNode, NotText, RootFixed}
use Rattle.tree_edits.proofs.Standing.{text_row, element_row, IsNode}
use Rattle.tree_edits.proofs.Placing.{below-rows, deepest-append}
use Rattle.tree_edits.proofs.Putting.{whole_from}
use Rattle.tree_edits.proofs.Spotting.{unknown, standing, top, row_is, element_at, behind_is}

pub cannot_reword : (rows : List Row) (key k : ℕ) → AreWhole rows → k ≡ position_or_len (is_numbered key) rows → length rows ≤ k
    → (chars : List ℕ) (next : ℕ) → reword (tree_of rows next) key chars (found key 1 (siblings rows 1)) ≡ Err UnknownNode
cannot_reword rows key k whole at_k past chars next = ap (reword (tree_of rows next) key chars) (unknown rows key whole (omega (arith, at_k, past)))

pub cannot_remove : (rows : List Row) (key k : ℕ) → AreWhole rows → k ≡ position_or_len (is_numbered key) rows → length rows ≤ k
    → (next : ℕ) → remove (tree_of rows next) key (found key 1 (siblings rows 1)) ≡ Err UnknownNode
cannot_remove rows key k whole at_k past next = ap (remove (tree_of rows next) key) (unknown rows key whole (omega (arith, at_k, past)))

pub not_text : (rows : List Row) (key k : ℕ) (row : Row) (name : Expanded) → AreWhole rows → k ≡ position_or_len (is_numbered key) rows → k < length rows
    → row ≡ get_or rows k row → row.content ≡ contents.Element name
    → (chars : List ℕ) (next : ℕ) → reword (tree_of rows next) key chars (found key 1 (siblings rows 1)) ≡ Err NotText
not_text rows key k row name whole at_k within read c chars next =
    let e = element_at rows key k row name whole at_k within read c in ap (reword (tree_of rows next) key chars) e.is_found

-- a text, by its row
pub record TextAt (rows : List Row) (key k : ℕ) (row : Row) : Type 0 where
  pub chars : List ℕ
  pub before : List Row
  pub after : List Row
  pub number : ℕ
  pub is_found : found key 1 (siblings rows 1) ≡ Some (record { depth = row.depth; node = text number chars none })
  pub place : k ≡ length before
  pub rows_are : rows ≡ before ++ (row ∷ after)
  pub has_content : row.content ≡ contents.Chars chars
  pub becomes : (new : List ℕ) → rows_of 1 (replaced key (with_chars new) (siblings rows 1)) ≡ before ++ (record row { content = contents.Chars new } ∷ after)

text_is : (rows : List Row) (key k : ℕ) (row : Row) (old : List ℕ) (before after : List Row) (depth : ℕ) (node : Forest) → IsNode key node
    → found key 1 (siblings rows 1) ≡ Some (record { depth = depth; node = node }) → k ≡ length before → rows ≡ before ++ (rows_of depth node ++ after)
    → ((change : Forest → Forest) → rows_of 1 (replaced key change (siblings rows 1)) ≡ before ++ (rows_of depth (change node) ++ after))
    → row ≡ top depth node row → row.content ≡ contents.Chars old → TextAt rows key k row
text_is rows key k row old before after depth none i f p e b is c = absurd i
text_is rows key k row old before after depth (element n name bindings attributes children next) i f p e b is c =
    let d : row.content ≡ contents.Element name = ap (λ (r : Row). r.content) is in absurd (cc)
text_is rows key k row old before after depth (text n chars next) i f p e b is c =
    let deep : row.depth ≡ depth = ap (λ (r : Row). r.depth) is in
    record {
      chars = chars;
      before = before;
      after = after;
      number = n;
      is_found = f ∙ ap (λ g. Some (record { depth = depth; node = text n chars g })) i.1 ∙ ap (λ j. Some (record { depth = j; node = text n chars none })) (sym deep);
      place = p;
      rows_are = e ∙ ap (λ g. before ++ (text_row n depth chars ∷ (rows_of depth g ++ after))) i.1 ∙ ap (λ r. before ++ (r ∷ after)) (sym is);
      has_content = ap (λ (r : Row). r.content) is;
      becomes = λ new. b (with_chars new) ∙ ap (λ g. before ++ (text_row n depth new ∷ (rows_of depth g ++ after))) i.1
          ∙ ap (λ (r : Row). before ++ (record r { content = contents.Chars new } ∷ after)) (sym is);
    }

pub text_at : (rows : List Row) (key k : ℕ) (row : Row) (old : List ℕ) → AreWhole rows → k ≡ position_or_len (is_numbered key) rows → k < length rows
    → row ≡ get_or rows k row → row.content ≡ contents.Chars old → TextAt rows key k row
text_at rows key k row old whole at_k within read c =
    let s = standing rows key whole (omega (arith, at_k, within)) in
    text_is rows key k row old s.before s.after s.depth s.node s.is_node s.is_found (at_k ∙ ap (position_or_len (is_numbered key)) whole ∙ s.first)
    (whole ∙ s.rows_are) s.becomes (row_is rows key k row whole s at_k read) c

pub set_at : (before : List Row) (x y : Row) (more : List Row) → set (before ++ (x ∷ more)) (length before) y ≡ before ++ (y ∷ more)
set_at [] x y more = refl
set_at (z ∷ zs) x y more =
    let up : length (z ∷ zs) ≡ suc (length zs) = omega arith in
    ap (λ k. set (z ∷ (zs ++ (x ∷ more))) k y) up ∙ ap (λ l. z ∷ l) (set_at zs x y more)

chars_deep : (content : Content) (chars : List ℕ) (depth later : ℕ) → content ≡ contents.Chars chars → deepest_with content depth later ≡ later
chars_deep content chars depth later e = ap (λ x. deepest_with x depth later) e

pub reworded : (rows changed : List Row) (key k : ℕ) (row : Row) (old new : List ℕ) → AreSound rows → k ≡ position_or_len (is_numbered key) rows → k < length rows
    → row ≡ get_or rows k row → row.content ≡ contents.Chars old → changed ≡ set rows k (record row { content = contents.Chars new })
    → Rewords rows changed key new
reworded rows changed key k row old new sound at_k within read c is =
    let t = text_at rows key k row old sound.whole at_k within read c in
    let other : Row = record row { content = contents.Chars new } in
    let all : changed ≡ t.before ++ (other ∷ t.after) =
    is ∙ ap (λ l. set l k other) t.rows_are ∙ ap (λ j. set (t.before ++ (row ∷ t.after)) j other) t.place ∙ set_at t.before row other t.after in
    let now = whole_from changed (replaced key (with_chars new) (siblings rows 1)) (all ∙ sym (t.becomes new)) in
    let deep_old : deepest_row 0 rows ≡ max (deepest_row 0 t.before) (deepest_row 0 t.after) =
    ap (deepest_row 0) t.rows_are ∙ deepest-append 0 t.before (row ∷ t.after)
    ∙ ap (max (deepest_row 0 t.before)) (chars_deep row.content t.chars (row.depth + 0) (deepest_row 0 t.after) t.has_content) in
    let deep_new : deepest_row 0 changed ≡ max (deepest_row 0 t.before) (deepest_row 0 t.after) =
    ap (deepest_row 0) all ∙ deepest-append 0 t.before (other ∷ t.after) in
    record {
      sound = record { whole = now.1; shallow = omega (arith, deep_old, deep_new, sound.shallow) };
      gives = λ next. ap (reword (tree_of rows next) key new) t.is_found ∙ ap (λ f. Ok (record { forest = f; next_free = next })) (sym now.0);
    }

-- the root is the node of the first row
not_root_if : (key n : ℕ) (more : List Row) (t : Bool) (row : Row) → (row.number == key) ≡ t → row.number ≡ n → 0 < position_or_len (is_numbered key) (row ∷ more) → (n == key) ≡ false
not_root_if key n more true row is same h = absurd (omega (arith, rw is at h))
not_root_if key n more false row is same h = rw same at is

not_root : (key : ℕ) (f : Forest) → 0 < position_or_len (is_numbered key) (rows_of 1 f) → is_root key f ≡ false
not_root key none h = refl
not_root key (text n chars next) h = not_root_if key n (rows_of 1 next) (n == key) (text_row n 1 chars) refl refl h
not_root key (element n name bindings attributes children next) h =
    not_root_if key n (rows_of 2 children ++ rows_of 1 next) (n == key) (element_row n 1 name bindings attributes) refl refl h

root_if : (key n : ℕ) (more : List Row) (t : Bool) (row : Row) → (row.number == key) ≡ t → row.number ≡ n → position_or_len (is_numbered key) (row ∷ more) ≡ 0 → (n == key) ≡ true
root_if key n more true row is same h = rw same at is
root_if key n more false row is same h = absurd (omega (arith, rw is at h))

root : (key : ℕ) (f : Forest) → position_or_len (is_numbered key) (rows_of 1 f) ≡ 0 → 0 < length (rows_of 1 f) → is_root key f ≡ true
root key none h long = absurd (omega (arith, long))
root key (text n chars next) h long = root_if key n (rows_of 1 next) (n == key) (text_row n 1 chars) refl refl h
root key (element n name bindings attributes children next) h long =
    root_if key n (rows_of 2 children ++ rows_of 1 next) (n == key) (element_row n 1 name bindings attributes) refl refl h

pub root_stays : (rows : List Row) (key k : ℕ) → AreWhole rows → k ≡ position_or_len (is_numbered key) rows → k < length rows → k ≡ 0
    → (next : ℕ) → remove (tree_of rows next) key (found key 1 (siblings rows 1)) ≡ Err RootFixed
root_stays rows key k whole at_k within zero_is next =
    let s = standing rows key whole (omega (arith, at_k, within)) in
    let long : length rows ≡ length (rows_of 1 (siblings rows 1)) = ap length whole in
    let first : position_or_len (is_numbered key) (rows_of 1 (siblings rows 1)) ≡ 0 = ap (position_or_len (is_numbered key)) (sym whole) ∙ sym at_k ∙ zero_is in
    ap (remove (tree_of rows next) key) s.is_found ∙ rw (root key (siblings rows 1) first (omega (arith, long, within))) refl

-- a node with the rows below it, by its row
pub record NodeAt (rows : List Row) (key k : ℕ) (row : Row) : Type 0 where
  pub before : List Row
  pub inside : List Row
  pub after : List Row
  pub place : k ≡ length before
  pub rows_are : rows ≡ before ++ (row ∷ (inside ++ after))
  pub below : position_or_len (ends_at row.depth) (inside ++ after) ≡ length inside
  pub goes : rows_of 1 (replaced key (λ node. none) (siblings rows 1)) ≡ before ++ after

node_is : (rows : List Row) (key k : ℕ) (row : Row) (before after : List Row) (depth : ℕ) (node : Forest) → IsNode key node
    → k ≡ length before → rows ≡ before ++ (rows_of depth node ++ after) → Ends (depth + 1) after
    → ((change : Forest → Forest) → rows_of 1 (replaced key change (siblings rows 1)) ≡ before ++ (rows_of depth (change node) ++ after))
    → row ≡ top depth node row → NodeAt rows key k row
node_is rows key k row before after depth none i p e ends b is = absurd i
node_is rows key k row before after depth (text n chars next) i p e ends b is =
    let deep : depth ≡ row.depth = sym (ap (λ (r : Row). r.depth) is) in
    record {
      before = before;
      inside = [];
      after = after;
      place = p;
      rows_are = e ∙ ap (λ g. before ++ (text_row n depth chars ∷ (rows_of depth g ++ after))) i.1 ∙ ap (λ r. before ++ (r ∷ after)) (sym is);
      below = ap (λ d. position_or_len (ends_at d) after) (sym deep) ∙ below-rows depth none after ends;
      goes = b (λ node. none);
    }
node_is rows key k row before after depth (element n name bindings attributes children next) i p e ends b is =
    let deep : depth ≡ row.depth = sym (ap (λ (r : Row). r.depth) is) in
    record {
      before = before;
      inside = rows_of (depth + 1) children;
      after = after;
      place = p;
      rows_are = e ∙ ap (λ g. before ++ (element_row n depth name bindings attributes ∷ ((rows_of (depth + 1) children ++ rows_of depth g) ++ after))) i.1
          ∙ ap (λ l. before ++ (element_row n depth name bindings attributes ∷ (l ++ after))) (append-nil (rows_of (depth + 1) children))
          ∙ ap (λ r. before ++ (r ∷ (rows_of (depth + 1) children ++ after))) (sym is);
      below = ap (λ d. position_or_len (ends_at d) (rows_of (depth + 1) children ++ after)) (sym deep) ∙ below-rows depth children after ends;
      goes = b (λ node. none);
    }

pub node_at : (rows : List Row) (key k : ℕ) (row : Row) → AreWhole rows → k ≡ position_or_len (is_numbered key) rows → k < length rows
    → row ≡ get_or rows k row → NodeAt rows key k row
node_at rows key k row whole at_k within read =
    let s = standing rows key whole (omega (arith, at_k, within)) in
    node_is rows key k row s.before s.after s.depth s.node s.is_node (at_k ∙ ap (position_or_len (is_numbered key)) whole ∙ s.first)
    (whole ∙ s.rows_are) s.ends s.becomes (row_is rows key k row whole s at_k read)

cut_out : (before : List Row) (x : Row) (inside after : List Row)
    → take (length before) (before ++ (x ∷ (inside ++ after))) ++ drop (length before + (1 + length inside)) (before ++ (x ∷ (inside ++ after))) ≡ before ++ after
cut_out [] x inside after =
    let up : length {A = Row} [] + (1 + length inside) ≡ suc (length inside) = omega arith in
    let rest : drop (length inside) (inside ++ after) ≡ after = grind (arith, common_steps) in
    ap (λ k. drop k (x ∷ (inside ++ after))) up ∙ rest
cut_out (y ∷ ys) x inside after =
    let one : length (y ∷ ys) ≡ suc (length ys) = omega arith in
    let up : length (y ∷ ys) + (1 + length inside) ≡ suc (length ys + (1 + length inside)) = omega arith in
    ap (λ k. take k (y ∷ (ys ++ (x ∷ (inside ++ after)))) ++ drop (length (y ∷ ys) + (1 + length inside)) (y ∷ (ys ++ (x ∷ (inside ++ after))))) one
    ∙ ap (λ k. (y ∷ take (length ys) (ys ++ (x ∷ (inside ++ after)))) ++ drop k (y ∷ (ys ++ (x ∷ (inside ++ after))))) up
    ∙ ap (λ l. y ∷ l) (cut_out ys x inside after)

pub below_counted : (rows : List Row) (key k : ℕ) (row : Row) (count : ℕ) → NodeAt rows key k row → count ≡ position_or_len (ends_at row.depth) (drop (k + 1) rows)
    → k + (1 + count) ≤ length rows
below_counted rows key k row count n is =
    let behind = ap (λ j. drop (j + 1) rows) n.place ∙ ap (drop (length n.before + 1)) n.rows_are ∙ behind_is n.before row (n.inside ++ n.after) in
    let size : count ≡ length n.inside = is ∙ ap (position_or_len (ends_at row.depth)) behind ∙ n.below in
    let long : length rows ≡ length (n.before ++ (row ∷ (n.inside ++ n.after))) = ap length n.rows_are in
    grind (arith, common_steps, size, long, n.place)

pub removed : (rows changed : List Row) (key k : ℕ) (row : Row) (count : ℕ) → AreSound rows → k ≡ position_or_len (is_numbered key) rows → k < length rows → 0 < k
    → row ≡ get_or rows k row → count ≡ position_or_len (ends_at row.depth) (drop (k + 1) rows)
    → changed ≡ take k rows ++ drop (k + (1 + count)) rows → Removes rows changed key
removed rows changed key k row count sound at_k within low read counted is =
    let n = node_at rows key k row sound.whole at_k within read in
    let s = standing rows key sound.whole (omega (arith, at_k, within)) in
    let behind = ap (λ j. drop (j + 1) rows) n.place ∙ ap (drop (length n.before + 1)) n.rows_are ∙ behind_is n.before row (n.inside ++ n.after) in
    let size : count ≡ length n.inside = counted ∙ ap (position_or_len (ends_at row.depth)) behind ∙ n.below in
    let all : changed ≡ n.before ++ n.after =
    is ∙ ap (λ j. take j rows ++ drop (j + (1 + count)) rows) n.place ∙ ap (λ j. take (length n.before) rows ++ drop (length n.before + (1 + j)) rows) size
    ∙ ap (λ l. take (length n.before) l ++ drop (length n.before + (1 + length n.inside)) l) n.rows_are ∙ cut_out n.before row n.inside n.after in
    let now = whole_from changed (replaced key (λ node. none) (siblings rows 1)) (all ∙ sym n.goes) in
    let first : k ≡ position_or_len (is_numbered key) (rows_of 1 (siblings rows 1)) = at_k ∙ ap (position_or_len (is_numbered key)) sound.whole in
    let other : is_root key (siblings rows 1) ≡ false = not_root key (siblings rows 1) (omega (arith, first, low)) in
    let deep_new = ap (deepest_row 0) all ∙ deepest-append 0 n.before n.after in
    let deep_old = ap (deepest_row 0) n.rows_are ∙ deepest-append 0 n.before (row ∷ (n.inside ++ n.after)) in
    let deep_one = deepest-append 0 (row ∷ n.inside) n.after in
    record {
      sound = record { whole = now.1; shallow = omega (arith, deep_new, deep_old, deep_one, sound.shallow) };
      gives = λ next. ap (remove (tree_of rows next) key) s.is_found ∙ rw other (ap (λ f. Ok (record { forest = f; next_free = next })) (sym now.0));
    }
