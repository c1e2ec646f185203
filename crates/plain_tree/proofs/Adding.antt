-- What is put into an element, on the rows and on the tree.
use Rattle.std.proofs.Common.{◌≡◌, ℕ, ◌+◌, ◌≤◌, ◌<◌, List, [], ◌∷◌, ◌++◌, Some, Result, Ok, Err, OnOk, length, take, drop, get_or, set, refl, sym, ap, ◌∙◌, arith, append_assoc, append-nil, max, subst}
use Rattle.std.specs.List.{position_or_len, insert}
use Rattle.std.proofs.lemmas.Grind.{common_steps}
use Rattle.std.proofs.Math.Seq.{take-append_seam, set-append_seam}
use Rattle.tree_rows.specs.Forest.{Forest, none, text, element}
use Rattle.tree_rows.specs.Kinds.{kind_of}
use Rattle.tree_rows.specs.Rows.{rows_of, siblings, node}
use Rattle.tree_rows.specs.RowLaws.{Ends}
use Rattle.tree_rows.specs.declared.name.Expanded.{Expanded}
use Rattle.tree_rows.specs.declared.row.Attribute.{Attribute}
use Rattle.tree_rows.specs.declared.row.Binding.{Binding}
use Rattle.tree_rows.specs.declared.row.Row.{Row}
use Rattle.tree_rows.specs.declared.row.Content.{Content}
use Rattle.tree_rows.specs.declared.row.Content.TheVariants as contents
use Rattle.tree_rows.specs.declared.row.NodeKind.TheVariants.{Element}
use Rattle.tree_building.specs.Shape.{AreWhole, AreSound, deepest_with, deepest_row}
use Rattle.tree_edits.specs.EditRows.{is_numbered, ends_at}
use Rattle.tree_edits.specs.Edits.{append, deepest_of, found, replaced}
use Rattle.tree_edits.proofs.Standing.{element_row, rows-append, IsNode, stands, rows-node}
use Rattle.tree_edits.proofs.Placing.{below-rows, deepest-append, deepest-rows, deepest-part}
use Rattle.tree_edits.proofs.Spotting.{standing, top, row_is, behind_is}
use Rattle.tree_edits.proofs.Putting.{whole_from}
use Rattle.plain_tree.specs.Putting.{with_last, with_attribute, with_binding, depth_of, depth_by}
use Rattle.plain_tree.specs.Changes.{Changes, IsEnd}
use Rattle.plain_tree.specs.declared.putting.End.{End}
use Rattle.plain_tree.proofs.KindLaws.{kind_in, kind_found, has_kind, kind_is_found}

-- an element by its row, and the rows around it
pub record Lies (rows : List Row) (key k : ℕ) (row : Row) : Type 0 where
  pub number : ℕ
  pub name : Expanded
  pub bindings : List Binding
  pub attributes : List Attribute
  pub children : Forest
  pub before : List Row
  pub after : List Row
  pub row_is : row ≡ element_row number row.depth name bindings attributes
  pub place : k ≡ length before
  pub rows_are : rows ≡ before ++ (row ∷ (rows_of (row.depth + 1) children ++ after))
  pub ends : Ends (row.depth + 1) after
  pub deep : row.depth ≡ depth_of key (siblings rows 1)
  pub becomes : (change : Forest → Forest) → rows_of 1 (replaced key change (siblings rows 1))
      ≡ before ++ (rows_of row.depth (change (element number name bindings attributes children none)) ++ after)

lies_if : (rows : List Row) (key k : ℕ) (row : Row) (before after : List Row) (depth : ℕ) (it : Forest) → IsNode key it → kind_in it ≡ Some Element
    → found key 1 (siblings rows 1) ≡ Some (record { depth = depth; node = it }) → k ≡ length before → rows ≡ before ++ (rows_of depth it ++ after)
    → Ends (depth + 1) after
    → ((change : Forest → Forest) → rows_of 1 (replaced key change (siblings rows 1)) ≡ before ++ (rows_of depth (change it) ++ after))
    → row ≡ top depth it row → Lies rows key k row
lies_if rows key k row before after depth none i kind f p e ends b is = absurd i
lies_if rows key k row before after depth (text n chars next) i kind f p e ends b is = absurd (cc kind)
lies_if rows key k row before after depth (element n name bindings attributes children next) i kind f p e ends b is =
    let deep : row.depth ≡ depth = ap (λ (r : Row). r.depth) is in
    record {
      number = n;
      name = name;
      bindings = bindings;
      attributes = attributes;
      children = children;
      before = before;
      after = after;
      row_is = is ∙ ap (λ j. element_row n j name bindings attributes) (sym deep);
      place = p;
      rows_are = e ∙ ap (λ g. before ++ (element_row n depth name bindings attributes ∷ ((rows_of (depth + 1) children ++ rows_of depth g) ++ after))) i.1
          ∙ ap (λ l. before ++ (element_row n depth name bindings attributes ∷ (l ++ after))) (append-nil (rows_of (depth + 1) children))
          ∙ ap (λ j. before ++ (element_row n depth name bindings attributes ∷ (rows_of (j + 1) children ++ after))) (sym deep)
          ∙ ap (λ r. before ++ (r ∷ (rows_of (row.depth + 1) children ++ after))) (sym is);
      ends = rw deep ends;
      deep = deep ∙ sym (ap depth_by f);
      becomes = λ change. b change
          ∙ ap (λ g. before ++ (rows_of depth (change (element n name bindings attributes children g)) ++ after)) i.1
          ∙ ap (λ j. before ++ (rows_of j (change (element n name bindings attributes children none)) ++ after)) (sym deep);
    }

-- the row of an element is there
pub there : (rows : List Row) (key k : ℕ) → AreWhole rows → kind_of key (siblings rows 1) ≡ Some Element → k ≡ position_or_len (is_numbered key) rows → k < length rows
there rows key k whole kind at_k =
    let s = stands key 1 (siblings rows 1) (has_kind key (siblings rows 1) Element kind) in
    let first : k ≡ length s.before = at_k ∙ ap (position_or_len (is_numbered key)) whole ∙ s.first in
    let long : length rows ≡ length (s.before ++ (rows_of s.depth s.node ++ s.after)) = ap length (whole ∙ s.rows_are) in
    let more : 1 ≤ length (rows_of s.depth s.node) = rows-node key s.depth s.node s.is_node in
    grind (arith, common_steps, first, long, more)

pub lies : (rows : List Row) (key k : ℕ) (row : Row) → AreWhole rows → kind_of key (siblings rows 1) ≡ Some Element → k ≡ position_or_len (is_numbered key) rows
    → row ≡ get_or rows k row → Lies rows key k row
lies rows key k row whole kind at_k read =
    let s = standing rows key whole (subst (λ j. j < length rows) at_k (there rows key k whole kind at_k)) in
    let kind_is : kind_in s.node ≡ Some Element = sym (ap kind_found s.is_found) ∙ kind_is_found key 1 (siblings rows 1) Element kind in
    lies_if rows key k row s.before s.after s.depth s.node s.is_node kind_is s.is_found (at_k ∙ ap (position_or_len (is_numbered key)) whole ∙ s.first)
    (whole ∙ s.rows_are) s.ends s.becomes (row_is rows key k row whole s at_k read)

module _ (rows : List Row) (key k : ℕ) (row : Row) (e : Lies rows key k row) where
  abbrev pub inside : List Row
  inside = rows_of (row.depth + 1) e.children

  -- no element is too deep
  pub depth_is : deepest_row 0 rows ≤ 128 → row.depth ≤ 128
  depth_is shallow =
      let all = ap (deepest_row 0) e.rows_are ∙ deepest-append 0 e.before (row ∷ (inside ++ e.after)) in
      let content : row.content ≡ contents.Element e.name = ap (λ (r : Row). r.content) e.row_is in
      let own : deepest_row 0 (row ∷ (inside ++ e.after)) ≡ max (row.depth + 0) (deepest_row 0 (inside ++ e.after)) =
      ap (λ c. deepest_with c (row.depth + 0) (deepest_row 0 (inside ++ e.after))) content in
      omega (arith, all, own, shallow)

  -- the rows in three parts
  parts : rows ≡ (e.before ++ (row ∷ inside)) ++ e.after
  parts = e.rows_are ∙ sym (append_assoc e.before (row ∷ inside) e.after)

  pub end_is : (count : ℕ) → count ≡ position_or_len (ends_at row.depth) (drop (k + 1) rows) → IsEnd rows key (record { place = k + 1 + count; depth = row.depth + 1 })
  end_is count is =
      let behind : drop (k + 1) rows ≡ inside ++ e.after =
      ap (λ j. drop (j + 1) rows) e.place ∙ ap (drop (length e.before + 1)) e.rows_are ∙ behind_is e.before row (inside ++ e.after) in
      let size : count ≡ length inside = is ∙ ap (position_or_len (ends_at row.depth)) behind ∙ below-rows row.depth e.children e.after e.ends in
      let front : List Row = e.before ++ (row ∷ inside) in
      let at : k + 1 + count ≡ length front = grind (arith, common_steps, size, e.place) in
      let first : take (k + 1 + count) rows ≡ front = ap (λ j. take j rows) at ∙ ap (take (length front)) parts ∙ take-append_seam front e.after in
      let last : drop (k + 1 + count) rows ≡ e.after = ap (λ j. drop j rows) at ∙ ap (drop (length front)) parts ∙ grind (arith, common_steps) in
      record {
        within = grind (arith, common_steps, at, ap length parts);
        deep = ap (λ d. d + 1) e.deep;
        becomes = λ new. e.becomes (with_last new)
            ∙ ap (λ r. e.before ++ (r ∷ ((rows_of (row.depth + 1) (append e.children new) ++ []) ++ e.after))) (sym e.row_is)
            ∙ ap (λ l. e.before ++ (row ∷ (l ++ e.after))) (append-nil (rows_of (row.depth + 1) (append e.children new)) ∙ rows-append (row.depth + 1) e.children new)
            ∙ ap (λ l. e.before ++ (row ∷ l)) (append_assoc inside (rows_of (row.depth + 1) new) e.after)
            ∙ sym (append_assoc e.before (row ∷ inside) (rows_of (row.depth + 1) new ++ e.after))
            ∙ ap (λ l. l ++ (rows_of (row.depth + 1) new ++ e.after)) (sym first)
            ∙ ap (λ l. take (k + 1 + count) rows ++ (rows_of (row.depth + 1) new ++ l)) (sym last);
      }

  -- another row of the same content
  pub rewritten : (changed : List Row) (other : Row) (change : Forest → Forest) → AreSound rows → changed ≡ set rows k other
      → other.depth ≡ row.depth → other.content ≡ row.content
      → rows_of row.depth (change (element e.number e.name e.bindings e.attributes e.children none)) ≡ other ∷ (inside ++ [])
      → Changes rows changed key change
  rewritten changed other change sound is deep content gives =
      let all : changed ≡ e.before ++ (other ∷ (inside ++ e.after)) =
      is ∙ ap (λ l. set l k other) e.rows_are ∙ ap (λ j. set (e.before ++ (row ∷ (inside ++ e.after))) j other) e.place ∙ set-append_seam e.before row (inside ++ e.after) other in
      let tree : rows_of 1 (replaced key change (siblings rows 1)) ≡ e.before ++ (other ∷ (inside ++ e.after)) =
      e.becomes change ∙ ap (λ l. e.before ++ (l ++ e.after)) gives ∙ ap (λ l. e.before ++ (other ∷ (l ++ e.after))) (append-nil inside) in
      let now = whole_from changed (replaced key change (siblings rows 1)) (all ∙ sym tree) in
      let old_deep = ap (deepest_row 0) e.rows_are ∙ deepest-append 0 e.before (row ∷ (inside ++ e.after)) in
      let new_deep = ap (deepest_row 0) all ∙ deepest-append 0 e.before (other ∷ (inside ++ e.after)) in
      let same : deepest_row 0 (other ∷ (inside ++ e.after)) ≡ deepest_row 0 (row ∷ (inside ++ e.after)) =
      ap (λ c. deepest_with c (other.depth + 0) (deepest_row 0 (inside ++ e.after))) content
      ∙ ap (λ d. deepest_with row.content (d + 0) (deepest_row 0 (inside ++ e.after))) deep in
      record {
        sound = record { whole = now.1; shallow = omega (arith, old_deep, new_deep, same, sound.shallow) };
        gives = now.0;
      }

  pub attribute_put : (changed : List Row) (new : Attribute) → AreSound rows → changed ≡ set rows k (record row { attributes = row.attributes ++ new ∷ [] })
      → Changes rows changed key (with_attribute new)
  attribute_put changed new sound is =
      rewritten changed (record row { attributes = row.attributes ++ new ∷ [] }) (with_attribute new) sound is refl refl
      (ap (λ (r : Row). record r { attributes = r.attributes ++ new ∷ [] } ∷ (inside ++ [])) (sym e.row_is))

  pub binding_put : (changed : List Row) (new : Binding) → AreSound rows → changed ≡ set rows k (record row { bindings = row.bindings ++ new ∷ [] })
      → Changes rows changed key (with_binding new)
  binding_put changed new sound is =
      rewritten changed (record row { bindings = row.bindings ++ new ∷ [] }) (with_binding new) sound is refl refl
      (ap (λ (r : Row). record r { bindings = r.bindings ++ new ∷ [] } ∷ (inside ++ [])) (sym e.row_is))

-- the row of a node alone
alone : (depth number : ℕ) (content : Content)
    → rows_of depth (node number content [] [] none none) ≡ record { number = number; depth = depth; content = content; bindings = []; attributes = [] } ∷ []
alone depth number (contents.Element name) = refl
alone depth number (contents.Chars chars) = refl

-- a row that is put at the end of an element is its last child
pub node_put : (rows changed : List Row) (key number : ℕ) (content : Content) (end : End) → AreSound rows → IsEnd rows key end
    → deepest_of (depth_of key (siblings rows 1) + 1) (node number content [] [] none none) ≤ 128
    → changed ≡ insert rows end.place (record { number = number; depth = end.depth; content = content; bindings = []; attributes = [] })
    → Changes rows changed key (with_last (node number content [] [] none none))
node_put rows changed key number content end sound e shallow is =
    let new : Forest = node number content [] [] none none in
    let all : changed ≡ take end.place rows ++ (rows_of end.depth new ++ drop end.place rows) =
    is ∙ ap (λ l. take end.place rows ++ (l ++ drop end.place rows)) (sym (alone end.depth number content)) in
    let now = whole_from changed (replaced key (with_last new) (siblings rows 1)) (all ∙ sym (e.becomes new)) in
    let zero : end.depth + 0 ≡ depth_of key (siblings rows 1) + 1 = omega (arith, e.deep) in
    let own : deepest_row 0 (rows_of end.depth new) ≡ deepest_of (depth_of key (siblings rows 1) + 1) new =
    deepest-rows 0 end.depth new ∙ ap (λ d. deepest_of d new) zero in
    let outer = ap (deepest_row 0) all ∙ deepest-append 0 (take end.place rows) (rows_of end.depth new ++ drop end.place rows) in
    let inner = deepest-append 0 (rows_of end.depth new) (drop end.place rows) in
    let part = deepest-part 0 end.place rows in
    record {
      sound = record { whole = now.1; shallow = omega (arith, outer, inner, own, part.0, part.1, sound.shallow, shallow) };
      gives = now.0;
    }

-- what holds after a call that ended well
pub on_ok : {T E : Type 0} (r : Result T E) (P Q : Type 0) → OnOk r P → (P → Q) → OnOk r Q
on_ok (Ok x) P Q p f = f p
on_ok (Err e) P Q p f = tt
