-- Rows of siblings, one after the other.
use Rattle.std.proofs.Common.{◌≡◌, ℕ, ◌+◌, ◌<◌, ◌≤◌, List, [], ◌∷◌, ◌++◌, length, drop, get_or, append_assoc, sym, ap, ◌∙◌, subst, true, false, refl, arith}
use Rattle.std.proofs.Math.Seq.{drop-append_seam}
use Rattle.std.proofs.lemmas.Bool.{eq-eqb, eqb-true, false≢true, true≢false}
use Rattle.std.proofs.lemmas.List.{length-append}
use Rattle.xs_names.specs.Names.{NameTable}
use Rattle.tree_rows.specs.Forest.{Forest, none, text, element, count}
use Rattle.tree_rows.specs.declared.name.Expanded.{Expanded}
use Rattle.tree_rows.specs.declared.row.Attribute.{Attribute}
use Rattle.tree_rows.specs.declared.row.Binding.{Binding}
use Rattle.tree_edits.specs.Edits.{append}
use Rattle.doc_nodes.specs.declared.content.Content.TheVariants as contents
use Rattle.doc_nodes.specs.declared.content.Element.{Element}
use Rattle.doc_changes.specs.Named.{IsCalled}
use Rattle.tree_edits.specs.Inverses.{IsOne}
use Rattle.tree_edits.specs.Sites.{first_number}
use Rattle.doc_tree.specs.Parts.{AreRows}
use Rattle.doc_tree.specs.inside.Putting.{Stops, begins}
use Rattle.doc_tree.specs.declared.part.PartRow.{PartRow}

-- more rows behind them
pub rows_more : (t : NameTable) (depth : ℕ) (rows : List PartRow) (f : Forest) (left more : List PartRow) → AreRows t depth rows f left → AreRows t depth (rows ++ more) f (left ++ more)
rows_more t depth rows none left more a = ap (λ l. l ++ more) a
rows_more t depth rows (text n chars next) left more a = (a.0 ++ more, ap (λ l. l ++ more) a.1, rows_more t depth a.0 next left more a.2)
rows_more t depth rows (element n name bindings attributes children next) left more a =
    (a.0, a.1, a.2 ++ more, ap (λ l. l ++ more) a.3, a.4 ++ more, rows_more t (depth + 1) a.2 children a.4 more a.5, rows_more t depth a.4 next left more a.6)

pub rows_then : (t : NameTable) (depth : ℕ) (rows : List PartRow) (f g : Forest) (mid left : List PartRow) → AreRows t depth rows f mid → AreRows t depth mid g left → AreRows t depth rows (append f g) left
rows_then t depth rows none g mid left a b = subst (λ l. AreRows t depth l g left) (sym a) b
rows_then t depth rows (text n chars next) g mid left a b = (a.0, a.1, rows_then t depth a.0 next g mid left a.2 b)
rows_then t depth rows (element n name bindings attributes children next) g mid left a b = (a.0, a.1, a.2, a.3, a.4, a.5, rows_then t depth a.4 next g mid left a.6 b)

pub rows_behind : (t : NameTable) (depth : ℕ) (xs ys : List PartRow) (f g : Forest) → AreRows t depth xs f [] → AreRows t depth ys g [] → AreRows t depth (xs ++ ys) (append f g) []
rows_behind t depth xs ys f g a b = rows_then t depth (xs ++ ys) f g ys [] (rows_more t depth xs f [] ys a) b

-- there are as many as nodes
pub record Front (rows left : List PartRow) (size : ℕ) : Type 0 where
  pub front : List PartRow
  pub are : rows ≡ front ++ left
  pub many : length front ≡ size

pub rows_front : (t : NameTable) (depth : ℕ) (rows : List PartRow) (f : Forest) (left : List PartRow) → AreRows t depth rows f left → Front rows left (count f)
rows_front t depth rows none left a = record { front = []; are = a; many = refl }
rows_front t depth rows (text n chars next) left a =
    let i = rows_front t depth a.0 next left a.2 in
    let row : PartRow = record { number = n; depth = depth; content = contents.Chars chars } in
    record { front = row ∷ i.front; are = a.1 ∙ ap (λ l. row ∷ l) i.are; many = (let s = i.many in omega (arith, s)) }
rows_front t depth rows (element n name bindings attributes children next) left a =
    let i = rows_front t (depth + 1) a.2 children a.4 a.5 in
    let j = rows_front t depth a.4 next left a.6 in
    let row : PartRow = record { number = n; depth = depth; content = contents.Element a.0 } in
    record {
      front = row ∷ (i.front ++ j.front);
      are = a.3 ∙ ap (λ l. row ∷ l) (i.are ∙ ap (λ l. i.front ++ l) j.are ∙ sym (append_assoc i.front j.front left));
      many = (let s = i.many in let k = j.many in let l = length-append i.front j.front in omega (arith, s, k, l));
    }

pub rows_left : (t : NameTable) (depth : ℕ) (rows : List PartRow) (f : Forest) (left : List PartRow) → AreRows t depth rows f left → (drop (count f) rows ≡ left) × (count f ≤ length rows)
rows_left t depth rows f left a =
    let i = rows_front t depth rows f left a in (
      ap (drop (count f)) i.are ∙ ap (λ n. drop n (i.front ++ left)) (sym i.many) ∙ drop-append_seam i.front left,
      (let e = ap length i.are in let l = length-append i.front left in let s = i.many in omega (arith, e, l, s)),
    )

-- the first of some siblings, and the others
pub record Step (t : NameTable) (depth : ℕ) (rows : List PartRow) (next : Forest) (left : List PartRow) : Type 0 where
  pub one : Forest
  pub rest : Forest
  pub mid : List PartRow
  pub split : next ≡ append one rest
  pub own : IsOne one
  pub rows_one : AreRows t depth rows one mid
  pub rows_rest : AreRows t depth mid rest left
  pub stops : Stops (depth + 1) mid

stops_weaker : (depth : ℕ) (left : List PartRow) → Stops depth left → Stops (depth + 1) left
stops_weaker depth [] s = tt
stops_weaker depth (row ∷ more) s = omega (arith, s)

stops_before : (t : NameTable) (depth : ℕ) (rows : List PartRow) (f : Forest) (left : List PartRow) → AreRows t depth rows f left → Stops depth left → Stops (depth + 1) rows
stops_before t depth rows none left a s = subst (Stops (depth + 1)) (sym a) (stops_weaker depth left s)
stops_before t depth rows (text n chars next) left a s = subst (Stops (depth + 1)) (sym a.1) (omega arith)
stops_before t depth rows (element n name bindings attributes children next) left a s = subst (Stops (depth + 1)) (sym a.3) (omega arith)

begins_not : (depth : ℕ) (left : List PartRow) → Stops depth left → begins depth left ≡ true → ⊥
begins_not depth [] s h = false≢true h
begins_not depth (row ∷ more) s h = let e = eqb-true row.depth depth h in omega (arith, s, e)

pub step : (t : NameTable) (depth : ℕ) (rows : List PartRow) (next : Forest) (left : List PartRow) → AreRows t depth rows next left → Stops depth left → begins depth rows ≡ true → Step t depth rows next left
step t depth rows none left a s h = absurd (begins_not depth left s (ap (begins depth) (sym a) ∙ h))
step t depth rows (text n chars next) left a s h = record {
  one = text n chars none;
  rest = next;
  mid = a.0;
  split = refl;
  own = refl;
  rows_one = (a.0, a.1, refl);
  rows_rest = a.2;
  stops = stops_before t depth a.0 next left a.2 s;
}
step t depth rows (element n name bindings attributes children next) left a s h = record {
  one = element n name bindings attributes children none;
  rest = next;
  mid = a.4;
  split = refl;
  own = refl;
  rows_one = (a.0, a.1, a.2, a.3, a.4, a.5, refl);
  rows_rest = a.6;
  stops = stops_before t depth a.4 next left a.6 s;
}

pub no_more : (t : NameTable) (depth : ℕ) (rows : List PartRow) (next : Forest) (left : List PartRow) → AreRows t depth rows next left → begins depth rows ≡ false → next ≡ none
no_more t depth rows none left a h = refl
no_more t depth rows (text n chars next) left a h = absurd (true≢false (sym (ap (begins depth) a.1 ∙ eq-eqb depth depth refl) ∙ h))
no_more t depth rows (element n name bindings attributes children next) left a h = absurd (true≢false (sym (ap (begins depth) a.3 ∙ eq-eqb depth depth refl) ∙ h))

-- one node by its row
first_row : (rows : List PartRow) (x : PartRow) (more : List PartRow) (row : PartRow) → rows ≡ x ∷ more → row ≡ get_or rows 0 row → row ≡ x
first_row rows x more row e is = is ∙ ap (λ l. get_or l 0 row) e

pub some_row : (t : NameTable) (depth : ℕ) (rows : List PartRow) (f : Forest) (left : List PartRow) → AreRows t depth rows f left → IsOne f → 0 < length rows
some_row t depth rows none left a o = absurd o
some_row t depth rows (text n chars next) left a o = let e = ap length a.1 in omega (arith, e)
some_row t depth rows (element n name bindings attributes children next) left a o = let e = ap length a.3 in omega (arith, e)

pub row_number : (t : NameTable) (depth : ℕ) (rows : List PartRow) (f : Forest) (left : List PartRow) (row : PartRow) → AreRows t depth rows f left → IsOne f → row ≡ get_or rows 0 row
    → (row.number ≡ first_number f) × (row.depth ≡ depth)
row_number t depth rows none left row a o is = absurd o
row_number t depth rows (text n chars next) left row a o is =
    let e = first_row rows (record { number = n; depth = depth; content = contents.Chars chars }) a.0 row a.1 is in (ap (λ (r : PartRow). r.number) e, ap (λ (r : PartRow). r.depth) e)
row_number t depth rows (element n name bindings attributes children next) left row a o is =
    let e = first_row rows (record { number = n; depth = depth; content = contents.Element a.0 }) a.2 row a.3 is in (ap (λ (r : PartRow). r.number) e, ap (λ (r : PartRow). r.depth) e)

not_text : (e : Element) (chars : List ℕ) → contents.Element e ≡ contents.Chars chars → ⊥
not_text e chars p = cc p

same_chars : (a b : List ℕ) → contents.Chars a ≡ contents.Chars b → a ≡ b
same_chars a b p = cc p

same_element : (a b : Element) → contents.Element a ≡ contents.Element b → a ≡ b
same_element a b p = cc p

pub text_row : (t : NameTable) (depth : ℕ) (rows : List PartRow) (f : Forest) (left : List PartRow) (row : PartRow) (chars : List ℕ) → AreRows t depth rows f left → IsOne f → row ≡ get_or rows 0 row
    → row.content ≡ contents.Chars chars → f ≡ text row.number chars none
text_row t depth rows none left row chars a o is c = absurd o
text_row t depth rows (text n old next) left row chars a o is c =
    let e = first_row rows (record { number = n; depth = depth; content = contents.Chars old }) a.0 row a.1 is in
    let k = same_chars old chars (sym (ap (λ (r : PartRow). r.content) e) ∙ c) in
    λ i. text (sym (ap (λ (r : PartRow). r.number) e) i) (k i) (o i)
text_row t depth rows (element n name bindings attributes children next) left row chars a o is c =
    let e = first_row rows (record { number = n; depth = depth; content = contents.Element a.0 }) a.2 row a.3 is in
    absurd (not_text a.0 chars (sym (ap (λ (r : PartRow). r.content) e) ∙ c))

pub record ElementRow (t : NameTable) (depth : ℕ) (rows : List PartRow) (f : Forest) (left : List PartRow) (row : PartRow) (parts : Element) : Type 0 where
  pub name : Expanded
  pub bindings : List Binding
  pub attributes : List Attribute
  pub children : Forest
  pub is : f ≡ element row.number name bindings attributes children none
  pub called : IsCalled t parts name bindings attributes
  pub below : AreRows t (depth + 1) (drop 1 rows) children left

pub element_row : (t : NameTable) (depth : ℕ) (rows : List PartRow) (f : Forest) (left : List PartRow) (row : PartRow) (parts : Element) → AreRows t depth rows f left → IsOne f → row ≡ get_or rows 0 row
    → row.content ≡ contents.Element parts → ElementRow t depth rows f left row parts
element_row t depth rows none left row parts a o is c = absurd o
element_row t depth rows (text n old next) left row parts a o is c =
    let e = first_row rows (record { number = n; depth = depth; content = contents.Chars old }) a.0 row a.1 is in
    absurd (not_text parts old (sym c ∙ ap (λ (r : PartRow). r.content) e))
element_row t depth rows (element n name bindings attributes children next) left row parts a o is c =
    let e = first_row rows (record { number = n; depth = depth; content = contents.Element a.0 }) a.2 row a.3 is in
    let k = same_element a.0 parts (sym (ap (λ (r : PartRow). r.content) e) ∙ c) in
    let last : a.4 ≡ left = subst (λ g. AreRows t depth a.4 g left) o a.6 in
    record {
      name = name;
      bindings = bindings;
      attributes = attributes;
      children = children;
      is = λ i. element (sym (ap (λ (r : PartRow). r.number) e) i) name bindings attributes children (o i);
      called = subst (λ x. IsCalled t x name bindings attributes) k a.1;
      below = subst (λ l. AreRows t (depth + 1) l children left) (sym (ap (drop 1) a.3)) (subst (AreRows t (depth + 1) a.2 children) last a.5);
    }
