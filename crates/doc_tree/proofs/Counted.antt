-- How many nodes a changed document has.
use Rattle.std.proofs.Common.{◌≡◌, ℕ, ◌+◌, [], length, ap, ◌∙◌, refl, append-nil, arith, Option}
use Rattle.xs_names.specs.Names.{NameTable}
use Rattle.tree_rows.specs.Forest.{none, text, element, Document, count}
use Rattle.tree_edits.specs.Changes.{with_name, with_attributes}
use Rattle.tree_edits.specs.Edits.{Found, with_children, with_chars}
use Rattle.tree_edits.proofs.Keeping.{joins_at}
use Rattle.tree_edits.proofs.Lying.{lies, count_changed}
use Rattle.tree_edits.specs.Inverses.{changed, inverse_of, Fits, written, put_back, take_out, rename, write, reword}
use Rattle.tree_edits.specs.Inverses as law
use Rattle.tree_edits.specs.Sites.{node_of, node_by}
use Rattle.tree_edits.proofs.InverseLying.{found_has, element_at, text_at}
use Rattle.doc_tree.specs.Changes.{Means, put_count}
use Rattle.doc_tree.specs.declared.change.Change.{Change}
use Rattle.doc_tree.specs.declared.change.Change.TheVariants as changes
use Rattle.doc_tree.proofs.InverseRows.{rows_front}

-- how many nodes a change of a document puts back
part_count : law.Change → ℕ
part_count (put_back parent place f) = count f
part_count (take_out key) = 0
part_count (rename key name) = 0
part_count (write key name place value) = 0
part_count (reword key chars) = 0

put_counted : (t : NameTable) (change : Change) (c : law.Change) → Means t change c → put_count change ≡ part_count c
unfolding part_count
put_counted t (changes.PutBack p k rows) (put_back parent place f) m = let r = rows_front t 1 rows f [] m.2 in ap length r.are ∙ ap length (append-nil r.front) ∙ r.many
put_counted t (changes.Take node) (take_out key) m = refl
put_counted t (changes.Name node n) (rename key name) m = refl
put_counted t (changes.Attr node n k v) (write key name place value) m = refl
put_counted t (changes.Chars node chars) (reword key other) m = refl
put_counted t change c m = absurd m

counts : (d : Document) (c : law.Change) → Fits d c → count (changed d c).forest + part_count (inverse_of d c) ≡ count d.forest + part_count c
unfolding part_count
counts d (put_back parent place part) fits =
    let e = element_at parent d.forest fits.element in
    let it : Found = record { depth = e.depth; node = element parent e.name e.bindings e.attributes e.children none } in
    let a = count_changed parent 1 (with_children place part) d.forest it (lies parent 1 d.forest it e.is_found) in
    let b = (joins_at place part e.children).size in
    omega (arith, a, b)
counts d (take_out key) fits =
    let f = found_has key 1 d.forest fits.0 in
    let a = count_changed key 1 (λ node. none) d.forest f.0 (lies key 1 d.forest f.0 f.1) in
    let b : count (node_of key d.forest) ≡ count f.0.node = ap (λ (o : Option Found). count (node_by o)) f.1 in
    omega (arith, a, b)
counts d (rename key name) fits =
    let e = element_at key d.forest fits.0 in
    let it : Found = record { depth = e.depth; node = element key e.name e.bindings e.attributes e.children none } in
    let a = count_changed key 1 (with_name name) d.forest it (lies key 1 d.forest it e.is_found) in
    omega (arith, a)
counts d (write key name place value) fits =
    let e = element_at key d.forest fits.0 in
    let it : Found = record { depth = e.depth; node = element key e.name e.bindings e.attributes e.children none } in
    let a = count_changed key 1 (with_attributes (written name place value)) d.forest it (lies key 1 d.forest it e.is_found) in
    omega (arith, a)
counts d (reword key chars) fits =
    let e = text_at key d.forest fits in
    let it : Found = record { depth = e.depth; node = text key e.chars none } in
    let a = count_changed key 1 (with_chars chars) d.forest it (lies key 1 d.forest it e.is_found) in
    omega (arith, a)

pub nodes_counted : (t : NameTable) (d : Document) (c : law.Change) (change back : Change) → Fits d c → Means t change c → Means t back (inverse_of d c)
    → count (changed d c).forest + put_count back ≡ count d.forest + put_count change
nodes_counted t d c change back fits means inverse =
    let a = put_counted t change c means in let b = put_counted t back (inverse_of d c) inverse in let e = counts d c fits in omega (arith, a, b, e)
