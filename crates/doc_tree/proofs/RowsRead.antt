-- Rows that are read one after the other.
use Rattle.std.proofs.Common.{◌≡◌, ◌⊎◌, ℕ, ◌+◌, ◌≤◌, List, [], ◌∷◌, ◌++◌, length, append_assoc, append-nil, sym, ap, ◌∙◌, subst, ◌==◌, if◌then◌else◌, Some, None, refl, inl, inr, arith}
use Rattle.std.specs.Prelude.{slice_get}
use Rattle.std.proofs.lemmas.Bool.{eq-eqb}
use Rattle.std.proofs.lemmas.List.{length-append}
use Rattle.std.proofs.lemmas.Option.{same_Some, none-some}
use Rattle.xs_names.specs.Names.{NameTable}
use Rattle.tree_rows.specs.Forest.{Forest, none, text, element, count, deepest_of}
use Rattle.tree_rows.specs.Whole.{times}
use Rattle.tree_edits.specs.Edits.{append}
use Rattle.tree_edits.proofs.Lying.{count-append, deepest_append}
use Rattle.doc_nodes.specs.Nodes.{Node, Nodes, node, IsNode, Has, children_by, depth_by}
use Rattle.doc_nodes.proofs.Among.{has-middle}
use Rattle.doc_changes.specs.Parts.{IsOver}
use Rattle.doc_changes.specs.Stands.{firsts, StandFor}
use Rattle.doc_changes.proofs.Standing.{stand_parts, firsts_append, append_assoc_forest, append_none, times_append, absent_times}
use Rattle.doc_tree.specs.Parts.{AreRows}
use Rattle.doc_tree.specs.inside.Reading.{ReadsOn, ReadSoFar}
use Rattle.doc_tree.specs.declared.part.PartRow.{PartRow}
use Rattle.doc_tree.proofs.InverseRows.{rows_behind}

got_behind : (xs ys : List ℕ) → slice_get (xs ++ ys) (length xs) ≡ slice_get ys 0
got_behind [] ys = refl
got_behind (x ∷ xs) ys = got_behind xs ys

-- the first of the siblings that are left
pub record Head (t : NameTable) (ns : Nodes) (high : ℕ) (next : Forest) (child : ℕ) : Type 0 where
  pub one : Forest
  pub rest : Forest
  pub split : next ≡ append one rest
  pub first : firsts one ≡ child ∷ []
  pub it : Node
  pub is : IsNode ns child it
  pub deeper : it.depth ≡ high + 1
  pub below : Forest
  pub over : IsOver t ns child below
  pub rows : (depth : ℕ) (more : List PartRow) → AreRows t (depth + 1) more below [] → AreRows t depth (record { number = child; depth = depth; content = it.content } ∷ more) one []

module _ (t : NameTable) (ns : Nodes) (n : ℕ) (below : Forest) (over : IsOver t ns n below) where
  pub begun : (depth : ℕ) (rows : List PartRow) → ReadSoFar t depth rows rows below 0
  begun depth rows = record { gone = none; next = below; split = refl; counted = refl; reads = record { more = []; are = sym (append-nil rows); rows = refl } }

  children_are : children_by (node ns n) ≡ firsts below
  children_are = ap children_by over.is ∙ over.children

  pub level : depth_by (node ns n) ≡ over.it.depth
  level = ap depth_by over.is

  module _ (gone next : Forest) (split : below ≡ append gone next) where
    parted : firsts below ≡ firsts gone ++ firsts next
    parted = ap firsts split ∙ firsts_append gone next

    pub at_next : slice_get (children_by (node ns n)) (length (firsts gone)) ≡ slice_get (firsts next) 0
    at_next = ap (λ l. slice_get l (length (firsts gone))) (children_are ∙ parted) ∙ got_behind (firsts gone) (firsts next)

    next_stands : StandFor t ns next
    next_stands = (stand_parts t ns gone next (subst (StandFor t ns) split over.stand)).1

    shallow_next : deepest_of (over.it.depth + 1) next ≤ 128
    shallow_next = let a = ap (deepest_of (over.it.depth + 1)) split in let b = deepest_append (over.it.depth + 1) gone next in let c = over.shallow in omega (arith, a, b, c)

    times_next : (m : ℕ) → times m next ≤ 1
    times_next m = let a = ap (times m) split in let b = times_append m gone next in let c = over.differ m in omega (arith, a, b, c)

    few_next : count next ≤ 131072
    few_next = let a = ap count split in let b = count-append gone next in let c = over.few in omega (arith, a, b, c)

    child_deeper : (m : ℕ) (more : List ℕ) → firsts next ≡ m ∷ more → (it : Node) → IsNode ns m it → it.depth ≡ over.it.depth + 1
    child_deeper m more e it is =
        let has : Has m over.it.children = subst (Has m) (sym (over.children ∙ parted ∙ ap (λ l. firsts gone ++ l) e)) (has-middle m (firsts gone) more) in
        let d = over.sound.down n m over.it over.is has in
        ap (λ (x : Node). x.depth) (same_Some it d.child (sym is ∙ d.is)) ∙ d.below

    -- there is a child, so the node is not too deep
    pub high : (m : ℕ) (more : List ℕ) → firsts next ≡ m ∷ more → over.it.depth ≤ 128
    high m more e = by over.high
      where
        by : (below ≡ none) ⊎ (over.it.depth ≤ 128) → over.it.depth ≤ 128
        by (inl k) =
            let a = ap (λ f. length (firsts f)) k in let b = ap length parted in let c = length-append (firsts gone) (firsts next) in let l = ap length e in
            absurd (omega (arith, a, b, c, l))
        by (inr k) = k

head_by : (t : NameTable) (ns : Nodes) (n : ℕ) (below : Forest) (over : IsOver t ns n below) (gone next : Forest) (split : below ≡ append gone next) (child : ℕ) → slice_get (firsts next) 0 ≡ Some child
    → StandFor t ns next → ((m : ℕ) (more : List ℕ) → firsts next ≡ m ∷ more → (it : Node) → IsNode ns m it → it.depth ≡ over.it.depth + 1) → deepest_of (over.it.depth + 1) next ≤ 128
    → ((m : ℕ) → times m next ≤ 1) → count next ≤ 131072 → Head t ns over.it.depth next child
head_by t ns n below over front none split child e s deep shallow differ few = absurd (none-some child e)
head_by t ns n below over front (text m chars next) split child e s deep shallow differ few =
    subst (Head t ns over.it.depth (text m chars next)) (same_Some m child e) (record {
      one = text m chars none;
      rest = next;
      split = refl;
      first = refl;
      it = s.0.text;
      is = s.0.is;
      deeper = deep m (firsts next) refl s.0.text s.0.is;
      below = none;
      over = record {
        it = s.0.text;
        is = s.0.is;
        children = s.0.no_children;
        stand = tt;
        differ = λ j. omega arith;
        outside = refl;
        high = inl refl;
        shallow = omega arith;
        few = omega arith;
        sound = over.sound;
      };
      rows = λ depth more a. (more, ap (λ c. record { number = m; depth = depth; content = c } ∷ more) s.0.content, a);
    })
head_by t ns n below over front (element m name bindings attributes children next) split child e s deep shallow differ few =
    let d = deep m (firsts next) refl s.0.it s.0.is in
    subst (Head t ns over.it.depth (element m name bindings attributes children next)) (same_Some m child e) (record {
      one = element m name bindings attributes children none;
      rest = next;
      split = refl;
      first = refl;
      it = s.0.it;
      is = s.0.is;
      deeper = d;
      below = children;
      over = record {
        it = s.0.it;
        is = s.0.is;
        children = s.0.children_are;
        stand = s.1;
        differ = λ j. let a = differ j in omega (arith, a);
        outside = absent_times m children (
            let a = differ m in let own : ◌≡◌ {A = ℕ} (if m == m then 1 else 0) 1 = ap (λ b. if b then 1 else 0) (eq-eqb m m refl) in omega (arith, a, own)
            );
        high = inr (omega (arith, d, shallow));
        shallow = (let a = ap (λ k. deepest_of (k + 1) children) d in omega (arith, a, shallow));
        few = omega (arith, few);
        sound = over.sound;
      };
      rows = λ depth more a. (
        s.0.parts,
        record { known = s.0.known; name_is = s.0.name_is; bindings_are = s.0.bindings_are; attributes_are = s.0.attributes_are },
        more,
        ap (λ c. record { number = m; depth = depth; content = c } ∷ more) s.0.content,
        [],
        a,
        refl,
      );
    })

module _ (t : NameTable) (ns : Nodes) (n : ℕ) (below : Forest) (over : IsOver t ns n below) (depth : ℕ) (old now : List PartRow) (place : ℕ) (so : ReadSoFar t depth old now below place) where
  next_at : slice_get (children_by (node ns n)) place ≡ slice_get (firsts so.next) 0
  next_at = ap (slice_get (children_by (node ns n))) so.counted ∙ at_next t ns n below over so.gone so.next so.split

  pub head : (child : ℕ) → Some child ≡ slice_get (children_by (node ns n)) place → Head t ns over.it.depth so.next child
  head child e =
      head_by t ns n below over so.gone so.next so.split child (sym next_at ∙ sym e) (next_stands t ns n below over so.gone so.next so.split)
      (child_deeper t ns n below over so.gone so.next so.split) (shallow_next t ns n below over so.gone so.next so.split)
      (times_next t ns n below over so.gone so.next so.split) (few_next t ns n below over so.gone so.next so.split)

  pub room : (child : ℕ) (e : Some child ≡ slice_get (children_by (node ns n)) place) → (over.it.depth ≤ 128) × (place + 1 ≤ 131072)
  room child e =
      let h = head child e in
      let f : firsts so.next ≡ child ∷ firsts h.rest = ap firsts h.split ∙ firsts_append h.one h.rest ∙ ap (λ l. l ++ firsts h.rest) h.first in (
        high t ns n below over so.gone so.next so.split child (firsts h.rest) f,
        (
            let a = ap count so.split in let b = count-append so.gone so.next in let c = over.few in let k = so.counted in
            let l = many so.gone in let x = ap count h.split in let y = count-append h.one h.rest in let z = many h.one in let w = ap length h.first in omega (arith, a, b, c, k, l, x, y, z, w)
            ),
      )
    where
      many : (f : Forest) → length (firsts f) ≤ count f
      many none = omega arith
      many (text m chars next) = let i = many next in omega (arith, i)
      many (element m name bindings attributes children next) = let i = many next in omega (arith, i)

  pub next_so : (child : ℕ) (e : Some child ≡ slice_get (children_by (node ns n)) place) (row : PartRow) (pushed new : List PartRow)
      → row ≡ record { number = child; depth = depth; content = (head child e).it.content } → pushed ≡ now ++ row ∷ [] → ReadsOn t (depth + 1) pushed new (head child e).below
      → ReadSoFar t depth old new below (place + 1)
  next_so child e row pushed new is push reads =
      let h = head child e in record {
        gone = append so.gone h.one;
        next = h.rest;
        split = so.split ∙ ap (append so.gone) h.split ∙ sym (append_assoc_forest so.gone h.one h.rest);
        counted = (
            let a = so.counted in let b = ap length (firsts_append so.gone h.one) in let c = length-append (firsts so.gone) (firsts h.one) in let w = ap length h.first in omega (arith, a, b, c, w)
            );
        reads = record {
          more = so.reads.more ++ (row ∷ reads.more);
          are = reads.are ∙ ap (λ l. l ++ reads.more) push ∙ append_assoc now (row ∷ []) reads.more ∙ ap (λ l. l ++ (row ∷ reads.more)) so.reads.are ∙ append_assoc old so.reads.more (row ∷ reads.more);
          rows = rows_behind t depth so.reads.more (row ∷ reads.more) so.gone h.one so.reads.rows
              (subst (λ r. AreRows t depth (r ∷ reads.more) h.one []) (sym is) (h.rows depth reads.more reads.rows));
        };
      }

  pub ended : None ≡ slice_get (children_by (node ns n)) place → ReadsOn t depth old now below
  ended e = subst (ReadsOn t depth old now) (sym (so.split ∙ ap (append so.gone) (last so.next (e ∙ next_at)) ∙ append_none so.gone)) so.reads
    where
      last : (f : Forest) → None ≡ slice_get (firsts f) 0 → f ≡ none
      last none k = refl
      last (text m chars next) k = absurd (none-some m k)
      last (element m name bindings attributes children next) k = absurd (none-some m k)
