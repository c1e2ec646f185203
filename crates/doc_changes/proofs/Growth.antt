-- Siblings that are put behind the children of a node, one after the other.
use Rattle.std.proofs.Common.{◌≡◌, ◌≢◌, ℕ, ◌+◌, ◌<◌, ◌≤◌, ◌^◌, List, [], ◌∷◌, ◌++◌, length, insert, take, drop, sym, ap, ◌∙◌, subst, true, false, ◌==◌, ◌||◌, if◌then◌else◌, Some, None, refl, arith, append_assoc, append-nil}
use Rattle.std.specs.List.{insert_slice}
use Rattle.std.proofs.lemmas.Bool.{or_parts, or_left, or_right, eq-eqb, true≢false, false≢true, false_from_ne_true}
use Rattle.std.proofs.lemmas.Option.{none-some}
use Rattle.xs_names.specs.Names.{NameTable, Grown, IsSound}
use Rattle.xs_names.proofs.GrownLaws.{Grown-refl, Grown-trans}
use Rattle.tree_rows.specs.Forest.{Forest, none, text, element, count, deepest_of}
use Rattle.tree_rows.specs.Rows.{node as node_of}
use Rattle.tree_rows.specs.Whole.{times, IsNamed}
use Rattle.tree_rows.specs.declared.name.Expanded.{Expanded}
use Rattle.tree_rows.specs.declared.row.Attribute.{Attribute}
use Rattle.tree_rows.specs.declared.row.Binding.{Binding}
use Rattle.tree_rows.specs.declared.row.Row.{Row}
use Rattle.tree_rows.specs.declared.row.Content.{Content}
use Rattle.tree_rows.specs.declared.row.Content.TheVariants as rows
use Rattle.tree_edits.specs.Edits.{has, append}
use Rattle.tree_edits.proofs.BlockNaming.{HaveNames}
use Rattle.tree_edits.proofs.Lying.{count-append, deepest_append}
use Rattle.doc_nodes.specs.declared.content.Content as contents_of
use Rattle.doc_nodes.specs.declared.content.Content.TheVariants as contents
use Rattle.doc_nodes.specs.declared.content.Element.{Element}
use Rattle.doc_nodes.specs.Nodes.{Node, Nodes, node, IsNode, Inserts, IsSound as AreSound}
use Rattle.doc_changes.specs.Stands.{firsts}
use Rattle.doc_changes.proofs.Standing.{stand_same, stand_append, stand_grown, firsts_append, append_assoc_forest, append_none, has_append, has_left, has_right, times_append, has_times}
use Rattle.doc_changes.specs.Named.{IsCalled}
use Rattle.doc_changes.proofs.PlantedNames.{called_grown}
use Rattle.doc_changes.specs.inside.Growing.{PutsElement, numbered_by, behind, at_end, before, one_of, AreFree, CanPlant, Planted, PlantedFirst}
use Rattle.doc_changes.proofs.Numbering.{behind_none, behind_more, numbered_none, numbered_text, numbered_element, numbered_node}
use Rattle.plain_tree.specs.Found.{HasNames}
use Rattle.doc_changes.proofs.Known.{known_next}

-- lists with new items
pub slice_at_end : (xs ys : List ℕ) → insert_slice xs (length xs) ys ≡ xs ++ ys
slice_at_end [] ys = append-nil ys
slice_at_end (x ∷ xs) ys = ap (λ l. x ∷ l) (slice_at_end xs ys)

pub slice_of_one : (xs : List ℕ) (i n : ℕ) → insert xs i n ≡ insert_slice xs i (n ∷ [])
slice_of_one xs i n = sym (append_assoc (take i xs) (n ∷ []) (drop i xs))

not_number : (n m : ℕ) → (n == m) ≡ false → m ≢ n
not_number n m h e = true≢false (sym (eq-eqb n m (sym e)) ∙ h)

pub planted_none : (t : NameTable) (ns : Nodes) (p : ℕ) → AreSound ns → Planted t ns ns p at_end none
planted_none t ns p sound = record {
  size = refl;
  parent = λ it h. h ∙ ap (λ l. Some (record it { children = l })) (sym (append-nil it.children));
  stand = tt;
  others = λ m h d. refl;
  sound = sound;
}

-- some, and then others
pub planted_append : (t : NameTable) (old now new : Nodes) (p : ℕ) (f g : Forest) → Planted t old now p at_end f → Planted t now new p at_end g
    → ((m : ℕ) → has m f ≡ true → (has m g ≡ false) × (m ≢ p)) → Planted t old new p at_end (append f g)
planted_append t old now new p f g a b apart = record {
  size = b.size ∙ a.size;
  parent = λ it h.
      b.parent (record it { children = it.children ++ firsts f }) (a.parent it h)
      ∙ ap (λ l. Some (record it { children = l })) (append_assoc it.children (firsts f) (firsts g) ∙ ap (λ l. it.children ++ l) (sym (firsts_append f g)));
  stand = stand_append t new f g (stand_same t now new f (λ m h. b.others m (apart m h).0 (apart m h).1) a.stand) b.stand;
  others = λ m h d. let z = has_append m f g h in b.others m z.1 d ∙ a.others m z.0 d;
  sound = b.sound;
}

-- what was put behind the last child
pub planted_last : (t : NameTable) (old new : Nodes) (p place : ℕ) (f : Forest) → ((it : Node) → IsNode old p it → place ≡ length it.children)
    → Planted t old new p (before place) f → Planted t old new p at_end f
planted_last t old new p place f last a = record {
  size = a.size;
  parent = λ it h.
      a.parent it h
      ∙ ap (λ l. Some (record it { children = l })) (ap (λ i. insert_slice it.children i (firsts f)) (last it h) ∙ slice_at_end it.children (firsts f));
  stand = a.stand;
  others = a.others;
  sound = a.sound;
}

pub planted_grown : (t u : NameTable) → Grown t u → IsSound t → (old new : Nodes) (p : ℕ) (f : Forest) → Planted t old new p at_end f → Planted u old new p at_end f
planted_grown t u g table old new p f a =
    record { size = a.size; parent = a.parent; stand = stand_grown t u g table new f a.stand; others = a.others; sound = a.sound }

module _ (t : NameTable) (old mid : Nodes) (p place n : ℕ) (it : Node) (there : IsNode old p it) where
  own_parent : (content : contents_of.Content) → Inserts old mid p place n content → (x : Node) → IsNode old p x
      → IsNode mid p (record x { children = insert_slice x.children place (n ∷ []) })
  own_parent content i x h = i.parent x h ∙ ap (λ l. Some (record x { children = l })) (slice_of_one x.children place n)

  pub planted_text : (chars : List ℕ) → Inserts old mid p place n (contents.Chars chars) → AreSound mid → Planted t old mid p (before place) (text n chars none)
  planted_text chars i sound = record {
    size = i.size;
    parent = own_parent (contents.Chars chars) i;
    stand = (record { text = record { parent = Some p; depth = it.depth + 1; content = contents.Chars chars; children = [] }; is = i.child it there; content = refl; no_children = refl }, tt);
    others = λ m h d. i.others m d (not_number n m (or_parts (n == m) false h).0);
    sound = sound;
  }

  pub planted_element : (new : Nodes) (parts : Element) (name : Expanded) (bindings : List Binding) (attributes : List Attribute) (children : Forest)
      → Inserts old mid p place n (contents.Element parts) → Planted t mid new n at_end children → has p children ≡ false → p ≢ n
      → IsCalled t parts name bindings attributes
      → Planted t old new p (before place) (element n name bindings attributes children none)
  planted_element new parts name bindings attributes children i below outside apart called = record {
    size = below.size ∙ i.size;
    parent = λ x h. below.others p outside apart ∙ own_parent (contents.Element parts) i x h;
    stand = (
      record {
        it = record { parent = Some p; depth = it.depth + 1; content = contents.Element parts; children = firsts children };
        is = below.parent (record { parent = Some p; depth = it.depth + 1; content = contents.Element parts; children = [] }) (i.child it there);
        parts = parts;
        content = refl;
        known = called.known;
        name_is = called.name_is;
        bindings_are = called.bindings_are;
        attributes_are = called.attributes_are;
        children_are = refl;
      },
      below.stand,
      tt,
    );
    others = λ m h d.
        let z = or_parts (n == m) (has m children || false) h in
        let y = or_parts (has m children) false z.1 in
        below.others m y.0 (not_number n m z.0) ∙ i.others m d (not_number n m z.0);
    sound = below.sound;
  }

-- what is free stays so where other nodes are put
free_still : (t : NameTable) (old new : Nodes) (p : ℕ) (f g : Forest) → Planted t old new p at_end f → AreFree old g → ((m : ℕ) → has m g ≡ true → (has m f ≡ false) × (m ≢ p)) → AreFree new g
free_still t old new p f g a free apart = λ m h.
    let z = free m h in let y = apart m h in
    (a.others m y.0 y.1 ∙ z.0, subst (λ k. m < k) (sym a.size) z.1)

pub names_left : (f g : Forest) → HaveNames (append f g) → HaveNames f
names_left none g a = tt
names_left (text number chars next) g a = names_left next g a
names_left (element number name bindings attributes children next) g a = (a.0, a.1, names_left next g a.2)

pub names_right : (f g : Forest) → HaveNames (append f g) → HaveNames g
names_right none g a = a
names_right (text number chars next) g a = names_right next g a
names_right (element number name bindings attributes children next) g a = names_right next g a.2

-- a node that is there is none of those that can be put
pub not_parent : (ns : Nodes) (p : ℕ) (f : Forest) → CanPlant ns p f → (m : ℕ) → has m f ≡ true → m ≢ p
not_parent ns p f can m h e = none-some can.it (sym (can.free m h).0 ∙ ap (node ns) e ∙ can.is)

pub parent_outside : (ns : Nodes) (p : ℕ) (f : Forest) → CanPlant ns p f → has p f ≡ false
parent_outside ns p f can = false_from_ne_true (has p f) (λ h. not_parent ns p f can p h refl)

-- some of the siblings were put, and these are left, with these numbers
pub record PlantedSoFar (t u : NameTable) (old now : Nodes) (p : ℕ) (numbers : ℕ) (whole : Forest) (numbers_left : ℕ) (left : Forest) : Type 0 where
  pub done : Forest
  pub split : numbered_by numbers whole ≡ append done (numbered_by numbers_left left)
  pub gone : ℕ
  pub numbers_are : numbers_left ≡ behind numbers gone
  pub counted : count whole ≡ gone + count left
  pub planted : Planted u old now p at_end done
  pub grown : Grown t u
  pub sound : IsSound u
  pub known : HasNames t whole → (u ≡ t) × HasNames t left

pub begun : (t : NameTable) (ns : Nodes) (p : ℕ) (numbers : ℕ) (whole : Forest) → IsSound t → AreSound ns → PlantedSoFar t t ns ns p numbers whole numbers whole
begun t ns p numbers whole table sound = record {
  done = none;
  split = refl;
  gone = 0;
  numbers_are = sym (behind_none numbers);
  counted = omega arith;
  planted = planted_none t ns p sound;
  grown = Grown-refl t;
  sound = table;
  known = λ h. (refl, h);
}

pub ended : (s u : NameTable) (old now : Nodes) (p : ℕ) (numbers : ℕ) (whole : Forest) (numbers_left : ℕ) (left : Forest)
    → PlantedSoFar s u old now p numbers whole numbers_left left → left ≡ none
    → Planted u old now p at_end (numbered_by numbers whole) × (numbers_left ≡ behind numbers (count whole))
ended s u old now p numbers whole numbers_left left so e = (
  subst (Planted u old now p at_end) (sym (so.split ∙ ap (append so.done) (ap (numbered_by numbers_left) e ∙ numbered_none numbers_left) ∙ append_none so.done)) so.planted,
  so.numbers_are ∙ ap (behind numbers) (let a = so.counted in let b = ap count e in omega (arith, a, b)),
)

-- how many nodes there are with a first one
pub count_taken : (row : Row) (children next left : Forest) → left ≡ node_of row.number row.content row.bindings row.attributes children next
    → (count left ≡ count (one_of row children) + count next) × (1 ≤ count (one_of row children))
count_taken row children next left e = (ap count e ∙ (sizes row.content).0, (sizes row.content).1)
  where
    sizes : (c : Content) → (count (node_of row.number c row.bindings row.attributes children next) ≡ count (node_of row.number c row.bindings row.attributes children none) + count next)
        × (1 ≤ count (node_of row.number c row.bindings row.attributes children none))
    sizes (rows.Element name) = (omega arith, omega arith)
    sizes (rows.Chars chars) = (omega arith, omega arith)

-- the next of the siblings
module _ (s t : NameTable) (old now : Nodes) (p : ℕ) (numbers : ℕ) (whole : Forest) (numbers_left : ℕ) (left : Forest)
    (can : CanPlant old p (numbered_by numbers whole)) (so : PlantedSoFar s t old now p numbers whole numbers_left left)
    (row : Row) (children next : Forest) (taken : left ≡ node_of row.number row.content row.bindings row.attributes children next) where
  abbrev one : Forest
  one = numbered_by numbers_left (one_of row children)

  abbrev more : ℕ
  more = behind numbers_left (count (one_of row children))

  abbrev rest : Forest
  rest = numbered_by more next

  parted : numbered_by numbers whole ≡ append so.done (append one rest)
  parted = so.split ∙ ap (append so.done) (ap (numbered_by numbers_left) taken ∙ numbered_node numbers_left row.number row.content row.bindings row.attributes children next)

  in_whole : (m : ℕ) → has m one ≡ true → has m (numbered_by numbers whole) ≡ true
  in_whole m h = ap (has m) parted ∙ has_right m so.done (append one rest) (has_left m one rest h)

  done_apart : (m : ℕ) → has m so.done ≡ true → has m one ≡ false
  done_apart m h = false_from_ne_true (has m one) (λ k.
      let x = has_times m so.done h in let y = has_times m one k in
      let z = times_append m so.done (append one rest) in let w = times_append m one rest in
      let v = ap (times m) parted in let q = can.differ m in
      absurd (omega (arith, x, y, z, w, v, q)))

  -- what comes next can be put
  pub can_next : CanPlant now p one
  can_next = record {
    it = record can.it { children = can.it.children ++ firsts so.done };
    is = so.planted.parent can.it can.is;
    high = can.high;
    shallow = (
        let k = can.it.depth + 1 in
        let a = deepest_append k one rest in let b = deepest_append k so.done (append one rest) in
        let c = ap (deepest_of k) parted in let d = can.shallow in omega (arith, a, b, c, d)
        );
    free = free_still t old now p so.done one so.planted (λ m h. can.free m (in_whole m h)) (λ m h.
        (false_from_ne_true (has m so.done) (λ k. false≢true (sym (done_apart m k) ∙ h)), not_parent old p (numbered_by numbers whole) can m (in_whole m h)));
    differ = λ m.
        let z = times_append m so.done (append one rest) in let w = times_append m one rest in
        let v = ap (times m) parted in let q = can.differ m in omega (arith, z, w, v, q);
    names = names_left one rest (names_right so.done (append one rest) (subst HaveNames parted can.names));
    few = (
        let a = count-append one rest in let b = count-append so.done (append one rest) in
        let c = ap count parted in let d = can.few in omega (arith, a, b, c, d)
        );
    sound = so.planted.sound;
  }

  done_or_parent : (m : ℕ) → has m so.done ≡ true → (has m one ≡ false) × (m ≢ p)
  done_or_parent m h = (done_apart m h, not_parent old p (numbered_by numbers whole) can m (ap (has m) parted ∙ has_left m so.done (append one rest) h))

  module _ (u : NameTable) (new : Nodes) (place : ℕ) (g : Grown t u) (sound : IsSound u) where
    pub next_so : (HasNames t (one_of row children) → u ≡ t) → ((it : Node) → IsNode now p it → place ≡ length it.children) → Planted u now new p (before place) one → (after : ℕ) → after ≡ more
        → PlantedSoFar s u old new p numbers whole after next
    next_so k last put after is = record {
      done = append so.done one;
      split = parted ∙ sym (append_assoc_forest so.done one rest) ∙ ap (λ k. append (append so.done one) (numbered_by k next)) (sym is);
      gone = so.gone + count (one_of row children);
      numbers_are = is ∙ ap (λ k. behind k (count (one_of row children))) so.numbers_are ∙ behind_more numbers so.gone (count (one_of row children));
      counted = (let a = so.counted in let b = (count_taken row children next left taken).0 in omega (arith, a, b));
      planted = planted_append u old now new p so.done one (planted_grown t u g so.sound old now p so.done so.planted) (planted_last u now new p place one last put) done_or_parent;
      grown = Grown-trans s t u so.grown g;
      sound = sound;
      known = λ h. known_next s t u row children next left taken k (so.known h);
    }

    -- what was put before memory was wanting
    pub first_of : new ≡ now → PlantedFirst u old new p at_end (numbered_by numbers whole)
    first_of same =
        subst (λ ns. PlantedFirst u old ns p at_end (numbered_by numbers whole)) (sym same)
        (record { part = so.done; rest = numbered_by numbers_left left; split = so.split; planted = planted_grown t u g so.sound old now p so.done so.planted })

-- what is below an element that was put can be put
module _ (old mid : Nodes) (p place n : ℕ) (content : contents_of.Content) (name : Expanded) (bindings : List Binding) (attributes : List Attribute) (children : Forest)
    (can : CanPlant old p (element n name bindings attributes children none)) (i : Inserts old mid p place n content) (sound : AreSound mid) where
  own_times : times n (element n name bindings attributes children none) ≡ 1 + (times n children + 0)
  own_times = ap (λ b. (if b then 1 else 0) + (times n children + 0)) (eq-eqb n n refl)

  pub own_in : has n (element n name bindings attributes children none) ≡ true
  own_in = or_left (n == n) (has n children || false) (eq-eqb n n refl)

  pub below_in : (m : ℕ) → has m children ≡ true → has m (element n name bindings attributes children none) ≡ true
  below_in m h = or_right (n == m) (has m children || false) (or_left (has m children) false h)

  pub not_own : (m : ℕ) → has m children ≡ true → m ≢ n
  not_own m h e =
      let x = has_times n children (subst (λ k. has k children ≡ true) e h) in let y = own_times in let z = can.differ n in
      absurd (omega (arith, x, y, z))

  pub can_children : CanPlant mid n children
  can_children = record {
    it = record { parent = Some p; depth = can.it.depth + 1; content = content; children = [] };
    is = i.child can.it can.is;
    high = (let s = can.shallow in omega (arith, s));
    shallow = (let s = can.shallow in omega (arith, s));
    free = λ m h.
        let z = can.free m (below_in m h) in
        (i.others m (not_parent old p (element n name bindings attributes children none) can m (below_in m h)) (not_own m h) ∙ z.0, subst (λ k. m < k) (sym i.size) z.1);
    differ = λ m. let z = can.differ m in omega (arith, z);
    names = can.names.1;
    few = (let s = can.few in omega (arith, s));
    sound = sound;
  }

-- a node of a row, under its number
module _ (s : ℕ) (row : Row) (children : Forest) where
  abbrev number : ℕ
  number = s

  abbrev below : Forest
  below = numbered_by (behind s 1) children

  pub as_element : (name : Expanded) → row.content ≡ rows.Element name → numbered_by s (one_of row children) ≡ element number name row.bindings row.attributes below none
  as_element name is = ap (λ c. numbered_by s (node_of row.number c row.bindings row.attributes children none)) is ∙ numbered_element s row.number name row.bindings row.attributes children

  pub as_text : (chars : List ℕ) → row.content ≡ rows.Chars chars → numbered_by s (one_of row children) ≡ text number chars none
  as_text chars is = ap (λ c. numbered_by s (node_of row.number c row.bindings row.attributes children none)) is ∙ numbered_text s row.number chars

  has_number : has number (numbered_by s (one_of row children)) ≡ true
  has_number = by row.content refl
    where
      by : (c : Content) → row.content ≡ c → has number (numbered_by s (one_of row children)) ≡ true
      by (rows.Element name) is = ap (has number) (as_element name is) ∙ or_left (number == number) (has number below || false) (eq-eqb number number refl)
      by (rows.Chars chars) is = ap (has number) (as_text chars is) ∙ or_left (number == number) false (eq-eqb number number refl)

  -- the number is free
  pub number_free : (old : Nodes) (p : ℕ) → CanPlant old p (numbered_by s (one_of row children)) → (k : ℕ) → k ≡ number → (node old k ≡ None) × (k < length old) × (k + 1 < 2 ^ 32)
  number_free old p can k e =
      let f = can.free number has_number in let a = can.sound.few in
      subst (λ j. (node old j ≡ None) × (j < length old) × (j + 1 < 2 ^ 32)) (sym e) (f.0, f.1, omega (arith, a, f.1))

  -- a text was put
  pub text_planted : (t : NameTable) (old mid : Nodes) (p place : ℕ) → CanPlant old p (numbered_by s (one_of row children)) → (k : ℕ) → k ≡ number → (chars : List ℕ) → row.content ≡ rows.Chars chars
      → Inserts old mid p place k (contents.Chars chars) → AreSound mid → Planted t old mid p (before place) (numbered_by s (one_of row children))
  text_planted t old mid p place can k e chars is i sound =
      subst (Planted t old mid p (before place)) (ap (λ j. text j chars none) e ∙ sym (as_text chars is)) (planted_text t old mid p place k can.it can.is chars i sound)

  pub text_counted : (chars : List ℕ) → row.content ≡ rows.Chars chars → (next : ℕ) → next ≡ behind s 1 → next ≡ behind s (count (one_of row children))
  text_counted chars is next e = e ∙ ap (λ c. behind s (count (node_of row.number c row.bindings row.attributes children none))) (sym is)

  -- an element was put, and is to get its children
  module _ (t : NameTable) (old mid : Nodes) (p place : ℕ) (can : CanPlant old p (numbered_by s (one_of row children))) (k : ℕ) (own : k ≡ number) (next : ℕ) (more : next ≡ behind s 1)
      (name : Expanded) (is : row.content ≡ rows.Element name) (puts : PutsElement t old mid p place k name row.bindings row.attributes) (sound : AreSound mid) where
    abbrev pub inner : Forest
    inner = numbered_by next children

    whole_is : numbered_by s (one_of row children) ≡ element k name row.bindings row.attributes inner none
    whole_is = as_element name is ∙ (λ i. element (sym own i) name row.bindings row.attributes (numbered_by (sym more i) children) none)

    pub can_whole : CanPlant old p (element k name row.bindings row.attributes inner none)
    can_whole = subst (CanPlant old p) whole_is can

    pub can_below : CanPlant mid k inner
    can_below = can_children old mid p place k (contents.Element puts.parts) name row.bindings row.attributes inner can_whole puts.inserts sound

    pub planted_whole : (u : NameTable) (new : Nodes) → Grown t u → IsSound t → Planted u mid new k at_end inner → Planted u old new p (before place) (numbered_by s (one_of row children))
    planted_whole u new g table below =
        let outside = or_parts (k == p) (has p inner || false) (parent_outside old p (element k name row.bindings row.attributes inner none) can_whole) in
        subst (Planted u old new p (before place)) (sym whole_is)
        (planted_element u old mid p place k can.it can.is new puts.parts name row.bindings row.attributes inner puts.inserts below
        (or_parts (has p inner) false outside.1).0 (not_number k p outside.0) (called_grown t u g table puts.parts name row.bindings row.attributes puts.called))

    -- fewer nodes are below it
    pub element_size : count (one_of row children) ≡ 1 + count children
    element_size = ap (λ c. count (node_of row.number c row.bindings row.attributes children none)) is ∙ size
      where
        size : 1 + (count children + 0) ≡ 1 + count children
        size = omega arith

    pub element_counted : (left : ℕ) → left ≡ behind next (count children) → left ≡ behind s (count (one_of row children))
    element_counted left e =
        e ∙ ap (λ b. behind b (count children)) more ∙ behind_more s 1 (count children) ∙ ap (behind s) (sym element_size)

-- the names of an element that can be put
pub named_one : (old : Nodes) (p : ℕ) (s : ℕ) (row : Row) (children : Forest) → CanPlant old p (numbered_by s (one_of row children)) → (name : Expanded) → row.content ≡ rows.Element name
    → IsNamed name row.bindings row.attributes
named_one old p s row children can name is = (subst HaveNames (as_element s row children name is) can.names).0
