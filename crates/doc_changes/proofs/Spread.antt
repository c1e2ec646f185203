-- Siblings put at once, and then what is below each of them.
use Rattle.std.proofs.Common.{◌≡◌, ◌≢◌, ℕ, ◌+◌, ◌<◌, ◌≤◌, ◌^◌, List, [], ◌∷◌, ◌++◌, length, map, sym, ap, ◌∙◌, subst, true, false, ◌==◌, ◌||◌, if◌then◌else◌, Some, None, refl, inl, inr, arith, append_assoc}
use Rattle.std.proofs.lemmas.Bool.{or_left, or_right, eq-eqb, false_from_ne_true}
use Rattle.std.proofs.lemmas.Option.{same_Some}
use Rattle.xs_names.specs.Names.{NameTable, Grown, IsSound}
use Rattle.xs_names.proofs.GrownLaws.{Grown-refl, Grown-trans}
use Rattle.tree_rows.specs.Forest.{Forest, none, text, element, count, deepest_of}
use Rattle.tree_rows.specs.Rows.{node as node_of}
use Rattle.tree_rows.specs.Whole.{times, IsNamed}
use Rattle.tree_rows.specs.declared.name.Expanded.{Expanded}
use Rattle.tree_rows.specs.declared.row.Attribute.{Attribute}
use Rattle.tree_rows.specs.declared.row.Binding.{Binding}
use Rattle.tree_rows.specs.declared.row.Row.{Row}
use Rattle.tree_rows.specs.declared.row.Content.{Content}
use Rattle.tree_rows.specs.declared.row.Content.TheVariants as rows
use Rattle.tree_edits.specs.Edits.{has, append}
use Rattle.tree_edits.proofs.BlockNaming.{HaveNames}
use Rattle.tree_edits.proofs.Lying.{count-append, deepest_append}
use Rattle.doc_nodes.specs.declared.content.Content.TheVariants as contents
use Rattle.doc_nodes.specs.declared.content.Element.{Element}
use Rattle.doc_nodes.specs.declared.content.NewNode.{NewNode}
use Rattle.doc_nodes.specs.Nodes.{Node, Nodes, node, IsNode, Has, Lacks, Distinct, InsertsAll, IsSound as AreSound}
use Rattle.doc_nodes.proofs.Among.{has-middle}
use Rattle.doc_changes.specs.Stands.{firsts, IsElement, StandFor}
use Rattle.doc_changes.proofs.Standing.{stand_same, stand_append, stand_grown, stand_parts, firsts_append, append_assoc_forest, append_none, times_append, has_times, present_times, no_times, absent_times}
use Rattle.doc_changes.specs.Named.{IsCalled}
use Rattle.doc_changes.proofs.PlantedNames.{called_grown}
use Rattle.doc_changes.proofs.Growth.{planted_grown, names_left, names_right, not_parent, count_taken}
use Rattle.doc_changes.specs.inside.Growing.{at_end, one_of, CanPlant, Planted}
use Rattle.doc_changes.specs.inside.Spreading.{AreNodesOf, IsBare, CanFill, Filled}
use Rattle.plain_tree.specs.Found.{HasNames}
use Rattle.doc_changes.proofs.Known.{names_alone, known_next}

-- the siblings without what is below them
abbrev pub bare : Forest → Forest
bare none = none
bare (text n chars next) = text n chars (bare next)
bare (element n name bindings attributes children next) = element n name bindings attributes none (bare next)

bare_firsts : (f : Forest) → firsts (bare f) ≡ firsts f
bare_firsts none = refl
bare_firsts (text n chars next) = ap (λ l. n ∷ l) (bare_firsts next)
bare_firsts (element n name bindings attributes children next) = ap (λ l. n ∷ l) (bare_firsts next)

bare_times : (m : ℕ) (f : Forest) → times m (bare f) ≤ times m f
bare_times m none = omega arith
bare_times m (text n chars next) = let h = bare_times m next in omega (arith, h)
bare_times m (element n name bindings attributes children next) = let h = bare_times m next in omega (arith, h)

-- the nodes of a row, whatever is below it
nodes_of_row : (t : NameTable) (it : NewNode) (row : Row) (children : Forest) → AreNodesOf t (it ∷ []) (one_of row none) → AreNodesOf t (it ∷ []) (one_of row children)
nodes_of_row t it row children a = by row.content a
  where
    by : (c : Content) → AreNodesOf t (it ∷ []) (node_of row.number c row.bindings row.attributes none none) → AreNodesOf t (it ∷ []) (node_of row.number c row.bindings row.attributes children none)
    by (rows.Element name) z = z
    by (rows.Chars chars) z = z

pub text_node : (t : NameTable) (it : NewNode) (row : Row) (chars : List ℕ) → row.content ≡ rows.Chars chars → it.number ≡ row.number → it.content ≡ contents.Chars chars → AreNodesOf t (it ∷ []) (one_of row none)
text_node t it row chars is number content =
    subst (λ c. AreNodesOf t (it ∷ []) (node_of row.number c row.bindings row.attributes none none)) (sym is) (record { number = number; content = content }, tt)

pub element_node : (t : NameTable) (it : NewNode) (row : Row) (name : Expanded) (parts : Element) → row.content ≡ rows.Element name → it.number ≡ row.number → it.content ≡ contents.Element parts
    → IsCalled t parts name row.bindings row.attributes → AreNodesOf t (it ∷ []) (one_of row none)
element_node t it row name parts is number content called =
    subst (λ c. AreNodesOf t (it ∷ []) (node_of row.number c row.bindings row.attributes none none)) (sym is) (record { number = number; parts = parts; content = content; called = called }, tt)

pub named_row : (row : Row) (name : Expanded) → row.content ≡ rows.Element name → HaveNames (one_of row none) → IsNamed name row.bindings row.attributes
named_row row name is h = (subst (λ c. HaveNames (node_of row.number c row.bindings row.attributes none none)) is h).0

nodes_append : (t : NameTable) (xs ys : List NewNode) (f g : Forest) → AreNodesOf t xs f → AreNodesOf t ys g → AreNodesOf t (xs ++ ys) (append f g)
nodes_append t [] ys none g a b = b
nodes_append t [] ys (text n chars next) g a b = absurd a
nodes_append t [] ys (element n name bindings attributes children next) g a b = absurd a
nodes_append t (x ∷ xs) ys none g a b = absurd a
nodes_append t (x ∷ xs) ys (text n chars next) g a b = (a.0, nodes_append t xs ys next g a.1 b)
nodes_append t (x ∷ xs) ys (element n name bindings attributes children next) g a b = (a.0, nodes_append t xs ys next g a.1 b)

nodes_grown : (t u : NameTable) → Grown t u → IsSound t → (xs : List NewNode) (f : Forest) → AreNodesOf t xs f → AreNodesOf u xs f
nodes_grown t u g table [] none a = tt
nodes_grown t u g table [] (text n chars next) a = absurd a
nodes_grown t u g table [] (element n name bindings attributes children next) a = absurd a
nodes_grown t u g table (x ∷ xs) none a = absurd a
nodes_grown t u g table (x ∷ xs) (text n chars next) a = (a.0, nodes_grown t u g table xs next a.1)
nodes_grown t u g table (x ∷ xs) (element n name bindings attributes children next) a = (
  record { number = a.0.number; parts = a.0.parts; content = a.0.content; called = called_grown t u g table a.0.parts name bindings attributes a.0.called },
  nodes_grown t u g table xs next a.1,
)

parts_of : (row : Row) (children next : Forest) → node_of row.number row.content row.bindings row.attributes children next ≡ append (one_of row children) next
parts_of row children next = by row.content
  where
    by : (c : Content) → node_of row.number c row.bindings row.attributes children next ≡ append (node_of row.number c row.bindings row.attributes children none) next
    by (rows.Element name) = refl
    by (rows.Chars chars) = refl

-- the nodes of the first of the siblings were made
pub record MadeSoFar (s t : NameTable) (made : List NewNode) (whole left : Forest) : Type 0 where
  pub done : Forest
  pub split : whole ≡ append done left
  pub nodes : AreNodesOf t made done
  pub grown : Grown s t
  pub sound : IsSound t
  pub known : HasNames s whole → (t ≡ s) × HasNames s left

pub made_begun : (t : NameTable) (made : List NewNode) (whole : Forest) → made ≡ [] → IsSound t → MadeSoFar t t made whole whole
made_begun t made whole e sound = subst (λ l. MadeSoFar t t l whole whole) (sym e) (record { done = none; split = refl; nodes = tt; grown = Grown-refl t; sound = sound; known = λ h. (refl, h) })

pub made_ended : (s t : NameTable) (made : List NewNode) (whole left : Forest) → MadeSoFar s t made whole left → left ≡ none → AreNodesOf t made whole
made_ended s t made whole left so e = subst (AreNodesOf t made) (sym (so.split ∙ ap (append so.done) e ∙ append_none so.done)) so.nodes

module _ (s t : NameTable) (made : List NewNode) (whole left : Forest) (so : MadeSoFar s t made whole left) (names : HaveNames whole) (row : Row) (children next : Forest)
    (taken : left ≡ node_of row.number row.content row.bindings row.attributes children next) where
  made_split : whole ≡ append so.done (append (one_of row children) next)
  made_split = so.split ∙ ap (append so.done) (taken ∙ parts_of row children next)

  pub named_next : HaveNames (one_of row none)
  named_next = by row.content (names_left (one_of row children) next (names_right so.done (append (one_of row children) next) (subst HaveNames made_split names)))
    where
      by : (c : Content) → HaveNames (node_of row.number c row.bindings row.attributes children none) → HaveNames (node_of row.number c row.bindings row.attributes none none)
      by (rows.Element name) z = (z.0, tt, tt)
      by (rows.Chars chars) z = tt

  pub made_next : (u : NameTable) (it : NewNode) (more : List NewNode) → Grown t u → IsSound u → (HasNames t (one_of row none) → u ≡ t) → AreNodesOf u (it ∷ []) (one_of row none) → more ≡ made ++ it ∷ [] → MadeSoFar s u more whole next
  made_next u it more g sound k is e = subst (λ l. MadeSoFar s u l whole next) (sym e) (record {
    done = append so.done (one_of row children);
    split = made_split ∙ sym (append_assoc_forest so.done (one_of row children) next);
    nodes = nodes_append u made (it ∷ []) so.done (one_of row children) (nodes_grown t u g so.sound made so.done so.nodes) (nodes_of_row u it row children is);
    grown = Grown-trans s t u so.grown g;
    sound = sound;
    known = λ h. known_next s t u row children next left taken (λ o. k (names_alone t row children o)) (so.known h);
  })

-- the numbers of the nodes are those of the siblings
numbers_are : (t : NameTable) (xs : List NewNode) (f : Forest) → AreNodesOf t xs f → map (λ c. c.number) xs ≡ firsts f
numbers_are t [] none a = refl
numbers_are t [] (text n chars next) a = absurd a
numbers_are t [] (element n name bindings attributes children next) a = absurd a
numbers_are t (x ∷ xs) none a = absurd a
numbers_are t (x ∷ xs) (text n chars next) a = λ i. a.0.number i ∷ numbers_are t xs next a.1 i
numbers_are t (x ∷ xs) (element n name bindings attributes children next) a = λ i. a.0.number i ∷ numbers_are t xs next a.1 i

-- each of them is one of the forest's
node_in : (t : NameTable) (xs : List NewNode) (f : Forest) (c : NewNode) → AreNodesOf t xs f → Has c xs → has c.number f ≡ true
node_in t [] f c a h = absurd h
node_in t (x ∷ xs) none c a h = absurd a
node_in t (x ∷ xs) (text n chars next) c a h = elim h [
  | inl e ↦ or_left (n == c.number) (has c.number next) (eq-eqb n c.number (sym a.0.number ∙ ap (λ (y : NewNode). y.number) e))
  | inr k ↦ or_right (n == c.number) (has c.number next) (node_in t xs next c a.1 k)
]
node_in t (x ∷ xs) (element n name bindings attributes children next) c a h = elim h [
  | inl e ↦ or_left (n == c.number) (has c.number children || has c.number next) (eq-eqb n c.number (sym a.0.number ∙ ap (λ (y : NewNode). y.number) e))
  | inr k ↦ or_right (n == c.number) (has c.number children || has c.number next) (or_right (has c.number children) (has c.number next) (node_in t xs next c a.1 k))
]

lacks_firsts : (m : ℕ) (f : Forest) → times m f ≡ 0 → Lacks m (firsts f)
lacks_firsts m none z = tt
lacks_firsts m (text n chars next) z = (
  (λ e. let here = has_times m (text n chars next) (or_left (n == m) (has m next) (eq-eqb n m e)) in absurd (omega (arith, here, z))),
  lacks_firsts m next (omega (arith, z)),
)
lacks_firsts m (element n name bindings attributes children next) z = (
  (λ e. let here = has_times m (element n name bindings attributes children next) (or_left (n == m) (has m children || has m next) (eq-eqb n m e)) in absurd (omega (arith, here, z))),
  lacks_firsts m next (omega (arith, z)),
)

own_once : (n : ℕ) (b : ℕ) → ◌≡◌ {A = ℕ} ((if n == n then 1 else 0) + b) (1 + b)
own_once n b = ap (λ c. (if c then 1 else 0) + b) (eq-eqb n n refl)

distinct_firsts : (f : Forest) → ((m : ℕ) → times m f ≤ 1) → Distinct (firsts f)
distinct_firsts none d = tt
distinct_firsts (text n chars next) d = (
  lacks_firsts n next (let a = d n in let b = own_once n (times n next) in omega (arith, a, b)),
  distinct_firsts next (λ m. let a = d m in omega (arith, a)),
)
distinct_firsts (element n name bindings attributes children next) d = (
  lacks_firsts n next (let a = d n in let b = own_once n (times n children + times n next) in omega (arith, a, b)),
  distinct_firsts next (λ m. let a = d m in omega (arith, a)),
)

-- the siblings can be put at once
module _ (t : NameTable) (old : Nodes) (p : ℕ) (f : Forest) (can : CanPlant old p f) (xs : List NewNode) (are : AreNodesOf t xs f) where
  pub nodes_free : (c : NewNode) → Has c xs → (node old c.number ≡ None) × (c.number < length old)
  nodes_free c h = can.free c.number (node_in t xs f c are h)

  pub nodes_apart : Distinct (map (λ c. c.number) xs)
  nodes_apart = subst Distinct (sym (numbers_are t xs f are)) (distinct_firsts f can.differ)

  pub nodes_parent : IsBare old p → (it : Node) × IsNode old p it × (it.children ≡ []) × (it.depth + 1 < 2 ^ 32)
  nodes_parent none_there = let high = can.high in (can.it, can.is, none_there can.it can.is, omega (arith, high))

-- and stand there then without what is below them
stand_bare : (t : NameTable) (old mid : Nodes) (p : ℕ) (it : Node) (all xs : List NewNode) (f : Forest) → InsertsAll old mid p all → IsNode old p it → ((c : NewNode) → Has c xs → Has c all) → AreNodesOf t xs f → StandFor t mid (bare f)
stand_bare t old mid p it all [] none i there within a = tt
stand_bare t old mid p it all [] (text n chars next) i there within a = absurd a
stand_bare t old mid p it all [] (element n name bindings attributes children next) i there within a = absurd a
stand_bare t old mid p it all (x ∷ xs) none i there within a = absurd a
stand_bare t old mid p it all (x ∷ xs) (text n chars next) i there within a = (
  record {
    text = record { parent = Some p; depth = it.depth + 1; content = x.content; children = [] };
    is = ap (node mid) (sym a.0.number) ∙ i.children it x there (within x (inl refl));
    content = a.0.content;
    no_children = refl;
  },
  stand_bare t old mid p it all xs next i there (λ c h. within c (inr h)) a.1,
)
stand_bare t old mid p it all (x ∷ xs) (element n name bindings attributes children next) i there within a = (
  record {
    it = record { parent = Some p; depth = it.depth + 1; content = x.content; children = [] };
    is = ap (node mid) (sym a.0.number) ∙ i.children it x there (within x (inl refl));
    parts = a.0.parts;
    content = a.0.content;
    known = a.0.called.known;
    name_is = a.0.called.name_is;
    bindings_are = a.0.called.bindings_are;
    attributes_are = a.0.called.attributes_are;
    children_are = refl;
  },
  tt,
  stand_bare t old mid p it all xs next i there (λ c h. within c (inr h)) a.1,
)

planted_bare : (t : NameTable) (old mid : Nodes) (p : ℕ) (f : Forest) (xs : List NewNode) → CanPlant old p f → IsBare old p → AreNodesOf t xs f → InsertsAll old mid p xs → AreSound mid → Planted t old mid p at_end (bare f)
planted_bare t old mid p f xs can none_there are i sound = record {
  size = i.size;
  parent = λ it h. i.parent it h ∙ ap (λ l. Some (record it { children = l })) (numbers_are t xs f are ∙ sym (bare_firsts f) ∙ ap (λ l. l ++ firsts (bare f)) (sym (none_there it h)));
  stand = stand_bare t old mid p can.it xs xs f i can.is (λ c h. h) are;
  others = λ m h d. i.others m d (subst (Lacks m) (bare_firsts f ∙ sym (numbers_are t xs f are)) (lacks_firsts m (bare f) (no_times m (bare f) h)));
  sound = sound;
}

-- what is below the first of the siblings was put, and these are left
pub record FilledSoFar (s t : NameTable) (old now : Nodes) (p : ℕ) (whole left : Forest) : Type 0 where
  pub done : Forest
  pub split : whole ≡ append done left
  pub planted : Planted t old now p at_end (append done (bare left))
  pub grown : Grown s t
  pub sound : IsSound t
  pub known : HasNames s whole → (t ≡ s) × HasNames s left

pub fill_begun : (t : NameTable) (old mid : Nodes) (p : ℕ) (f : Forest) (xs : List NewNode) → CanPlant old p f → IsBare old p → AreNodesOf t xs f → InsertsAll old mid p xs → AreSound mid → IsSound t
    → FilledSoFar t t old mid p f f
fill_begun t old mid p f xs can none_there are i sound table =
    record { done = none; split = refl; planted = planted_bare t old mid p f xs can none_there are i sound; grown = Grown-refl t; sound = table; known = λ h. (refl, h) }

pub fill_ended : (s t : NameTable) (old now : Nodes) (p : ℕ) (whole left : Forest) → FilledSoFar s t old now p whole left → left ≡ none → Planted t old now p at_end whole
fill_ended s t old now p whole left so e =
    subst (Planted t old now p at_end) (ap (λ f. append so.done (bare f)) e ∙ append_none so.done ∙ sym (so.split ∙ ap (append so.done) e ∙ append_none so.done)) so.planted

-- an element among the siblings, which has no children as yet
module _ (s t : NameTable) (old now : Nodes) (p : ℕ) (whole left : Forest) (can : CanPlant old p whole) (so : FilledSoFar s t old now p whole left)
    (n : ℕ) (name : Expanded) (bindings : List Binding) (attributes : List Attribute) (children next : Forest) (taken : left ≡ element n name bindings attributes children next) where
  abbrev tag : Forest
  tag = element n name bindings attributes none (bare next)

  abbrev full : Forest
  full = element n name bindings attributes children none

  whole_is : whole ≡ append so.done (element n name bindings attributes children next)
  whole_is = so.split ∙ ap (append so.done) taken

  planted_tag : Planted t old now p at_end (append so.done tag)
  planted_tag = subst (λ f. Planted t old now p at_end (append so.done (bare f))) taken so.planted

  tag_stands : IsElement t now n name bindings attributes none
  tag_stands = (stand_parts t now so.done tag (planted_tag).stand).1.0

  -- how often a number comes in all of them
  times_whole : (m : ℕ) → times m whole ≡ times m so.done + ((if n == m then 1 else 0) + (times m children + times m next))
  times_whole m = ap (times m) whole_is ∙ times_append m so.done (element n name bindings attributes children next)

  times_tag : (m : ℕ) → times m (append so.done tag) ≡ times m so.done + ((if n == m then 1 else 0) + (0 + times m (bare next)))
  times_tag m = times_append m so.done tag

  below_whole : (m : ℕ) → has m children ≡ true → has m whole ≡ true
  below_whole m h = present_times m whole (let a = times_whole m in let b = has_times m children h in omega (arith, a, b))

  below_untagged : (m : ℕ) → has m children ≡ true → has m (append so.done tag) ≡ false
  below_untagged m h = absent_times m (append so.done tag) (
      let a = times_whole m in let b = has_times m children h in let d = can.differ m in let e = times_tag m in let f = bare_times m next in omega (arith, a, b, d, e, f))

  tag_within : has n whole ≡ true
  tag_within = present_times n whole (let a = times_whole n in let b = own_once n (times n children + times n next) in omega (arith, a, b))

  is_child : Has n (can.it.children ++ firsts (append so.done tag))
  is_child =
      subst (Has n) (append_assoc can.it.children (firsts so.done) (n ∷ firsts (bare next)) ∙ ap (λ l. can.it.children ++ l) (sym (firsts_append so.done tag)))
      (has-middle n (can.it.children ++ firsts so.done) (firsts (bare next)))

  tag_depth : (tag_stands).it.depth ≡ can.it.depth + 1
  tag_depth =
      let d = (planted_tag).sound.down p n (record can.it { children = can.it.children ++ firsts (append so.done tag) }) (planted_tag.parent can.it can.is) is_child in
      ap (λ (x : Node). x.depth) (same_Some (tag_stands).it d.child (sym (tag_stands).is ∙ d.is)) ∙ d.below

  deep_whole : deepest_of (can.it.depth + 1) (element n name bindings attributes children next) ≤ 128
  deep_whole =
      let a = can.shallow in let b = ap (deepest_of (can.it.depth + 1)) whole_is in let d = deepest_append (can.it.depth + 1) so.done (element n name bindings attributes children next) in
      omega (arith, a, b, d)

  pub can_tag : CanPlant now n children
  can_tag = record {
    it = (tag_stands).it;
    is = (tag_stands).is;
    high = (let a = tag_depth in let b = deep_whole in omega (arith, a, b));
    shallow = (let a = ap (λ k. deepest_of (k + 1) children) tag_depth in let b = deep_whole in omega (arith, a, b));
    free = λ m h.
        let z = can.free m (below_whole m h) in
        (planted_tag.others m (below_untagged m h) (not_parent old p whole can m (below_whole m h)) ∙ z.0, subst (λ k. m < k) (sym (planted_tag).size) z.1);
    differ = λ m. let a = times_whole m in let d = can.differ m in omega (arith, a, d);
    names = (names_right so.done (element n name bindings attributes children next) (subst HaveNames whole_is can.names)).1;
    few = (let a = ap count whole_is in let b = count-append so.done (element n name bindings attributes children next) in let d = can.few in omega (arith, a, b, d));
    sound = (planted_tag).sound;
  }

  pub bare_tag : IsBare now n
  bare_tag = λ it h. ap (λ (x : Node). x.children) (same_Some it (tag_stands).it (sym h ∙ (tag_stands).is)) ∙ (tag_stands).children_are

  -- what is below it was put
  module _ (u : NameTable) (new : Nodes) (g : Grown t u) (sound : IsSound u) (below : Planted u now new n at_end children) where
    p_not_n : p ≢ n
    p_not_n e = not_parent old p whole can n tag_within (sym e)

    p_outside : has p children ≡ false
    p_outside = false_from_ne_true (has p children) (λ h. not_parent old p whole can p (below_whole p h) refl)

    same_done : (m : ℕ) → has m so.done ≡ true → node new m ≡ node now m
    same_done m h =
        let a = times_whole m in let b = has_times m so.done h in let d = can.differ m in
        below.others m (absent_times m children (omega (arith, a, b, d))) (λ e.
        let k = subst (λ j. times j whole ≡ times j so.done + ((if n == j then 1 else 0) + (times j children + times j next))) e a in
        let l = subst (λ j. 1 ≤ times j so.done) e b in let q = can.differ n in let o = own_once n (times n children + times n next) in
        absurd (omega (arith, k, l, q, o)))

    same_next : (m : ℕ) → has m (bare next) ≡ true → node new m ≡ node now m
    same_next m h =
        let a = times_whole m in let b = has_times m (bare next) h in let c = bare_times m next in let d = can.differ m in
        below.others m (absent_times m children (omega (arith, a, b, c, d))) (λ e.
        let k = subst (λ j. times j whole ≡ times j so.done + ((if n == j then 1 else 0) + (times j children + times j next))) e a in
        let l = subst (λ j. 1 ≤ times j next) e (omega (arith, b, c)) in let q = can.differ n in let o = own_once n (times n children + times n next) in
        absurd (omega (arith, k, l, q, o)))

    grown_stands : StandFor u now (append so.done tag)
    grown_stands = stand_grown t u g so.sound now (append so.done tag) (planted_tag).stand

    full_stands : StandFor u new (append so.done (element n name bindings attributes children (bare next)))
    full_stands =
        let z = stand_parts u now so.done tag grown_stands in let e = z.1.0 in
        stand_append u new so.done (element n name bindings attributes children (bare next))
        (stand_same u now new so.done same_done z.0) (
          record {
            it = record (e.it) { children = e.it.children ++ firsts children };
            is = below.parent e.it e.is;
            parts = e.parts;
            content = e.content;
            known = e.known;
            name_is = e.name_is;
            bindings_are = e.bindings_are;
            attributes_are = e.attributes_are;
            children_are = ap (λ l. l ++ firsts children) e.children_are;
          },
          below.stand,
          stand_same u now new (bare next) same_next z.1.2,
        )

    full_planted : Planted u old new p at_end (append so.done (element n name bindings attributes children (bare next)))
    full_planted = record {
      size = below.size ∙ (planted_tag).size;
      parent = λ it h.
          below.others p p_outside p_not_n ∙ (planted_tag).parent it h
          ∙ ap (λ l. Some (record it { children = it.children ++ l })) (firsts_append so.done tag ∙ sym (firsts_append so.done (element n name bindings attributes children (bare next))));
      stand = full_stands;
      others = λ m h d.
          let z = no_times m (append so.done (element n name bindings attributes children (bare next))) h in
          let w = times_append m so.done (element n name bindings attributes children (bare next)) in let y = times_tag m in
          below.others m (absent_times m children (omega (arith, z, w))) (λ e.
          let k = subst (λ j. times j so.done + ((if n == j then 1 else 0) + (times j children + times j (bare next))) ≡ 0) e (sym w ∙ z) in
          let o = own_once n (times n children + times n (bare next)) in absurd (omega (arith, k, o)))
          ∙ (planted_tag).others m (absent_times m (append so.done tag) (omega (arith, z, w, y))) d;
      sound = below.sound;
    }

    pub element_next : (HasNames s whole → (u ≡ s) × HasNames s next) → FilledSoFar s u old new p whole next
    element_next known = record {
      done = append so.done full;
      split = whole_is ∙ sym (append_assoc_forest so.done full next);
      planted = subst (Planted u old new p at_end) (sym (append_assoc_forest so.done full (bare next))) full_planted;
      grown = Grown-trans s t u so.grown g;
      sound = sound;
      known = known;
    }

-- a text has nothing below it
text_next : (s t u : NameTable) (old now new : Nodes) (p : ℕ) (whole left : Forest) → FilledSoFar s t old now p whole left → (n : ℕ) (chars : List ℕ) (next : Forest) → left ≡ text n chars next
    → Grown t u → IsSound u → (HasNames s whole → (u ≡ s) × HasNames s next) → new ≡ now → FilledSoFar s u old new p whole next
text_next s t u old now new p whole left so n chars next taken g sound known same = record {
  done = append so.done (text n chars none);
  split = so.split ∙ ap (append so.done) taken ∙ sym (append_assoc_forest so.done (text n chars none) next);
  planted = subst (λ ns. Planted u old ns p at_end (append (append so.done (text n chars none)) (bare next))) (sym same)
      (subst (Planted u old now p at_end) (ap (λ f. append so.done (bare f)) taken ∙ sym (append_assoc_forest so.done (text n chars none) (bare next)))
      (planted_grown t u g so.sound old now p (append so.done (bare left)) so.planted));
  grown = Grown-trans s t u so.grown g;
  sound = sound;
  known = known;
}

-- the next of the siblings
module _ (s t : NameTable) (old now : Nodes) (p : ℕ) (whole left : Forest) (can : CanPlant old p whole) (so : FilledSoFar s t old now p whole left) (row : Row) (children next : Forest)
    (taken : left ≡ node_of row.number row.content row.bindings row.attributes children next) where
  pub can_fill : CanFill now row.number row.content children
  can_fill = by row.content taken
    where
      by : (c : Content) → left ≡ node_of row.number c row.bindings row.attributes children next → CanFill now row.number c children
      by (rows.Element name) e = (
        can_tag s t old now p whole left can so row.number name row.bindings row.attributes children next e,
        bare_tag s t old now p whole left can so row.number name row.bindings row.attributes children next e,
      )
      by (rows.Chars chars) e = tt

  pub fill_next : (u : NameTable) (new : Nodes) → Grown t u → IsSound u → (HasNames t (one_of row children) → u ≡ t) → Filled u now new row.number row.content children → FilledSoFar s u old new p whole next
  fill_next u new g sound k filled = by row.content taken filled
    where
      known : HasNames s whole → (u ≡ s) × HasNames s next
      known h = known_next s t u row children next left taken k (so.known h)

      by : (c : Content) → left ≡ node_of row.number c row.bindings row.attributes children next → Filled u now new row.number c children → FilledSoFar s u old new p whole next
      by (rows.Element name) e f = element_next s t old now p whole left can so row.number name row.bindings row.attributes children next e u new g sound f known
      by (rows.Chars chars) e f = text_next s t u old now new p whole left so row.number chars next e g sound known f

  -- they are no more than all
  pub fewer_left : count (one_of row children) ≤ count whole
  fewer_left = let a = ap count so.split in let b = count-append so.done left in let k = (count_taken row children next left taken).0 in omega (arith, a, b, k)

-- what is below an element is less than it
pub below_less : (row : Row) (name : Expanded) (children : Forest) → row.content ≡ rows.Element name → count (one_of row children) ≡ 1 + count children
below_less row name children is = ap (λ c. count (node_of row.number c row.bindings row.attributes children none)) is ∙ size
  where
    size : 1 + (count children + 0) ≡ 1 + count children
    size = omega arith
