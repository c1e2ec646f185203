-- What an edit finds where it names a node.
use Rattle.std.proofs.Common.{◌≡◌, ◌≢◌, ℕ, ◌+◌, ◌<◌, ◌≤◌, List, length, sym, ap, ◌∙◌, subst, true, false, ◌==◌, ◌||◌, if◌then◌else◌, nat_lt, Option, Some, None, Result, Ok, Err, refl, inl, inr, arith}
use Rattle.std.specs.Prelude.{max}
use Rattle.std.specs.Option.{option_map, option_and_then}
use Rattle.std.proofs.lemmas.Bool.{eqb-true, eq-eqb, or_cases, false≢true, false_from_ne_true}
use Rattle.std.proofs.lemmas.Bool.Decides.{nat_tests}
use Rattle.std.proofs.lemmas.Option.{none-some}
use Rattle.xs_names.specs.Names.{NameTable}
use Rattle.tree_rows.specs.Forest.{Forest, none, text, element, Document, count, deepest_of}
use Rattle.tree_rows.specs.Whole.{HasRoot}
use Rattle.tree_rows.specs.declared.row.Attribute.{Attribute}
use Rattle.tree_rows.specs.declared.row.Binding.{Binding}
use Rattle.tree_rows.specs.declared.row.NodeKind.TheVariants as kinds
use Rattle.tree_edits.specs.Edits.{has, width, found, put_at, put_within, change_element, reword, remove, is_root, too_many_more}
use Rattle.tree_edits.specs.Tests.{width_of, depth_of, is_element, made, with_nodes, edited}
use Rattle.tree_edits.specs.declared.edit.Edit.TheVariants as edits
use Rattle.tree_edits.specs.declared.edit.EditError.{EditError}
use Rattle.tree_edits.specs.declared.edit.EditError.TheVariants.{UnknownNode, NotElement, NotText, RootFixed, BadIndex, TooManyNodes, TooDeep}
use Rattle.tree_edits.proofs.Standing.{missing}
use Rattle.tree_edits.proofs.Testing.{edit_tested}
use Rattle.tree_edits.proofs.Lying.{lies, deepest_here}
use Rattle.doc_nodes.specs.Nodes.{Node, Nodes, node, IsNode, IsSound, Has, depth_by, children_by}
use Rattle.doc_changes.specs.Stands.{firsts, StandFor, StandsFor}
use Rattle.doc_changes.specs.Held.{kind_in, kind_at, parent_at}
use Rattle.doc_changes.proofs.Lain.{at, depth_at}
use Rattle.doc_changes.proofs.Holding.{IsElementOf, IsTextOf, holds_element, holds_chars, element_of, text_of}
use Rattle.doc_edits.specs.inside.Tested.{IsNoElement, HasPlace, HasRoom, HasRoomFor, HasNoRoom}

no_node : {A B : Type 0} (f : A → B) (o : Option A) → option_map f o ≡ None → o ≡ None
no_node f None e = refl
no_node f (Some x) e = absurd (none-some (f x) (sym e))

-- as many siblings as there are numbers of theirs
pub width_firsts : (f : Forest) → width f ≡ length (firsts f)
width_firsts none = refl
width_firsts (text n chars next) = omega (arith, width_firsts next)
width_firsts (element n name bindings attributes children next) = omega (arith, width_firsts next)

-- nodes that stand so many levels deeper
deeper_most : (levels depth : ℕ) (f : Forest) → deepest_of (depth + levels) f ≤ deepest_of depth f + levels
deeper_most levels depth none = omega arith
deeper_most levels depth (text n chars next) = deeper_most levels depth next
deeper_most levels depth (element n name bindings attributes children next) =
    let up : depth + 1 + levels ≡ depth + levels + 1 = omega arith in
    omega (arith, ap (λ d. deepest_of d children) up, deeper_most levels (depth + 1) children, deeper_most levels depth next)

deeper_least : (levels depth : ℕ) (f : Forest) → deepest_of depth f + levels ≤ max levels (deepest_of (depth + levels) f)
deeper_least levels depth none = omega arith
deeper_least levels depth (text n chars next) = deeper_least levels depth next
deeper_least levels depth (element n name bindings attributes children next) =
    let up : depth + 1 + levels ≡ depth + levels + 1 = omega arith in
    omega (arith, ap (λ d. deepest_of d children) up, deeper_least levels (depth + 1) children, deeper_least levels depth next)

from_one : (depth : ℕ) (f : Forest) → deepest_of (depth + 1) f ≡ deepest_of (1 + depth) f
from_one depth f = ap (λ d. deepest_of d f) (omega arith)

-- a number that is of a node of the tree is of a node
stands_there : (t : NameTable) (ns : Nodes) (n : ℕ) (f : Forest) → StandFor t ns f → has n f ≡ true → (it : Node) × IsNode ns n it
stands_there t ns n none s h = absurd (false≢true h)
stands_there t ns n (text number chars next) s h = elim (or_cases (number == n) (has n next) h) [
  | inl e ↦ (s.0.text, sym (ap (node ns) (eqb-true number n e)) ∙ s.0.is)
  | inr k ↦ stands_there t ns n next s.1 k
]
stands_there t ns n (element number name bindings attributes children next) s h = elim (or_cases (number == n) (has n children || has n next) h) [
  | inl e ↦ (s.0.it, sym (ap (node ns) (eqb-true number n e)) ∙ s.0.is)
  | inr k ↦ elim (or_cases (has n children) (has n next) k) [
    | inl j ↦ stands_there t ns n children s.1 j
    | inr j ↦ stands_there t ns n next s.2 j
  ]
]

no_such : (t : NameTable) (ns : Nodes) (d : Document) → StandsFor t ns d → (n : ℕ) → node ns n ≡ None → has n d.forest ≡ false
no_such t ns d z n absent = false_from_ne_true (has n d.forest) (λ h. let x = stands_there t ns n d.forest z.nodes h in none-some x.0 (sym absent ∙ x.1))

-- a node without a parent stands at the top
top : (t : NameTable) (ns : Nodes) → IsSound ns → (n : ℕ) → parent_at ns n ≡ None → (f : Forest) → StandFor t ns f → has n f ≡ true → Has n (firsts f)
top t ns sound n bare none s h = absurd (false≢true h)
top t ns sound n bare (text number chars next) s h = elim (or_cases (number == n) (has n next) h) [
  | inl e ↦ inl (eqb-true number n e)
  | inr k ↦ inr (top t ns sound n bare next s.1 k)
]
top t ns sound n bare (element number name bindings attributes children next) s h = elim (or_cases (number == n) (has n children || has n next) h) [
  | inl e ↦ inl (eqb-true number n e)
  | inr k ↦ elim (or_cases (has n children) (has n next) k) [
    | inl j ↦
        let c = top t ns sound n bare children s.1 j in
        let d = sound.down number n s.0.it s.0.is (subst (Has n) (sym s.0.children_are) c) in
        absurd (none-some number (sym bare ∙ ap (option_and_then (λ (y : Node). y.parent)) d.is ∙ d.parent))
    | inr j ↦ inr (top t ns sound n bare next s.2 j)
  ]
]

one_root : (f : Forest) → HasRoot f → (n : ℕ) → Has n (firsts f) → (n ≡ 1) × (is_root n f ≡ true)
one_root none r n h = absurd r
one_root (text number chars next) r n h = absurd r
one_root (element number name bindings attributes children next) r n h = elim h [
  | inl e ↦ (sym e ∙ r.0, eq-eqb number n e)
  | inr k ↦ absurd (subst (λ g. Has n (firsts g)) r.1 k)
]

root_one : (f : Forest) → HasRoot f → (n : ℕ) → is_root n f ≡ true → n ≡ 1
root_one none r n h = absurd r
root_one (text number chars next) r n h = absurd r
root_one (element number name bindings attributes children next) r n h = sym (eqb-true number n h) ∙ r.0

module _ (t : NameTable) (ns : Nodes) (d : Document) (z : StandsFor t ns d) (n : ℕ) where
  -- where there is no such node
  gone : kind_at ns n ≡ None → found n 1 d.forest ≡ None
  gone k = missing n 1 d.forest (no_such t ns d z n (no_node (λ (it : Node). kind_in it.content) (node ns n) k))

  pub unknown : kind_at ns n ≡ None → IsNoElement d n UnknownNode
  unknown k = record { changes = λ change. ap (change_element change) (gone k); puts = λ place change. ap (put_at place change) (gone k) }

  pub unknown_text : kind_at ns n ≡ None → (chars : List ℕ) → edited d (edits.SetText n chars) ≡ Err UnknownNode
  unknown_text k chars = sym (edit_tested d (edits.SetText n chars)) ∙ ap (reword d n chars) (gone k)

  pub unknown_removed : kind_at ns n ≡ None → edited d (edits.Remove n) ≡ Err UnknownNode
  unknown_removed k = sym (edit_tested d (edits.Remove n)) ∙ ap (remove d n) (gone k)

  -- where it is a text
  module _ (k : kind_at ns n ≡ Some kinds.Chars) where
    own_text : IsTextOf t ns d n
    own_text = let h = holds_chars ns n k in text_of t ns d z n h.it h.chars h.is h.holds

    pub text_there : IsNoElement d n NotElement
    text_there = record { changes = λ change. ap (change_element change) (own_text).is_found; puts = λ place change. ap (put_at place change) (own_text).is_found }

    pub text_made : (chars : List ℕ) → edited d (edits.SetText n chars) ≡ Ok (made d (edits.SetText n chars))
    text_made chars = sym (edit_tested d (edits.SetText n chars)) ∙ ap (reword d n chars) (own_text).is_found

  -- where it is an element
  module _ (k : kind_at ns n ≡ Some kinds.Element) where
    pub own : IsElementOf t ns d n (holds_element ns n k).e
    own = let h = holds_element ns n k in element_of t ns d z n h.it h.e h.is h.holds

    pub no_text : (chars : List ℕ) → edited d (edits.SetText n chars) ≡ Err NotText
    no_text chars = sym (edit_tested d (edits.SetText n chars)) ∙ ap (reword d n chars) (own).is_found

    pub changed_here : (change : List Binding → List Attribute → Result Document EditError) → change_element change (found n 1 d.forest) ≡ change (own).bindings (own).attributes
    changed_here change = ap (change_element change) (own).is_found

    width_here : width_of (found n 1 d.forest) ≡ length (children_by (node ns n))
    width_here =
        ap width_of (own).is_found ∙ width_firsts (own).children ∙ ap length (sym (own).shown.children_are) ∙ ap (λ o. length (children_by o)) (sym (own).shown.is)

    put_here : (place : ℕ) (change : ℕ → Result Document EditError)
        → put_at place change (found n 1 d.forest) ≡ (if nat_lt (width (own).children) place then Err BadIndex else change (own).depth)
    put_here place change = ap (put_at place change) (own).is_found

    width_own : width (own).children ≡ length (children_by (node ns n))
    width_own = sym (ap width_of (own).is_found) ∙ width_here

    pub bad_place : (place : ℕ) → length (children_by (node ns n)) < place → (change : ℕ → Result Document EditError) → put_at place change (found n 1 d.forest) ≡ Err BadIndex
    bad_place place lt change =
        let w = width_own in
        let far : nat_lt (width (own).children) place ≡ true = grind (arith, nat_tests, w, lt) in
        put_here place change ∙ ap (λ b. if b then Err BadIndex else change (own).depth) far

    pub has_place : (place : ℕ) → place ≤ length (children_by (node ns n)) → HasPlace d n place
    has_place place le =
        let w = width_own in let y = width_here in
        let near : nat_lt (width (own).children) place ≡ false = grind (arith, nat_tests, w, le) in
        record {
          element = ap is_element (own).is_found;
          within = omega (arith, le, y);
          puts = λ change. put_here place change ∙ ap (λ b. if b then Err BadIndex else change (own).depth) near ∙ ap change (sym (ap depth_of (own).is_found));
        }

    -- its depth
    pub depth_here : depth_by (node ns n) ≡ depth_of (found n 1 d.forest)
    depth_here =
        let h = holds_element ns n k in
        ap depth_by h.is ∙ depth_at t ns d z n h.it h.is ∙ sym (ap depth_of (at t ns d z n h.it h.is).1)

    pub shallow_here : depth_by (node ns n) ≤ 128
    shallow_here =
        let e = depth_here in let f = ap depth_of (own).is_found in
        let l = deepest_here n 1 d.forest _ (lies n 1 d.forest _ (own).is_found) in
        let s = z.tree.shallow in
        omega (arith, e, f, l, s)

  -- a node without a parent is the root
  pub root_stays : (it : Node) → IsNode ns n it → parent_at ns n ≡ None → edited d (edits.Remove n) ≡ Err RootFixed
  root_stays it there bare =
      let a = at t ns d z n it there in
      let r = (one_root d.forest z.tree.root n (top t ns z.links n bare d.forest z.nodes (z.only n it there))).1 in
      sym (edit_tested d (edits.Remove n)) ∙ ap (remove d n) a.1 ∙ ap (λ b. if b then Err RootFixed else Ok (made d (edits.Remove n))) r

  pub child_goes : (it : Node) → IsNode ns n it → parent_at ns n ≢ None → edited d (edits.Remove n) ≡ Ok (made d (edits.Remove n))
  child_goes it there some =
      let a = at t ns d z n it there in
      let r : is_root n d.forest ≡ false = false_from_ne_true (is_root n d.forest) (λ e.
      let one = root_one d.forest z.tree.root n e in
      some (ap (option_and_then (λ (y : Node). y.parent)) there ∙ (z.root it (ap (node ns) (sym one) ∙ there)).0)) in
      sym (edit_tested d (edits.Remove n)) ∙ ap (remove d n) a.1 ∙ ap (λ b. if b then Err RootFixed else Ok (made d (edits.Remove n))) r

parent_some : (o : Option Node) → option_and_then (λ (y : Node). y.parent) o ≢ None → (it : Node) × (o ≡ Some it)
parent_some None h = absurd (h refl)
parent_some (Some it) h = (it, refl)

pub child_there : (t : NameTable) (ns : Nodes) (d : Document) → StandsFor t ns d → (n : ℕ) → parent_at ns n ≢ None → edited d (edits.Remove n) ≡ Ok (made d (edits.Remove n))
child_there t ns d z n some = let x = parent_some (node ns n) some in child_goes t ns d z n x.0 x.1 some

-- new nodes that are too many, or too deep, or have room
many_at : (d : Document) (parent place : ℕ) (new : Forest) (depth : ℕ) → too_many_more d (count new) ≡ true → put_within d parent place new depth ≡ Err TooManyNodes
many_at d parent place new depth q = rw q refl

deep_at : (d : Document) (parent place : ℕ) (new : Forest) (depth : ℕ) → too_many_more d (count new) ≡ false → 128 < deepest_of (depth + 1) new → put_within d parent place new depth ≡ Err TooDeep
deep_at d parent place new depth q past = let is : nat_lt 128 (deepest_of (depth + 1) new) ≡ true = grind (arith, nat_tests, past) in rw (q, is) refl

room_at : (d : Document) (parent place : ℕ) (new : Forest) (depth : ℕ) → too_many_more d (count new) ≡ false → deepest_of (depth + 1) new ≤ 128
    → put_within d parent place new depth ≡ Ok (with_nodes d parent place new)
room_at d parent place new depth q low = let is : nat_lt 128 (deepest_of (depth + 1) new) ≡ false = grind (arith, nat_tests, low) in rw (q, is) refl

deeper : (depth deepest : ℕ) (new : Forest) → deepest_of 1 new ≡ deepest → depth ≤ 128 → 128 < depth + deepest → 128 < deepest_of (depth + 1) new
deeper depth deepest new reach low h = let a = from_one depth new in let b = deeper_least depth 1 new in omega (arith, a, b, reach, h, low)

lower : (depth deepest : ℕ) (new : Forest) → deepest_of 1 new ≡ deepest → depth + deepest ≤ 128 → deepest_of (depth + 1) new ≤ 128
lower depth deepest new reach h = let a = from_one depth new in let b = deeper_most depth 1 new in omega (arith, a, b, reach, h)

-- room for new nodes
module _ (d : Document) (parent : ℕ) where
  pub room_for : (more deepest : ℕ) (new : Forest) → HasRoom d parent more deepest → count new ≡ more → deepest_of 1 new ≡ deepest → HasRoomFor d parent new
  room_for more deepest new r size reach = record {
    few = ap (too_many_more d) size ∙ r.few;
    shallow = lower (depth_of (found parent 1 d.forest)) deepest new reach r.shallow;
  }

  pub many : (more deepest : ℕ) → too_many_more d more ≡ true → HasNoRoom d parent more deepest TooManyNodes
  many more deepest e = λ place new size reach. many_at d parent place new (depth_of (found parent 1 d.forest)) (ap (too_many_more d) size ∙ e)

  pub deep : (more deepest : ℕ) → too_many_more d more ≡ false → depth_of (found parent 1 d.forest) ≤ 128 → 128 < depth_of (found parent 1 d.forest) + deepest
      → HasNoRoom d parent more deepest TooDeep
  deep more deepest e low h = λ place new size reach.
      deep_at d parent place new (depth_of (found parent 1 d.forest)) (ap (too_many_more d) size ∙ e) (deeper (depth_of (found parent 1 d.forest)) deepest new reach low h)

  pub put_room : (place : ℕ) (new : Forest) → HasRoomFor d parent new → put_within d parent place new (depth_of (found parent 1 d.forest)) ≡ Ok (with_nodes d parent place new)
  put_room place new r = room_at d parent place new (depth_of (found parent 1 d.forest)) r.few r.shallow

-- whether new nodes are too many, by how many there are and by the number that the next one gets
pub many_by : (d : Document) (more live next : ℕ) → live ≡ count d.forest → next ≡ d.next_free → (nat_lt 131072 (live + more) || nat_lt 4294967295 (next + more)) ≡ too_many_more d more
many_by d more live next l n =
    ap (λ m. nat_lt 131072 (m + more) || nat_lt 4294967295 (next + more)) l ∙ ap (λ m. nat_lt 131072 (count d.forest + more) || nat_lt 4294967295 (m + more)) n

-- a node, where the number is of one
pub node_there : (ns : Nodes) (n : ℕ) → kind_at ns n ≢ None → (it : Node) × IsNode ns n it
node_there ns n h = by (node ns n) refl
  where
    by : (o : Option Node) → node ns n ≡ o → (it : Node) × IsNode ns n it
    by None e = absurd (h (ap (option_map (λ (it : Node). kind_in it.content)) e))
    by (Some it) e = (it, e)
