-- Edits are changes.
use Rattle.std.proofs.Common.{◌≡◌, inl, inr, ℕ, suc, ◌+◌, ◌≤◌, List, [], ◌∷◌, length, insert, Bool, true, false, ◌==◌, ◌||◌, Option, Some, None, Ok, refl, sym, ap, ◌∙◌, arith, subst}
use Rattle.std.specs.Prelude.{if◌then◌else◌, not, nat_le, slice_get, ◌&&◌}
use Rattle.std.proofs.lemmas.Bool.{or_parts, or_left, or_right, false≢true, true≢false}
use Rattle.std.proofs.lemmas.Bool.Decides.{nat_tests}
use Rattle.item_listing.specs.declared.item.Item.{Item}
use Rattle.tree_rows.specs.Forest.{Forest, none, text, element, Document, count, deepest_of}
use Rattle.tree_rows.specs.Naming.{same_name}
use Rattle.tree_rows.specs.Whole.{IsNamespace, AreNamespaces, AreNodes, HasRoot, IsTree}
use Rattle.tree_rows.specs.declared.name.Expanded.{Expanded}
use Rattle.tree_rows.specs.declared.row.Attribute.{Attribute}
use Rattle.tree_rows.specs.declared.row.Binding.{Binding}
use Rattle.tree_building.specs.Blocks.{one_element}
use Rattle.tree_building.specs.Building.{block}
use Rattle.tree_edits.proofs.Trees.{block_tree}
use Rattle.std.specs.List.{list_any}
use Rattle.tree_edits.specs.Blocks.{tags_in, has_too_many, has_double}
use Rattle.tree_edits.specs.Changes.{has_name, set_in, has_no_room}
use Rattle.tree_edits.specs.Edits.{append, has, Found, found, replaced, insert_at, with_children, renumbered}
use Rattle.tree_edits.specs.Tests.{Test, test, first_refusal, unless_refused, is_missing, is_element, is_text, depth_of, width_of, no_node, element_node, text_node}
use Rattle.tree_edits.specs.declared.edit.EditError.{EditError}
use Rattle.tree_edits.proofs.Lying.{Lies, lies, times_changed, count_changed, deepest_here, nodes_parts}
use Rattle.tree_edits.proofs.Keeping.{joins_at, splits}
use Rattle.tree_edits.specs.Sites.{place_of}
use Rattle.tree_edits.specs.Inverses.{written, CanPutBack, CanWrite, IsAt, IsOne}
use Rattle.tree_edits.proofs.Twice.{found_changed, past_text, below_element, past_element}
use Rattle.tree_edits.proofs.InverseLying.{element_at, nodes_lie}
use Rattle.tree_edits.proofs.Written.{written_has, written_lacks}
use Rattle.tree_edits.proofs.Inverses.{at_element, element_lies}
use Rattle.tree_edits.proofs.Attributing.{same_name_is}

-- no test stands, and the edit is made
pub made_ok : (r : Option EditError) (m e : Document) → unless_refused r m ≡ Ok e → (r ≡ None) × (m ≡ e)
made_ok None m e h = (refl, cc h)
made_ok (Some error) m e h = absurd (cc h)

pub passes : (stands : Bool) (refusal : EditError) (more : List Test) → first_refusal (test stands refusal ∷ more) ≡ None → (stands ≡ false) × (first_refusal more ≡ None)
passes true refusal more h = absurd (cc h)
passes false refusal more h = (refl, h)

pub element_of_tests : (o : Option Found) → is_missing o ≡ false → is_text o ≡ false → is_element o ≡ true
element_of_tests None m t = absurd (true≢false m)
element_of_tests (Some it) m t = by it.node m t
  where
    by : (one : Forest) → no_node one ≡ false → text_node one ≡ false → element_node one ≡ true
    by none m t = absurd (true≢false m)
    by (text n chars next) m t = absurd (true≢false t)
    by (element n name bindings attributes children next) m t = refl

pub text_of_tests : (o : Option Found) → is_missing o ≡ false → is_element o ≡ false → is_text o ≡ true
text_of_tests None m t = absurd (true≢false m)
text_of_tests (Some it) m t = by it.node m t
  where
    by : (one : Forest) → no_node one ≡ false → element_node one ≡ false → text_node one ≡ true
    by none m t = absurd (true≢false m)
    by (text n chars next) m t = refl
    by (element n name bindings attributes children next) m t = absurd (true≢false t)

pub not_missing : (o : Option Found) → is_missing o ≡ false → (it : Found) × (o ≡ Some it)
not_missing None m = absurd (true≢false m)
not_missing (Some it) m = (it, refl)

pub there : (key depth : ℕ) (f : Forest) (it : Found) → Lies key depth f it → has key f ≡ true
there key depth none it l = absurd l
there key depth (text n chars next) it (inl l) = or_left (n == key) (has key next) l.0
there key depth (text n chars next) it (inr l) = or_right (n == key) (has key next) (there key depth next it l.1)
there key depth (element n name bindings attributes children next) it (inl l) = or_left (n == key) (has key children || has key next) l.0
there key depth (element n name bindings attributes children next) it (inr (inl l)) = or_right (n == key) (has key children || has key next) (or_left (has key children) (has key next) l.1)
there key depth (element n name bindings attributes children next) it (inr (inr l)) =
    or_right (n == key) (has key children || has key next) (or_right (has key children) (has key next) (there key depth next it l.2))

-- a part that was put fits, where the document is a tree then
pub fits_put : (d : Document) (free parent place : ℕ) (part : Forest) → is_element (found parent 1 d.forest) ≡ true → place ≤ width_of (found parent 1 d.forest) → IsOne part
    → IsTree (record { forest = replaced parent (with_children place part) d.forest; next_free = free }) → CanPutBack (record d { next_free = free }) parent place part
fits_put d free parent place part is within one t =
    let e = element_at parent d.forest is in
    let it = at_element parent d.forest e in
    let l = element_lies parent d.forest e in
    let change = with_children place part in
    let f = replaced parent change d.forest in
    let now : Found = record { depth = e.depth; node = element parent e.name e.bindings e.attributes (insert_at place part e.children) none } in
    let q : found parent 1 f ≡ Some now = found_changed parent 1 change d.forest it l (refl, refl) in
    let k = lies parent 1 f now q in
    let s = splits place part e.children in
    let j = joins_at place part e.children in
    let own = nodes_lie free parent 1 f now k t.nodes in
    let parts = nodes_parts free s.before (append part s.after) (subst (AreNodes free) s.gives own.2) in
    record {
      element = is;
      within = within;
      one = one;
      nodes = (nodes_parts free part s.after parts.1).0;
      differ = λ m. let x = times_changed m parent 1 change d.forest it l in let y = t.differ m in let z = j.numbers m in omega (arith, x, y, z);
      few = (let x = count_changed parent 1 change d.forest it l in let y = t.few in let z = j.size in omega (arith, x, y, z));
      shallow = subst (λ o. deepest_of (depth_of o + 1) part ≤ 128) (sym e.is_found)
          (let x = deepest_here parent 1 f now k in let y = t.shallow in let z = j.deep (e.depth + 1) in omega (arith, x, y, z));
    }

-- a block is one element
one_rooted : (f : Forest) (free : ℕ) → HasRoot f → IsOne (renumbered free f)
one_rooted none free r = absurd r
one_rooted (text n chars next) free r = absurd r
one_rooted (element n name bindings attributes children next) free r = ap (renumbered (free + 1 + count children)) r.1

-- siblings that stand deeper
deeper : (low high : ℕ) (f : Forest) → low ≤ high → deepest_of low f ≤ deepest_of high f
deeper low high none l = omega arith
deeper low high (text n chars next) l = deeper low high next l
deeper low high (element n name bindings attributes children next) l =
    let i = deeper (low + 1) (high + 1) children (omega (arith, l)) in let j = deeper low high next l in omega (arith, i, j, l)

pub one_block : (scope : List Binding) (its : List Item) (free depth : ℕ) → one_element its ≡ true → list_any has_too_many (tags_in scope [] its) ≡ false
    → list_any has_double (tags_in scope [] its) ≡ false → count (block scope its) ≤ 131072 → deepest_of (depth + 1) (block scope its) ≤ 128 → IsOne (renumbered free (block scope its))
one_block scope its free depth one many double few shallow =
    let low = deeper 1 (depth + 1) (block scope its) (omega arith) in
    one_rooted (block scope its) free (block_tree scope its one many double few (omega (arith, low, shallow))).root

-- an attribute that is set or gone is written at its place
abbrev attribute : Expanded → List ℕ → Attribute
attribute name value = record { name = name; value = value }

put_behind : (name : Expanded) (value : List ℕ) (xs : List Attribute) → has_name name xs ≡ false → insert xs (place_of name xs) (attribute name value) ≡ set_in name value xs
put_behind name value [] h = refl
put_behind name value (a ∷ more) h =
    let z = or_parts (same_name a.name name) (has_name name more) h in
    let k : place_of name (a ∷ more) ≡ suc (place_of name more) = ap (λ b. if b then 0 else place_of name more + 1) z.0 ∙ omega arith in
    ap (λ j. insert (a ∷ more) j (attribute name value)) k ∙ ap (λ l. a ∷ l) (put_behind name value more z.1)
    ∙ sym (ap (λ b. if b then attribute name value ∷ more else a ∷ set_in name value more) z.0)

pub set_written : (name : Expanded) (value : List ℕ) (xs : List Attribute) → written name (place_of name xs) (Some value) xs ≡ set_in name value xs
set_written name value xs = by (has_name name xs) refl
  where
    by : (b : Bool) → has_name name xs ≡ b → written name (place_of name xs) (Some value) xs ≡ set_in name value xs
    by true h = written_has name (place_of name xs) value xs h
    by false h = written_lacks name (place_of name xs) value xs h ∙ put_behind name value xs h

place_within : (name : Expanded) (xs : List Attribute) → place_of name xs ≤ length xs
place_within name [] = omega arith
place_within name (a ∷ more) = by (place_within name more) (same_name a.name name)
  where
    by : place_of name more ≤ length more → (b : Bool) → (if b then 0 else place_of name more + 1) ≤ suc (length more)
    by i true = omega arith
    by i false = omega (arith, i)

pub at_place_of : (name : Expanded) (xs : List Attribute) → has_name name xs ≡ true → IsAt name (place_of name xs) xs
at_place_of name [] h = absurd (false≢true h)
at_place_of name (a ∷ more) h = by (at_place_of name more) (same_name a.name name) refl h
  where
    by : (has_name name more ≡ true → IsAt name (place_of name more) more) → (b : Bool) → same_name a.name name ≡ b → (same_name a.name name || has_name name more) ≡ true → IsAt name (place_of name (a ∷ more)) (a ∷ more)
    by rest true e k =
        (a.value, ap (λ b. slice_get (a ∷ more) (if b then 0 else place_of name more + 1)) e ∙ ap (λ n. Some (attribute n a.value)) (same_name_is a.name name e))
    by rest false e k =
        let i = rest (sym (ap (λ b. b || has_name name more) e) ∙ k) in
        let j : place_of name (a ∷ more) ≡ suc (place_of name more) = ap (λ b. if b then 0 else place_of name more + 1) e ∙ omega arith in
        (i.0, ap (slice_get (a ∷ more)) j ∙ i.1)

pub can_set : (name : Expanded) (value : List ℕ) (xs : List Attribute) (bindings : List Binding) → has_no_room name bindings xs ≡ false → CanWrite name (place_of name xs) (Some value) xs bindings
can_set name value xs bindings room = by (has_name name xs) refl room
  where
    by : (b : Bool) → has_name name xs ≡ b → (not (has_name name xs) && nat_le 256 (length xs + length bindings)) ≡ false → CanWrite name (place_of name xs) (Some value) xs bindings
    by true h r = inl (at_place_of name xs h)
    by false h r =
        let k : nat_le 256 (length xs + length bindings) ≡ false = sym (ap (λ b. not b && nat_le 256 (length xs + length bindings)) h) ∙ r in
        inr (record { lacks = h; within = place_within name xs; few = grind (arith, nat_tests, k) })

-- the namespace of a name that an attribute has
pub space_set : (name : Expanded) (value : List ℕ) (xs : List Attribute) → AreNamespaces (set_in name value xs) → IsNamespace name.namespace
space_set name value [] a = a.0
space_set name value (x ∷ more) a = by (space_set name value more) (same_name x.name name) a
  where
    by : (AreNamespaces (set_in name value more) → IsNamespace name.namespace) → (b : Bool) → AreNamespaces (if b then attribute name value ∷ more else x ∷ set_in name value more) → IsNamespace name.namespace
    by rest true h = h.0
    by rest false h = rest h.1

pub space_has : (name : Expanded) (xs : List Attribute) → has_name name xs ≡ true → AreNamespaces xs → IsNamespace name.namespace
space_has name [] h a = absurd (false≢true h)
space_has name (x ∷ more) h a = by (λ k. space_has name more k a.1) (same_name x.name name) refl h
  where
    by : (has_name name more ≡ true → IsNamespace name.namespace) → (b : Bool) → same_name x.name name ≡ b → (same_name x.name name || has_name name more) ≡ true → IsNamespace name.namespace
    by rest true e k = subst (λ (n : Expanded). IsNamespace n.namespace) (same_name_is x.name name e) a.0
    by rest false e k = rest (sym (ap (λ b. b || has_name name more) e) ∙ k)

-- a node that is changed in one way by two changes
pub replaced_same : (key depth : ℕ) (one two : Forest → Forest) (f : Forest) (it : Found) → Lies key depth f it → one it.node ≡ two it.node → replaced key one f ≡ replaced key two f
replaced_same key depth one two none it l e = absurd l
replaced_same key depth one two (text n chars next) it (inl l) e =
    rw (l.0) (ap (λ g. append g next) (subst (λ (i : Found). one i.node ≡ two i.node) l.1 e))
replaced_same key depth one two (text n chars next) it (inr l) e =
    past_text key one n chars next l.0 ∙ ap (text n chars) (replaced_same key depth one two next it l.1 e) ∙ sym (past_text key two n chars next l.0)
replaced_same key depth one two (element n name bindings attributes children next) it (inl l) e =
    rw (l.0) (ap (λ g. append g next) (subst (λ (i : Found). one i.node ≡ two i.node) l.1 e))
replaced_same key depth one two (element n name bindings attributes children next) it (inr (inl l)) e =
    below_element key one n name bindings attributes children next l.0 l.1
    ∙ ap (λ g. element n name bindings attributes g next) (replaced_same key (depth + 1) one two children it l.2 e)
    ∙ sym (below_element key two n name bindings attributes children next l.0 l.1)
replaced_same key depth one two (element n name bindings attributes children next) it (inr (inr l)) e =
    past_element key one n name bindings attributes children next l.0 l.1
    ∙ ap (element n name bindings attributes children) (replaced_same key depth one two next it l.2 e)
    ∙ sym (past_element key two n name bindings attributes children next l.0 l.1)
