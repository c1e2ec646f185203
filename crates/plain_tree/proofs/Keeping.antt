-- Trees that are made node by node stay trees.
use Rattle.std.proofs.Common.{◌≡◌, inl, inr, ℕ, ◌+◌, ◌≤◌, ◌<◌, List, [], ◌∷◌, ◌++◌, Bool, true, false, ◌==◌, ◌||◌, Option, Some, None, Result, Ok, Err, OnOk, OnErr, length, refl, sym, ap, ◌∙◌, arith, subst}
use Rattle.std.specs.List.{list_any}
use Rattle.std.specs.Str.{bytes_eq}
use Rattle.std.proofs.lemmas.Bool.{or_parts}
use Rattle.std.proofs.lemmas.Bool.Decides.{nat_tests}
use Rattle.std.proofs.lemmas.List.{length-append}
use Rattle.std.proofs.lemmas.List.Folds.{list_any-append}
use Rattle.tree_rows.specs.Forest.{Forest, none, text, element, Document, count, deepest_of}
use Rattle.tree_rows.specs.Kinds.{kind_of}
use Rattle.tree_rows.specs.Naming.{same_name}
use Rattle.tree_rows.specs.Rows.{siblings}
use Rattle.tree_rows.specs.Whole.{repeats_prefix, repeats_name, IsNamespace, AreNamespaces, IsNamed, AreNodes, times, HasRoot, IsTree}
use Rattle.tree_rows.specs.declared.name.Expanded.{Expanded}
use Rattle.tree_rows.specs.declared.row.Attribute.{Attribute}
use Rattle.tree_rows.specs.declared.row.Binding.{Binding}
use Rattle.tree_rows.specs.declared.row.Row.{Row}
use Rattle.tree_rows.specs.declared.row.Content.TheVariants as contents
use Rattle.tree_rows.specs.declared.row.NodeKind.TheVariants.{Element}
use Rattle.tree_building.specs.Shape.{AreSound}
use Rattle.tree_edits.specs.Edits.{has, Found, found}
use Rattle.tree_edits.proofs.Lying.{Lies, lies, deepest_here}
use Rattle.tree_edits.proofs.Keeping.{IsAlone, found_alone, one_if, joins_last, changed_tree, children_put}
use Rattle.plain_tree.specs.Changes.{Changes}
use Rattle.plain_tree.specs.Nodes.{Node, first_of, node_at}
use Rattle.plain_tree.specs.Putting.{changed, with_last, with_attribute, with_binding, depth_by, depth_of, attributes_by, attributes_of, bindings_by, bindings_of, has_name, has_prefix}
use Rattle.plain_tree.proofs.KindLaws.{kind_in, kind_found, kind_is_found}

-- the element of a number, where it was found
pub record IsFound (key : ℕ) (f : Forest) : Type 0 where
  pub depth : ℕ
  pub number : ℕ
  pub name : Expanded
  pub bindings : List Binding
  pub attributes : List Attribute
  pub children : Forest
  pub is_found : found key 1 f ≡ Some (record { depth = depth; node = element number name bindings attributes children none })

found_in : (key depth : ℕ) (f node : Forest) → found key 1 f ≡ Some (record { depth = depth; node = node }) → IsAlone node → kind_in node ≡ Some Element → IsFound key f
found_in key depth f none is alone kind = absurd alone
found_in key depth f (text n chars next) is alone kind = absurd (cc kind)
found_in key depth f (element n name bindings attributes children next) is alone kind = record {
  depth = depth;
  number = n;
  name = name;
  bindings = bindings;
  attributes = attributes;
  children = children;
  is_found = is ∙ ap (λ g. Some (record { depth = depth; node = element n name bindings attributes children g })) alone;
}

found_by : (key : ℕ) (f : Forest) (o : Option Found) → found key 1 f ≡ o → kind_found o ≡ Some Element → IsFound key f
found_by key f None is kind = absurd (cc kind)
found_by key f (Some it) is kind = found_in key it.depth f it.node is (found_alone key f it is) kind

element_found : (key : ℕ) (f : Forest) → kind_of key f ≡ Some Element → IsFound key f
element_found key f kind = found_by key f (found key 1 f) refl (kind_is_found key 1 f Element kind)

-- the parts of an element that was found
node_missing : (key : ℕ) (f : Forest) → has key f ≡ false → node_at key f ≡ None
node_missing key none h = refl
node_missing key (text n chars next) h =
    let both = or_parts (n == key) (has key next) h in rw (both.0) (node_missing key next both.1)
node_missing key (element n name bindings attributes children next) h =
    let both = or_parts (n == key) (has key children || has key next) h in
    let later = or_parts (has key children) (has key next) both.1 in
    rw (both.0, node_missing key children later.0) (node_missing key next later.1)

abbrev Shows : Forest → Option Node → Type 0
Shows none o = Unit {0}
Shows (text n chars next) o = Unit {0}
Shows (element n name bindings attributes children next) o =
    o ≡ Some (record { content = contents.Element name; bindings = bindings; attributes = attributes; children = children })

first_shows : (node : Forest) (a b : Option Node) → Shows node a → Shows node (first_of a b)
first_shows none a b s = tt
first_shows (text n chars next) a b s = tt
first_shows (element n name bindings attributes children next) a b s = ap (λ o. first_of o b) s

shows : (key depth : ℕ) (f : Forest) (it : Found) → Lies key depth f it → Shows it.node (node_at key f)
shows key depth none it l = absurd l
shows key depth (text n chars next) it (inl l) = subst (λ (i : Found). Shows i.node (node_at key (text n chars next))) (sym l.1) tt
shows key depth (text n chars next) it (inr l) = rw (l.0) (shows key depth next it l.1)
shows key depth (element n name bindings attributes children next) it (inl l) =
    subst (λ (i : Found). Shows i.node (node_at key (element n name bindings attributes children next))) (sym l.1) (rw (l.0) refl)
shows key depth (element n name bindings attributes children next) it (inr (inl l)) =
    rw (l.0) (first_shows it.node (node_at key children) (node_at key next) (shows key (depth + 1) children it l.2))
shows key depth (element n name bindings attributes children next) it (inr (inr l)) =
    rw (l.0, node_missing key children l.1) (shows key depth next it l.2)

node_is : (key : ℕ) (f : Forest) (e : IsFound key f)
    → node_at key f ≡ Some (record { content = contents.Element e.name; bindings = e.bindings; attributes = e.attributes; children = e.children })
node_is key f e = shows key 1 f (record { depth = e.depth; node = element e.number e.name e.bindings e.attributes e.children none }) (lies key 1 f _ e.is_found)

-- a number that no node has is given no time
not_times : (j n : ℕ) → (n == j) ≡ false → one_if (n == j) ≡ 0
not_times j n e = rw e refl

has_none : (key : ℕ) (f : Forest) → has key f ≡ false → times key f ≡ 0
has_none key none h = refl
has_none key (text n chars next) h =
    let both = or_parts (n == key) (has key next) h in
    let own = not_times key n both.0 in
    let later = has_none key next both.1 in
    omega (arith, own, later)
has_none key (element n name bindings attributes children next) h =
    let both = or_parts (n == key) (has key children || has key next) h in
    let parts = or_parts (has key children) (has key next) both.1 in
    let own = not_times key n both.0 in
    let below = has_none key children parts.0 in
    let later = has_none key next parts.1 in
    omega (arith, own, below, later)

new_once : (d : Document) (node j : ℕ) → IsTree d → has node d.forest ≡ false → (t : Bool) → (node == j) ≡ t → times j d.forest + one_if t ≤ 1
new_once d node j tree fresh true e =
    let is : node ≡ j = grind (arith, nat_tests, e) in
    let unused : times j d.forest ≡ 0 = subst (λ k. times k d.forest ≡ 0) is (has_none node d.forest fresh) in
    omega (arith, unused)
new_once d node j tree fresh false e = omega (arith, tree.differ j)

bare : (name : Expanded) → IsNamespace name.namespace → IsNamed name [] []
bare name space = record { namespace = space; namespaces = tt; prefixes = refl; names = refl; few = omega arith }

-- a node that is put last
node_put : (d : Document) (parent node : ℕ) (new : Forest) → IsTree d → kind_of parent d.forest ≡ Some Element → AreNodes d.next_free new → count new ≡ 1
    → ((j : ℕ) → times j new ≡ one_if (node == j)) → has node d.forest ≡ false → count d.forest < 131072
    → ((depth : ℕ) → depth_of parent d.forest ≡ depth → deepest_of (depth + 1) new ≤ 128) → IsTree (changed parent (with_last new) d)
node_put d parent node new tree kind nodes one numbers fresh few deep =
    let e = element_found parent d.forest kind in
    children_put d parent d.next_free e.depth e.number e.name e.bindings e.attributes e.children (with_last new) new _ tree e.is_found refl
    (joins_last new e.children) (omega arith) nodes
    (λ j. let once = new_once d node j tree fresh (node == j) refl in omega (arith, once, numbers j))
    (omega (arith, one, few)) (deep e.depth (ap depth_by e.is_found))

pub element_put : (d : Document) (parent node : ℕ) (name : Expanded) → IsTree d → kind_of parent d.forest ≡ Some Element → 0 < node → has node d.forest ≡ false → node < d.next_free
    → count d.forest < 131072 → depth_of parent d.forest < 128 → IsNamespace name.namespace → IsTree (changed parent (with_last (element node name [] [] none none)) d)
element_put d parent node name tree kind above fresh below few shallow space =
    node_put d parent node (element node name [] [] none none) tree kind ((above, below), bare name space, tt, tt) refl (λ j. omega arith) fresh few
    (λ depth is. omega (arith, is, shallow))

pub chars_put : (d : Document) (parent node : ℕ) (chars : List ℕ) → IsTree d → kind_of parent d.forest ≡ Some Element → 0 < node → has node d.forest ≡ false → node < d.next_free
    → count d.forest < 131072 → IsTree (changed parent (with_last (text node chars none)) d)
chars_put d parent node chars tree kind above fresh below few =
    node_put d parent node (text node chars none) tree kind ((above, below), tt) refl (λ j. omega arith) fresh few (λ depth is. omega arith)

-- a name or a prefix more
names_more : (attributes : List Attribute) (new : Attribute) → repeats_name attributes ≡ false → has_name new.name attributes ≡ false → repeats_name (attributes ++ new ∷ []) ≡ false
names_more [] new repeats lacks = refl
names_more (a ∷ more) new repeats lacks =
    let old = or_parts (list_any (λ other. same_name a.name other.name) more) (repeats_name more) repeats in
    let other = or_parts (same_name a.name new.name) (has_name new.name more) lacks in
    rw (list_any-append (λ other. same_name a.name other.name) more (new ∷ []), old.0, other.0) (names_more more new old.1 other.1)

prefixes_more : (bindings : List Binding) (new : Binding) → repeats_prefix bindings ≡ false → has_prefix new.prefix bindings ≡ false → repeats_prefix (bindings ++ new ∷ []) ≡ false
prefixes_more [] new repeats lacks = refl
prefixes_more (b ∷ more) new repeats lacks =
    let old = or_parts (list_any (λ other. bytes_eq b.prefix other.prefix) more) (repeats_prefix more) repeats in
    let other = or_parts (bytes_eq b.prefix new.prefix) (has_prefix new.prefix more) lacks in
    rw (list_any-append (λ other. bytes_eq b.prefix other.prefix) more (new ∷ []), old.0, other.0) (prefixes_more more new old.1 other.1)

namespaces_more : (attributes : List Attribute) (new : Attribute) → AreNamespaces attributes → IsNamespace new.name.namespace → AreNamespaces (attributes ++ new ∷ [])
namespaces_more [] new a space = (space, tt)
namespaces_more (first ∷ more) new a space = (a.0, namespaces_more more new a.1 space)

-- an element whose names change keeps a tree
renamed : (d : Document) (key : ℕ) (change : Forest → Forest) (e : IsFound key d.forest) (bindings : List Binding) (attributes : List Attribute) → IsTree d
    → change (element e.number e.name e.bindings e.attributes e.children none) ≡ element e.number e.name bindings attributes e.children none
    → (IsNamed e.name e.bindings e.attributes → IsNamed e.name bindings attributes) → IsTree (changed key change d)
renamed d key change e bindings attributes tree gives named =
    let it : Found = record { depth = e.depth; node = element e.number e.name e.bindings e.attributes e.children none } in
    let here = deepest_here key 1 d.forest it (lies key 1 d.forest it e.is_found) in
    changed_tree d key d.next_free change none it tree e.is_found (omega arith)
    (λ _ r. subst HasRoot (sym gives) r)
    (λ a. subst (AreNodes d.next_free) (sym gives) (a.0, named a.1, a.2, tt))
    (λ j. let g = ap (times j) gives in omega (arith, g))
    (λ j. let one = tree.differ j in omega (arith, one))
    (let g = ap count gives in omega (arith, g))
    (let few = tree.few in omega (arith, few))
    (let g = ap (deepest_of e.depth) gives in let low = tree.shallow in omega (arith, g, here, low))

pub attribute_put : (d : Document) (key : ℕ) (new : Attribute) → IsTree d → kind_of key d.forest ≡ Some Element → has_name new.name (attributes_of key d.forest) ≡ false
    → length (attributes_of key d.forest) + length (bindings_of key d.forest) < 256 → IsNamespace new.name.namespace → IsTree (changed key (with_attribute new) d)
attribute_put d key new tree kind lacks few space =
    let e = element_found key d.forest kind in
    let is = node_is key d.forest e in
    let own : attributes_of key d.forest ≡ e.attributes = ap attributes_by is in
    let bound : bindings_of key d.forest ≡ e.bindings = ap bindings_by is in
    let lacks_it : has_name new.name e.attributes ≡ false = ap (has_name new.name) (sym own) ∙ lacks in
    let long = length-append e.attributes (new ∷ []) in
    let own_long = ap length own in
    let bound_long = ap length bound in
    renamed d key (with_attribute new) e e.bindings (e.attributes ++ new ∷ []) tree refl (λ n. record {
      namespace = n.namespace;
      namespaces = namespaces_more e.attributes new n.namespaces space;
      prefixes = n.prefixes;
      names = names_more e.attributes new n.names lacks_it;
      few = omega (arith, few, long, own_long, bound_long);
    })

pub binding_put : (d : Document) (key : ℕ) (new : Binding) → IsTree d → kind_of key d.forest ≡ Some Element → has_prefix new.prefix (bindings_of key d.forest) ≡ false
    → length (attributes_of key d.forest) + length (bindings_of key d.forest) < 256 → IsTree (changed key (with_binding new) d)
binding_put d key new tree kind lacks few =
    let e = element_found key d.forest kind in
    let is = node_is key d.forest e in
    let own : attributes_of key d.forest ≡ e.attributes = ap attributes_by is in
    let bound : bindings_of key d.forest ≡ e.bindings = ap bindings_by is in
    let lacks_it : has_prefix new.prefix e.bindings ≡ false = ap (has_prefix new.prefix) (sym bound) ∙ lacks in
    let long = length-append e.bindings (new ∷ []) in
    let own_long = ap length own in
    let bound_long = ap length bound in
    renamed d key (with_binding new) e (e.bindings ++ new ∷ []) e.attributes tree refl (λ n. record {
      namespace = n.namespace;
      namespaces = n.namespaces;
      prefixes = prefixes_more e.bindings new n.prefixes lacks_it;
      names = n.names;
      few = omega (arith, few, long, own_long, bound_long);
    })

pub root_tree : (name : Expanded) (free : ℕ) → 1 < free → IsNamespace name.namespace → IsTree (record { forest = element 1 name [] [] none none; next_free = free })
root_tree name free above space = record {
  root = (refl, refl);
  nodes = ((omega arith, above), bare name space, tt, tt);
  differ = λ key. once key (1 == key);
  few = omega arith;
  shallow = omega arith;
}
  where
    once : (key : ℕ) (t : Bool) → one_if t + 0 ≤ 1
    once key true = omega arith
    once key false = omega arith

-- what a call that changes the rows leaves
pub after_change : {X E : Type 0} (r : Result X E) (old new : List Row) (free key : ℕ) (change : Forest → Forest)
    → AreSound old → IsTree (record { forest = siblings old 1; next_free = free })
    → IsTree (changed key change (record { forest = siblings old 1; next_free = free }))
    → OnOk r (Changes old new key change) → OnErr r (new ≡ old)
    → AreSound new × IsTree (record { forest = siblings new 1; next_free = free })
after_change (Ok x) old new free key change sound tree kept ok err =
    (ok.sound, subst (λ f. IsTree (record { forest = f; next_free = free })) (sym ok.gives) kept)
after_change (Err e) old new free key change sound tree kept ok err =
    (subst AreSound (sym err) sound, subst (λ rows. IsTree (record { forest = siblings rows 1; next_free = free })) (sym err) tree)

pub kept_by : {X E : Type 0} (r : Result X E) (old new : List Row) (free key : ℕ) (change : Forest → Forest) (d : Document)
    → record { forest = siblings old 1; next_free = free } ≡ d → AreSound old → IsTree (record { forest = siblings old 1; next_free = free })
    → (IsTree d → IsTree (changed key change d)) → OnOk r (Changes old new key change) → OnErr r (new ≡ old)
    → AreSound new × IsTree (record { forest = siblings new 1; next_free = free })
kept_by r old new free key change d view sound tree keeps ok err =
    after_change r old new free key change sound tree (subst (λ d. IsTree (changed key change d)) (sym view) (keeps (subst IsTree view tree))) ok err
