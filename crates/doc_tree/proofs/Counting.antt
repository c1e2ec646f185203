-- There are as many nodes by number as in the tree for which they stand.
use Rattle.std.proofs.Common.{◌≡◌, ◌≢◌, ℕ, zero, suc, ◌+◌, ◌<◌, ◌≤◌, List, [], ◌∷◌, length, sym, ap, ◌∙◌, Bool, true, false, ◌==◌, if◌then◌else◌, Option, Some, None, Result, Ok, Err, OnOk, OnErr, refl, inl, inr, arith, append-nil}
use Rattle.std.proofs.lemmas.Bool.{eq-eqb, ne_eqb, cases_eq, false≢true, or_parts, ltb-false}
use Rattle.std.specs.Prelude.{nat_lt}
use Rattle.xs_names.specs.Names.{NameTable}
use Rattle.tree_rows.specs.Forest.{Forest, none, text, element, Document, count}
use Rattle.tree_rows.specs.Whole.{times, AreNodes}
use Rattle.tree_edits.specs.Edits.{Found, found, replaced, with_children, renumbered}
use Rattle.tree_edits.specs.Tests.{is_element, element_node, with_nodes}
use Rattle.tree_edits.proofs.Keeping.{joins_at, count-renumbered}
use Rattle.tree_edits.proofs.Lying.{lies, count_changed}
use Rattle.doc_nodes.specs.Nodes.{Node, Nodes, node, IsNode, Holds}
use Rattle.doc_nodes.specs.declared.content.Content.{Content}
use Rattle.doc_nodes.specs.declared.content.Content.TheVariants as contents
use Rattle.doc_nodes.specs.declared.content.Element.{Element}
use Rattle.doc_nodes.proofs.Among.{same_or_other}
use Rattle.doc_changes.specs.Stands.{StandsFor}
use Rattle.doc_changes.specs.Held.{parent_at, set_number}
use Rattle.doc_changes.specs.Parts.{IsOver}
use Rattle.doc_changes.proofs.Changing.{own_below, is_over, placed}
use Rattle.doc_changes.proofs.Holding.{HoldsElement}
use Rattle.doc_changes.proofs.Lain.{at, lain, apart}
use Rattle.doc_changes.proofs.Standing.{has_times, no_times}
use Rattle.doc_changes.specs.Fits.{Fits}
use Rattle.tree_edits.specs.Inverses as law
use Rattle.doc_tree.specs.Changes.{Means, put_count}
use Rattle.doc_tree.specs.declared.change.Change.{Change}
use Rattle.doc_tree.specs.declared.change.Change.TheVariants as changes
use Rattle.doc_tree.proofs.Counted.{nodes_counted}
use Rattle.doc_tree.proofs.InverseRows.{rows_front}
use Rattle.doc_tree.specs.Counted.{live_count}
use Rattle.doc_tree.proofs.Answering.{no_such}

-- the sum over the numbers below n
sums : (ℕ → ℕ) → ℕ → ℕ
sums g zero = 0
sums g (suc n) = g 0 + sums (λ k. g (suc k)) n

sums_same : (g h : ℕ → ℕ) (n : ℕ) → ((k : ℕ) → k < n → g k ≡ h k) → sums g n ≡ sums h n
unfolding sums
sums_same g h zero e = refl
sums_same g h (suc n) e =
    let first = e 0 (omega arith) in let rest = sums_same (λ k. g (suc k)) (λ k. h (suc k)) n (λ k l. e (suc k) (omega (arith, l))) in
    omega (arith, first, rest)

sums_plus : (g h : ℕ → ℕ) (n : ℕ) → sums (λ k. g k + h k) n ≡ sums g n + sums h n
unfolding sums
sums_plus g h zero = omega arith
sums_plus g h (suc n) = let rest = sums_plus (λ k. g (suc k)) (λ k. h (suc k)) n in omega (arith, rest)

sums_none : (n : ℕ) → sums (λ k. 0) n ≡ 0
unfolding sums
sums_none zero = refl
sums_none (suc n) = let rest = sums_none n in omega (arith, rest)

one_at : Bool → ℕ
one_at true = 1
one_at false = 0

sums_one : (number n : ℕ) → number < n → sums (λ k. one_at (number == k)) n ≡ 1
unfolding sums one_at
sums_one number zero l = absurd (omega (arith, l))
sums_one zero (suc n) l =
    let none_later = sums_same (λ k. one_at (0 == suc k)) (λ k. 0) n (λ k q. ap one_at (ne_eqb 0 (suc k) (λ e. absurd (omega (arith, e))))) ∙ sums_none n in
    let first : one_at (0 == 0) ≡ 1 = ap one_at (eq-eqb 0 0 refl) in
    omega (arith, none_later, first)
sums_one (suc number) (suc n) l =
    let same : (k : ℕ) → k < n → one_at (suc number == suc k) ≡ one_at (number == k) = λ k q. elim (cases_eq number k) [
      | inl e ↦ ap one_at (eq-eqb (suc number) (suc k) (ap suc e)) ∙ sym (ap one_at (eq-eqb number k e))
      | inr d ↦ ap one_at (ne_eqb (suc number) (suc k) (λ e. d (omega (arith, e)))) ∙ sym (ap one_at (ne_eqb number k d))
    ] in
    let rest = sums_same (λ k. one_at (suc number == suc k)) (λ k. one_at (number == k)) n same ∙ sums_one number n (omega (arith, l)) in
    let first : one_at (suc number == 0) ≡ 0 = ap one_at (ne_eqb (suc number) 0 (λ e. absurd (omega (arith, e)))) in
    omega (arith, rest, first)

one_is : (b : Bool) → (if b then 1 else 0) ≡ one_at b
unfolding one_at
one_is true = refl
one_is false = refl

-- each node of a tree is counted under its number
tallied : (free : ℕ) (f : Forest) → AreNodes free f → sums (λ k. times k f) free ≡ count f
tallied free none a = sums_none free
tallied free (text number chars next) a =
    let own = sums_same (λ k. if number == k then 1 else 0) (λ k. one_at (number == k)) free (λ k l. one_is (number == k)) ∙ sums_one number free a.0.1 in
    let rest = tallied free next a.1 in
    let both = sums_plus (λ k. if number == k then 1 else 0) (λ k. times k next) free in
    omega (arith, own, rest, both)
tallied free (element number name bindings attributes children next) a =
    let own = sums_same (λ k. if number == k then 1 else 0) (λ k. one_at (number == k)) free (λ k l. one_is (number == k)) ∙ sums_one number free a.0.1 in
    let below = tallied free children a.2 in
    let rest = tallied free next a.3 in
    let both = sums_plus (λ k. if number == k then 1 else 0) (λ k. times k children + times k next) free in
    let more = sums_plus (λ k. times k children) (λ k. times k next) free in
    omega (arith, own, below, rest, both, more)

live_at : Option Node → ℕ
live_at None = 0
live_at (Some it) = 1

live_sums : (ns : Nodes) → live_count ns ≡ sums (λ k. live_at (node ns k)) (length ns)
unfolding sums live_at
live_sums [] = refl
live_sums (None ∷ ns) = let rest = live_sums ns in omega (arith, rest)
live_sums (Some it ∷ ns) = let rest = live_sums ns in omega (arith, rest)

-- as many nodes are live as the tree has
pub counted : (t : NameTable) (ns : Nodes) (d : Document) → StandsFor t ns d → live_count ns ≡ count d.forest
unfolding live_at
counted t ns d z = live_sums ns ∙ ap (sums (λ k. live_at (node ns k))) z.next ∙ sums_same (λ k. live_at (node ns k)) (λ k. times k d.forest) d.next_free (λ k l. each k (node ns k) refl) ∙ tallied d.next_free d.forest z.tree.nodes
  where
    each : (k : ℕ) (o : Option Node) → node ns k ≡ o → live_at (node ns k) ≡ times k d.forest
    each k None q = ap live_at q ∙ sym (no_times k d.forest (no_such t ns d z k q))
    each k (Some it) q =
        let one = has_times k d.forest (z.only k it q) in let most = z.tree.differ k in let own : live_at (node ns k) ≡ 1 = ap live_at q in
        omega (arith, one, most, own)

-- a node that holds something else is still there
pub held_count : (old new : Nodes) (key : ℕ) (content : Content) (x : Node) → IsNode old key x → Holds old new key content → live_count new ≡ live_count old
unfolding live_at
held_count old new key content x there h =
    live_sums new ∙ ap (sums (λ k. live_at (node new k))) h.size ∙ sums_same (λ k. live_at (node new k)) (λ k. live_at (node old k)) (length old) (λ k l. each k) ∙ sym (live_sums old)
  where
    each : (k : ℕ) → live_at (node new k) ≡ live_at (node old k)
    each k = elim (same_or_other k key) [
      | inl e ↦ ap (λ m. live_at (node new m)) e ∙ ap live_at (h.here x there) ∙ sym (ap (λ m. live_at (node old m)) e ∙ ap live_at there)
      | inr d ↦ ap live_at (h.others k d)
    ]

-- a node is taken away with all below it
pub removed_count : (t : NameTable) (old new : Nodes) (d : Document) (z : StandsFor t old d) (key : ℕ) (x : Node) (there : IsNode old key x)
    → count (replaced key (λ node. none) d.forest) + (count (own_below t old new d z key x there) + 1) ≡ count d.forest
removed_count t old new d z key x there =
    let a = count_changed key 1 (λ node. none) d.forest (at t old d z key x there).0 (lain t old d z key x there) in let b = (apart t old d z key x there).size in
    omega (arith, a, b)

-- new nodes among the children of an element
more_children : (place : ℕ) (new one : Forest) → element_node one ≡ true → count (with_children place new one) ≡ count one + count new
more_children place new none h = absurd (false≢true h)
more_children place new (text number chars next) h = absurd (false≢true h)
more_children place new (element number name bindings attributes children next) h = let j = (joins_at place new children).size in omega (arith, j)

pub inserted_count : (d : Document) (parent place : ℕ) (new : Forest) → is_element (found parent 1 d.forest) ≡ true → count (replaced parent (with_children place new) d.forest) ≡ count d.forest + count new
inserted_count d parent place new h = by (found parent 1 d.forest) refl h
  where
    by : (o : Option Found) → found parent 1 d.forest ≡ o → is_element o ≡ true → count (replaced parent (with_children place new) d.forest) ≡ count d.forest + count new
    by None e k = absurd (false≢true k)
    by (Some it) e k =
        let c = count_changed parent 1 (with_children place new) d.forest it (lies parent 1 d.forest it e) in let w = more_children place new it.node k in
        omega (arith, c, w)

-- the attributes of an element change, or nothing does
pub set_count : {T E : Type 0} (old new : Nodes) (key name : ℕ) (value : List ℕ) → HoldsElement old key → (r : Result T E)
    → OnOk r ((it : Node) (e : Element) → IsNode old key it → it.content ≡ contents.Element e → Holds old new key (contents.Element (record e { attributes = set_number name value e.attributes })))
    → OnErr r (new ≡ old) → live_count new ≡ live_count old
set_count old new key name value h (Ok x) ok err = held_count old new key _ h.it h.is (ok h.it h.e h.is h.holds)
set_count old new key name value h (Err e) ok err = ap live_count err

-- as many nodes are gone as were taken away
pub removed_is : (t : NameTable) (old new : Nodes) (d : Document) → StandsFor t old d → (key gone : ℕ) → parent_at old key ≢ None
    → ((u : NameTable) (below : Forest) → IsOver u old key below → gone ≡ count below + 1) → StandsFor t new (record d { forest = replaced key (λ node. none) d.forest }) → live_count new + gone ≡ live_count old
removed_is t old new d z key gone h g y =
    let p = placed old key z.links h in
    let a = removed_count t old new d z key p.it p.is in
    let b = g t (own_below t old new d z key p.it p.is) (is_over t old new d z key p.it p.is) in
    let c = counted t old d z in
    let e = counted t new (record d { forest = replaced key (λ node. none) d.forest }) y in
    omega (arith, a, b, c, e)

-- a part of the tree was put in
pub planted_count : (t u : NameTable) (old new : Nodes) (d : Document) → StandsFor t old d → (parent place : ℕ) (f : Forest) → Fits d parent place f → StandsFor u new (with_nodes d parent place f)
    → live_count new ≡ live_count old + count f
planted_count t u old new d z parent place f fits y =
    let a = counted t old d z in let b = counted u new (with_nodes d parent place f) y in
    let c = inserted_count d parent place (renumbered d.next_free f) fits.element in let e = count-renumbered d.next_free f in
    omega (arith, a, b, c, e)

pub room_for : (t : NameTable) (old : Nodes) (d : Document) → StandsFor t old d → (parent place : ℕ) (f : Forest) → Fits d parent place f → live_count old + count f ≤ 131072
room_for t old d z parent place f fits =
    let a = counted t old d z in
    let b = or_parts (nat_lt 131072 (count d.forest + count f)) (nat_lt 4294967295 (d.next_free + count f)) fits.few in
    let l = ltb-false 131072 (count d.forest + count f) b.0 in
    omega (arith, a, l)

-- a change that puts nodes back keeps the limit on them
pub put_back_few : (t : NameTable) (old : Nodes) (d : Document) → StandsFor t old d → (c : law.Change) (change : Change) → law.Fits d c → Means t change c → live_count old + put_count change ≤ 131072
put_back_few t old d z (law.put_back parent place f) (changes.PutBack p k rows) fits m =
    let a = counted t old d z in let r = rows_front t 1 rows f [] m.2 in
    let many : length rows ≡ count f = ap length r.are ∙ ap length (append-nil r.front) ∙ r.many in
    let few : count d.forest + count f ≤ 131072 = fits.few in
    omega (arith, a, many, few)
put_back_few t old d z (law.take_out key) (changes.Take node) fits m = let a = counted t old d z in let few : count d.forest ≤ 131072 = z.tree.few in omega (arith, a, few)
put_back_few t old d z (law.rename key name) (changes.Name node n) fits m = let a = counted t old d z in let few : count d.forest ≤ 131072 = z.tree.few in omega (arith, a, few)
put_back_few t old d z (law.write key name place value) (changes.Attr node n k v) fits m = let a = counted t old d z in let few : count d.forest ≤ 131072 = z.tree.few in omega (arith, a, few)
put_back_few t old d z (law.reword key chars) (changes.Chars node other) fits m = let a = counted t old d z in let few : count d.forest ≤ 131072 = z.tree.few in omega (arith, a, few)
put_back_few t old d z c change fits m = absurd m

-- the nodes that a change puts back are there, and those that its inverse puts back are gone
pub changed_count : (t : NameTable) (old new : Nodes) (d : Document) (c : law.Change) (change back : Change) → StandsFor t old d → law.Fits d c → Means t change c
    → StandsFor t new (law.changed d c) → Means t back (law.inverse_of d c) → live_count new + put_count back ≡ live_count old + put_count change
changed_count t old new d c change back z fits means y inverse =
    let a = counted t old d z in let b = counted t new (law.changed d c) y in let e = nodes_counted t d c change back fits means inverse in
    omega (arith, a, b, e)
