-- Documents for which the same nodes stand, under whatever names: they differ in names and texts alone.
use Rattle.std.proofs.Common.{◌≡◌, ℕ, ◌+◌, length, sym, ap, ◌∙◌, subst, Bool, true, false, ◌==◌, ◌||◌, nat_lt, if◌then◌else◌, Option, Some, None, refl, arith}
use Rattle.std.proofs.lemmas.Option.{same_Some}
use Rattle.xs_names.specs.Names.{NameTable}
use Rattle.tree_rows.specs.Forest.{Forest, none, text, element, Document, count, deepest_of}
use Rattle.tree_edits.specs.Edits.{has, Found, found, width}
use Rattle.tree_edits.specs.Tests.{is_element, element_node, width_of, node_width, depth_of}
use Rattle.doc_nodes.specs.Nodes.{Node, Nodes, node}
use Rattle.doc_nodes.specs.declared.content.Content.TheVariants as contents
use Rattle.doc_changes.specs.Stands.{firsts, StandFor, StandsFor}
use Rattle.doc_changes.specs.Fits.{Fits}
use Rattle.doc_changes.proofs.Inserting.{same_head, root_firsts}

abbrev pub Alike : Forest → Forest → Type 0
Alike none none = Unit {0}
Alike none (text m others later) = ⊥
Alike none (element m title scopes pairs below later) = ⊥
Alike (text n chars next) none = ⊥
Alike (text n chars next) (text m others later) = (n ≡ m) × Alike next later
Alike (text n chars next) (element m title scopes pairs below later) = ⊥
Alike (element n name bindings attributes children next) none = ⊥
Alike (element n name bindings attributes children next) (text m others later) = ⊥
Alike (element n name bindings attributes children next) (element m title scopes pairs below later) = (n ≡ m) × Alike children below × Alike next later

alike : (t u : NameTable) (ns : Nodes) (f g : Forest) → StandFor t ns f → StandFor u ns g → firsts f ≡ firsts g → Alike f g
alike t u ns none none a b e = tt
alike t u ns none (text m others later) a b e = let l = ap length e in absurd (omega (arith, l))
alike t u ns none (element m title scopes pairs below later) a b e = let l = ap length e in absurd (omega (arith, l))
alike t u ns (text n chars next) none a b e = let l = ap length e in absurd (omega (arith, l))
alike t u ns (element n name bindings attributes children next) none a b e = let l = ap length e in absurd (omega (arith, l))
alike t u ns (text n chars next) (text m others later) a b e =
    let h = same_head n m (firsts next) (firsts later) e in (h.0, alike t u ns next later a.1 b.1 h.1)
alike t u ns (text n chars next) (element m title scopes pairs below later) a b e =
    let h = same_head n m (firsts next) (firsts later) e in
    let same = same_Some a.0.text b.0.it (sym a.0.is ∙ ap (node ns) h.0 ∙ b.0.is) in
    let c : contents.Chars chars ≡ contents.Element b.0.parts = sym a.0.content ∙ ap (λ (x : Node). x.content) same ∙ b.0.content in absurd (cc c)
alike t u ns (element n name bindings attributes children next) (text m others later) a b e =
    let h = same_head n m (firsts next) (firsts later) e in
    let same = same_Some a.0.it b.0.text (sym a.0.is ∙ ap (node ns) h.0 ∙ b.0.is) in
    let c : contents.Element a.0.parts ≡ contents.Chars others = sym a.0.content ∙ ap (λ (x : Node). x.content) same ∙ b.0.content in absurd (cc c)
alike t u ns (element n name bindings attributes children next) (element m title scopes pairs below later) a b e =
    let h = same_head n m (firsts next) (firsts later) e in
    let same = same_Some a.0.it b.0.it (sym a.0.is ∙ ap (node ns) h.0 ∙ b.0.is) in
    (h.0, alike t u ns children below a.1 b.1 (sym a.0.children_are ∙ ap (λ (x : Node). x.children) same ∙ b.0.children_are), alike t u ns next later a.2 b.2 h.1)

count_alike : (f g : Forest) → Alike f g → count f ≡ count g
count_alike none none a = refl
count_alike none (text m others later) a = absurd a
count_alike none (element m title scopes pairs below later) a = absurd a
count_alike (text n chars next) none a = absurd a
count_alike (text n chars next) (text m others later) a = ap (λ k. 1 + k) (count_alike next later a.1)
count_alike (text n chars next) (element m title scopes pairs below later) a = absurd a
count_alike (element n name bindings attributes children next) none a = absurd a
count_alike (element n name bindings attributes children next) (text m others later) a = absurd a
count_alike (element n name bindings attributes children next) (element m title scopes pairs below later) a =
    λ i. 1 + (count_alike children below a.1 i + count_alike next later a.2 i)

width_alike : (f g : Forest) → Alike f g → width f ≡ width g
width_alike none none a = refl
width_alike none (text m others later) a = absurd a
width_alike none (element m title scopes pairs below later) a = absurd a
width_alike (text n chars next) none a = absurd a
width_alike (text n chars next) (text m others later) a = ap (λ k. 1 + k) (width_alike next later a.1)
width_alike (text n chars next) (element m title scopes pairs below later) a = absurd a
width_alike (element n name bindings attributes children next) none a = absurd a
width_alike (element n name bindings attributes children next) (text m others later) a = absurd a
width_alike (element n name bindings attributes children next) (element m title scopes pairs below later) a = ap (λ k. 1 + k) (width_alike next later a.2)

has_alike : (key : ℕ) (f g : Forest) → Alike f g → has key f ≡ has key g
has_alike key none none a = refl
has_alike key none (text m others later) a = absurd a
has_alike key none (element m title scopes pairs below later) a = absurd a
has_alike key (text n chars next) none a = absurd a
has_alike key (text n chars next) (text m others later) a = λ i. a.0 i == key || has_alike key next later a.1 i
has_alike key (text n chars next) (element m title scopes pairs below later) a = absurd a
has_alike key (element n name bindings attributes children next) none a = absurd a
has_alike key (element n name bindings attributes children next) (text m others later) a = absurd a
has_alike key (element n name bindings attributes children next) (element m title scopes pairs below later) a =
    λ i. a.0 i == key || (has_alike key children below a.1 i || has_alike key next later a.2 i)

abbrev FoundAlike : Option Found → Option Found → Type 0
FoundAlike None None = Unit {0}
FoundAlike None (Some b) = ⊥
FoundAlike (Some a) None = ⊥
FoundAlike (Some a) (Some b) = (a.depth ≡ b.depth) × Alike a.node b.node

choice : (p q : Bool) (x y v w : Option Found) → p ≡ q → FoundAlike x v → FoundAlike y w → FoundAlike (if p then x else y) (if q then v else w)
choice true q x y v w e a b = subst (λ r. FoundAlike x (if r then v else w)) e a
choice false q x y v w e a b = subst (λ r. FoundAlike y (if r then v else w)) e b

found_alike : (key depth : ℕ) (f g : Forest) → Alike f g → FoundAlike (found key depth f) (found key depth g)
found_alike key depth none none a = tt
found_alike key depth none (text m others later) a = absurd a
found_alike key depth none (element m title scopes pairs below later) a = absurd a
found_alike key depth (text n chars next) none a = absurd a
found_alike key depth (text n chars next) (text m others later) a =
    choice (n == key) (m == key) (Some (record { depth = depth; node = text n chars none })) (found key depth next) (Some (record { depth = depth; node = text m others none })) (found key depth later)
    (ap (λ k. k == key) a.0) (refl, (a.0, tt)) (found_alike key depth next later a.1)
found_alike key depth (text n chars next) (element m title scopes pairs below later) a = absurd a
found_alike key depth (element n name bindings attributes children next) none a = absurd a
found_alike key depth (element n name bindings attributes children next) (text m others later) a = absurd a
found_alike key depth (element n name bindings attributes children next) (element m title scopes pairs below later) a =
    choice (n == key) (m == key) (Some (record { depth = depth; node = element n name bindings attributes children none })) (if has key children then found key (depth + 1) children else found key depth next)
    (Some (record { depth = depth; node = element m title scopes pairs below none })) (if has key below then found key (depth + 1) below else found key depth later)
    (ap (λ k. k == key) a.0) (refl, (a.0, a.1, tt))
    (choice (has key children) (has key below) (found key (depth + 1) children) (found key depth next) (found key (depth + 1) below) (found key depth later)
    (has_alike key children below a.1) (found_alike key (depth + 1) children below a.1) (found_alike key depth next later a.2))

node_element : (f g : Forest) → Alike f g → (element_node f ≡ element_node g) × (node_width f ≡ node_width g)
node_element none none a = (refl, refl)
node_element none (text m others later) a = absurd a
node_element none (element m title scopes pairs below later) a = absurd a
node_element (text n chars next) none a = absurd a
node_element (text n chars next) (text m others later) a = (refl, refl)
node_element (text n chars next) (element m title scopes pairs below later) a = absurd a
node_element (element n name bindings attributes children next) none a = absurd a
node_element (element n name bindings attributes children next) (text m others later) a = absurd a
node_element (element n name bindings attributes children next) (element m title scopes pairs below later) a = (refl, width_alike children below a.1)

found_same : (x y : Option Found) → FoundAlike x y → (is_element x ≡ is_element y) × (width_of x ≡ width_of y) × (depth_of x ≡ depth_of y)
found_same None None a = (refl, refl, refl)
found_same None (Some b) a = absurd a
found_same (Some x) None a = absurd a
found_same (Some x) (Some y) a = let n = node_element x.node y.node a.1 in (n.0, n.1, a.0)

-- what fits into one of the documents fits into the other
pub fits_alike : (t u : NameTable) (ns : Nodes) (d e : Document) (parent place : ℕ) (f : Forest) → StandsFor t ns d → StandsFor u ns e → Fits d parent place f → Fits e parent place f
fits_alike t u ns d e parent place f a b fits =
    let k = alike t u ns d.forest e.forest a.nodes b.nodes (root_firsts d.forest a.tree.root ∙ sym (root_firsts e.forest b.tree.root)) in
    let s = found_same (found parent 1 d.forest) (found parent 1 e.forest) (found_alike parent 1 d.forest e.forest k) in
    let free = sym a.next ∙ b.next in let size = count_alike d.forest e.forest k in
    record {
      element = sym s.0 ∙ fits.element;
      within = (let w = fits.within in let x = s.1 in omega (arith, w, x));
      few = sym (λ i. nat_lt 131072 (size i + count f) || nat_lt 4294967295 (free i + count f)) ∙ fits.few;
      shallow = (let w = fits.shallow in let x = ap (λ j. deepest_of (j + 1) f) s.2 in omega (arith, w, x));
    }
