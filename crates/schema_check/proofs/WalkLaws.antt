-- The shapes of the children of each element are found by their numbers behind its own.
use Rattle.std.proofs.Common.{◌≡◌, ℕ, ◌+◌, ◌≤◌, ◌==◌, Bool, true, false, cond, List, [], ◌∷◌, ◌++◌, Option, None, Some, All, find, if◌then◌else◌, refl, sym, ap, subst, ◌∙◌, append_assoc, eq-eqb, arith}
use Rattle.std.proofs.lemmas.List.Elements.{All-nil, All-cons, All-weaker}
use Rattle.tree_rows.specs.Forest.{Forest, none, text, element}
use Rattle.tree_rows.specs.Whole.{times}
use Rattle.tree_rows.specs.declared.name.Expanded.{Expanded}
use Rattle.tree_rows.specs.declared.row.Attribute.{Attribute}
use Rattle.tree_rows.specs.declared.row.Binding.{Binding}
use Rattle.schema_values.specs.GrammarNames.{tag_of}
use Rattle.schema_values.specs.Places.{kind_below}
use Rattle.schema_values.specs.Table.{is_in}
use Rattle.schema_values.specs.declared.grammar_kinds.Class.TheVariants as c
use Rattle.schema_values.specs.declared.grammar_kinds.Kind.{Kind}
use Rattle.schema_faults.specs.Constructs.{Construct, nearest, constructs}
use Rattle.schema_faults.specs.Faults.{code_of}
use Rattle.schema_shape.specs.Shapes.{shape_of, shapes_of, shapes, declares}
use Rattle.schema_shape.specs.declared.forms.Shape.{Shape}
use Rattle.schema_check.proofs.KidLaws.{Kid, kids}
use Rattle.schema_check.proofs.SoundLaws.{AreSound, sound-parts, some-none}

shapes-append : (es more : List Construct) → shapes (es ++ more) ≡ shapes es ++ shapes more
shapes-append [] more = refl
shapes-append (e ∷ es) more = ap (λ (xs : List Shape). shapes_of e ++ xs) (shapes-append es more) ∙ sym (append_assoc (shapes_of e) (shapes es) (shapes more))

-- an element of a forest
abbrev construct-of : Kind → ℕ → List Binding → ℕ → Expanded → List Binding → List Attribute → Forest → Construct
construct-of kind above scope number name bindings attributes children = record {
  item = number;
  kind = kind_below kind (tag_of name);
  above = above;
  bindings = bindings;
  scope = bindings ++ scope;
  attributes = attributes;
  children = children;
}

-- the shape has this number
abbrev pub is_item : ℕ → Shape → Bool
is_item key shape = shape.item == key

module _ {X : Type 0} (test : X → Bool) where
  find-none : (xs ys : List X) → find test xs ≡ None → find test (xs ++ ys) ≡ find test ys
  find-none [] ys is = refl
  find-none (x ∷ xs) ys is = by (test x) refl (find-none xs ys)
    where
      by : (b : Bool) → test x ≡ b → (find test xs ≡ None → find test (xs ++ ys) ≡ find test ys) → find test (x ∷ (xs ++ ys)) ≡ find test ys
      by true e rest = absurd (some-none x (sym (ap (λ (b : Bool). cond b (Some x) (find test xs)) e) ∙ is))
      by false e rest =
          ap (λ (b : Bool). cond b (Some x) (find test (xs ++ ys))) e
          ∙ rest (sym (ap (λ (b : Bool). cond b (Some x) (find test xs)) e) ∙ is)

-- what else has the number of none of these
other-item : (declared : Bool) (key : ℕ) (shape : Shape) (rest : List Shape) → (shape.item == key) ≡ false → find (is_item key) ((if declared then shape ∷ [] else []) ++ rest) ≡ find (is_item key) rest
other-item true key shape rest never = ap (λ (b : Bool). cond b (Some shape) (find (is_item key) rest)) never
other-item false key shape rest never = refl

-- a test that adds nothing to a count is false
no-count : (b : Bool) (n : ℕ) → (if b then 1 else 0) + n ≡ 0 → (b ≡ false) × (n ≡ 0)
no-count true n is = absurd (omega (arith, is))
no-count false n is = (refl, omega (arith, is))

-- what no node has the number of, no shape has
absent : (key : ℕ) (f : Forest) (kind : Kind) (above : ℕ) (scope : List Binding) → times key f ≡ 0 → find (is_item key) (shapes (constructs kind above scope f)) ≡ None
absent key none kind above scope never = refl
absent key (text number chars next) kind above scope never = absent key next kind above scope (no-count (number == key) (times key next) never).1
absent key (element number name bindings attributes children next) kind above scope never =
    let parts = no-count (number == key) (times key children + times key next) never in
    let own = kind_below kind (tag_of name) in
    let below = constructs own (nearest above number bindings) (bindings ++ scope) children in
    let beside = constructs kind above scope next in
    let e = construct-of kind above scope number name bindings attributes children in
    other-item (declares own) key (shape_of e) (shapes (below ++ beside)) parts.0
    ∙ ap (λ (xs : List Shape). find (is_item key) xs) (shapes-append below beside)
    ∙ find-none (is_item key) (shapes below) (shapes beside) (absent key children own (nearest above number bindings) (bindings ++ scope) (omega (arith, parts.1)))
    ∙ absent key next kind above scope (omega (arith, parts.1))

-- no two nodes have one number, and none of those that come after has one of theirs
abbrev pub Differ : Forest → Type 0
Differ f = (key : ℕ) → times key f ≤ 1

abbrev pub AreApart : Forest → List Shape → Type 0
AreApart f more = (key : ℕ) → 1 ≤ times key f → find (is_item key) more ≡ None

-- a child is found as what it is, or declares nothing and is not found
abbrev pub IsFound : Option Shape → Kind → Type 0
IsFound None kind = declares kind ≡ false
IsFound (Some shape) kind = (e : Construct) × (e.kind ≡ kind) × (shape ≡ shape_of e)

abbrev pub KidIn : List Shape → Kind → Kid → Type 0
KidIn list parent kid = IsFound (find (is_item kid.0) list) (kind_below parent kid.1)

module _ (parent : Kind) (above : ℕ) (scope : List Binding) (number : ℕ) (name : Expanded) (bindings : List Binding) (attributes : List Attribute) (children next : Forest) (more : List Shape)
    (differ : Differ (element number name bindings attributes children next)) (apart : AreApart (element number name bindings attributes children next) more)
  where
    abbrev own : Kind
    own = kind_below parent (tag_of name)

    abbrev e : Construct
    e = construct-of parent above scope number name bindings attributes children

    abbrev below : List Construct
    below = constructs own (nearest above number bindings) (bindings ++ scope) children

    abbrev beside : List Construct
    beside = constructs parent above scope next

    -- what stands behind the element
    abbrev rest : List Shape
    rest = shapes below ++ (shapes beside ++ more)

    list-is : shapes (constructs parent above scope (element number name bindings attributes children next)) ++ more ≡ shapes_of e ++ rest
    list-is =
        ap (λ (xs : List Shape). (shapes_of e ++ xs) ++ more) (shapes-append below beside)
        ∙ append_assoc (shapes_of e) (shapes below ++ shapes beside) more
        ∙ ap (λ (xs : List Shape). shapes_of e ++ xs) (append_assoc (shapes below) (shapes beside) more)

    abbrev counted : ℕ → ℕ
    counted key = if number == key then 1 else 0

    one-own : counted number ≡ 1
    one-own = ap (λ (b : Bool). if b then 1 else 0) (eq-eqb number number refl)

    none-below : times number children + times number next ≡ 0
    none-below = omega (arith, differ number, one-own)

    -- the number of the element is nowhere behind it
    own-once : find (is_item number) rest ≡ None
    own-once =
        find-none (is_item number) (shapes below) (shapes beside ++ more) (absent number children own (nearest above number bindings) (bindings ++ scope) (omega (arith, none-below)))
        ∙ find-none (is_item number) (shapes beside) more (absent number next parent above scope (omega (arith, none-below)))
        ∙ apart number (omega (arith, one-own))

    own-found : (declared : Bool) → declares own ≡ declared → IsFound (find (is_item number) ((if declared then shape_of e ∷ [] else []) ++ rest)) own
    own-found true d =
        subst (λ (o : Option Shape). IsFound o own) (sym (ap (λ (b : Bool). cond b (Some (shape_of e)) (find (is_item number) rest)) (eq-eqb number number refl))) (e, refl, refl)
    own-found false d = subst (λ (o : Option Shape). IsFound o own) (sym own-once) d

    own-kid : KidIn (shapes (constructs parent above scope (element number name bindings attributes children next)) ++ more) parent (number, tag_of name)
    own-kid = subst (λ (list : List Shape). KidIn list parent (number, tag_of name)) (sym list-is) (own-found (declares own) refl)

    -- one beside it is found in the same place
    beside-same : (key : ℕ) → 1 ≤ times key next → find (is_item key) (shapes_of e ++ rest) ≡ find (is_item key) (shapes beside ++ more)
    beside-same key there =
        let zero_more : counted key + times key children ≡ 0 = omega (arith, differ key, there) in
        other-item (declares own) key (shape_of e) rest (no-count (number == key) (times key children) zero_more).0
        ∙ find-none (is_item key) (shapes below) (shapes beside ++ more) (absent key children own (nearest above number bindings) (bindings ++ scope) (no-count (number == key) (times key children) zero_more).1)

    next-kid : (kid : Kid) → 1 ≤ times kid.0 next → KidIn (shapes beside ++ more) parent kid
        → KidIn (shapes (constructs parent above scope (element number name bindings attributes children next)) ++ more) parent kid
    next-kid kid there is =
        subst (λ (o : Option Shape). IsFound o (kind_below parent kid.1))
        (sym (ap (λ (list : List Shape). find (is_item kid.0) list) list-is ∙ beside-same kid.0 there)) is

    differ-below : Differ children
    differ-below key = omega (arith, differ key)

    differ-beside : Differ next
    differ-beside key = omega (arith, differ key)

    apart-beside : AreApart next more
    apart-beside key there = apart key (omega (arith, there))

    -- what is below is apart from what is beside and after
    apart-below : AreApart children (shapes beside ++ more)
    apart-below key there =
        find-none (is_item key) (shapes beside) more (absent key next parent above scope (omega (arith, differ key, there)))
        ∙ apart key (omega (arith, there))

-- a child among siblings
abbrev KidOf : Forest → List Shape → Kind → Kid → Type 0
KidOf f list parent kid = (1 ≤ times kid.0 f) × KidIn list parent kid

-- what is so of the first, unless it is left out, and of the others
with-own : (P : Kid → Type 0) (out : Bool) (kid : Kid) (others : List Kid) → P kid → All P others → All P (if out then others else kid ∷ others)
with-own P true kid others one all = all
with-own P false kid others one all = All-cons P kid others one all

kids-of : (f : Forest) (parent : Kind) (above : ℕ) (scope : List Binding) (more : List Shape) → Differ f → AreApart f more
    → All (KidOf f (shapes (constructs parent above scope f) ++ more) parent) (kids f)
kids-of none parent above scope more differ apart = All-nil (KidOf none more parent)
kids-of (text number chars next) parent above scope more differ apart =
    let list = shapes (constructs parent above scope next) ++ more in
    All-weaker (KidOf next list parent) (KidOf (text number chars next) list parent) (λ kid is. (omega (arith, is.0), is.1)) (kids next)
    (kids-of next parent above scope more (λ key. omega (arith, differ key)) (λ key there. apart key (omega (arith, there))))
kids-of (element number name bindings attributes children next) parent above scope more differ apart =
    let whole = element number name bindings attributes children next in
    let list = shapes (constructs parent above scope whole) ++ more in
    let others = All-weaker (KidOf next (shapes (constructs parent above scope next) ++ more) parent) (KidOf whole list parent)
    (λ kid is. (omega (arith, is.0), next-kid parent above scope number name bindings attributes children next more differ apart kid is.0 is.1)) (kids next)
    (kids-of next parent above scope more (differ-beside parent above scope number name bindings attributes children next more differ apart)
    (apart-beside parent above scope number name bindings attributes children next more differ apart)) in
    with-own (KidOf whole list parent) (is_in c.Annotation (tag_of name)) (number, tag_of name) (kids next)
    (omega (arith, one-own parent above scope number name bindings attributes children next more differ apart), own-kid parent above scope number name bindings attributes children next more differ apart)
    others

-- what is so of each shape and those behind it
abbrev pub EachBehind : (List Shape → Shape → Type 0) → List Shape → Type 0
EachBehind P [] = Unit {0}
EachBehind P (shape ∷ list) = P list shape × EachBehind P list

-- an element without a fault, whose children are found behind it
abbrev pub IsWalked : List Shape → Shape → Type 0
IsWalked behind shape = (e : Construct) × (shape ≡ shape_of e) × (code_of e ≡ None) × All (KidIn behind e.kind) (kids e.children)

own-walked : (declared : Bool) (shape : Shape) (list : List Shape) → IsWalked list shape → EachBehind IsWalked list → EachBehind IsWalked ((if declared then shape ∷ [] else []) ++ list)
own-walked true shape list one others = (one, others)
own-walked false shape list one others = others

pub walked : (f : Forest) (parent : Kind) (above : ℕ) (scope : List Binding) (more : List Shape) → Differ f → AreApart f more → AreSound (constructs parent above scope f) → EachBehind IsWalked more
    → EachBehind IsWalked (shapes (constructs parent above scope f) ++ more)
walked none parent above scope more differ apart sound after = after
walked (text number chars next) parent above scope more differ apart sound after =
    walked next parent above scope more (λ key. omega (arith, differ key)) (λ key there. apart key (omega (arith, there))) sound after
walked (element number name bindings attributes children next) parent above scope more differ apart sound after =
    let own = kind_below parent (tag_of name) in
    let e = construct-of parent above scope number name bindings attributes children in
    let below = constructs own (nearest above number bindings) (bindings ++ scope) children in
    let beside = constructs parent above scope next in
    let parts = sound-parts below beside sound.1 in
    let differ_below = differ-below parent above scope number name bindings attributes children next more differ apart in
    let apart_below = apart-below parent above scope number name bindings attributes children next more differ apart in
    let on_next = walked next parent above scope more (differ-beside parent above scope number name bindings attributes children next more differ apart)
    (apart-beside parent above scope number name bindings attributes children next more differ apart) parts.1 after in
    let on_children = walked children own (nearest above number bindings) (bindings ++ scope) (shapes beside ++ more) differ_below apart_below parts.0 on_next in
    let found = kids-of children own (nearest above number bindings) (bindings ++ scope) (shapes beside ++ more) differ_below apart_below in
    let rest = shapes below ++ (shapes beside ++ more) in
    subst (EachBehind IsWalked) (sym (list-is parent above scope number name bindings attributes children next more differ apart))
    (own-walked (declares own) (shape_of e) rest
    (e, refl, sound.0, All-weaker (KidOf children rest own) (KidIn rest own) (λ kid is. is.1) (kids children) found) on_children)
