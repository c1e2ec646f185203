-- The first fault of the documents of a set.
use Rattle.std.proofs.Common.{◌≡◌, ℕ, zero, suc, ◌+◌, ◌<◌, ◌≤◌, ◌==◌, ◌⊎◌, inl, inr, List, [], ◌∷◌, ◌++◌, length, map, take, get_or, Bool, true, false, if◌then◌else◌, Option, None, Some, refl, sym, ap, ◌∙◌, subst, arith}
use Rattle.std.specs.Prelude.{All, Contains, slice_get, nat_lt}
use Rattle.std.specs.List.{flat_map}
use Rattle.std.specs.Option.{option_map}
use Rattle.std.proofs.lemmas.Bool.Decides.{nat_tests}
use Rattle.std.proofs.lemmas.Option.{same_Some}
use Rattle.std.proofs.lemmas.Grind.{flat_map-append}
use Rattle.std.proofs.lemmas.List.{append-nil, take_more, take_all}
use Rattle.std.proofs.lemmas.List.Elements.{All-nil, All-append, All-cons, All-contains, Contains-append_left, Contains-append_right, Contains-append_cases, Contains-push, Contains-push_cases}
use Rattle.xs_codes.specs.Codes.{order_of}
use Rattle.xs_codes.specs.declared.code.Code.{Code}
use Rattle.xs_codes.specs.declared.code.Code.TheVariants as code
use Rattle.xs_codes.specs.declared.fault.Fault.{Fault}
use Rattle.xs_codes.specs.Least.{IsLeast, is_before, sooner}
use Rattle.xs_codes.proofs.LeastLaws.{least-sum, least-same}
use Rattle.schema_shape.specs.declared.forms.Form.{Form}
use Rattle.schema_shape.specs.declared.forms.Form.TheVariants as forms
use Rattle.schema_shape.specs.declared.forms.Shape.{Shape}
use Rattle.schema_shape.specs.declared.forms.ShapedSchema.{ShapedSchema}
use Rattle.schema_set.specs.declared.documents.Available.{Available}
use Rattle.schema_set.specs.declared.documents.SetDocument.{SetDocument}
use Rattle.schema_set.specs.EffectiveSet.{document_at, InSet, IsDocument, IsEffectiveSet}
use Rattle.schema_set.specs.Composition.{code_if, is_other, imports_own, imports_absent, loads_other, loaded, inclusion_codes, broken_codes, Broken}
use Rattle.schema_set.specs.Order.{own_target_of}
use Rattle.schema_set.specs.inside.Faults.{fault_at, shape_faults, document_faults, set_faults}

-- ---- lists
pub in-flat_map : {X Y : Type 0} (f : X → List Y) (xs : List X) (y : Y) → Contains (flat_map f xs) y → (x : X) × Contains xs x × Contains (f x) y
in-flat_map f [] y c = absurd (omega (arith, c.1))
in-flat_map f (x ∷ xs) y c = elim (Contains-append_cases (f x) (flat_map f xs) y c) [
  | inl here ↦ (x, Contains-append_left (x ∷ []) xs x (Contains-push [] x), here)
  | inr later ↦ (let r = in-flat_map f xs y later in (r.0, Contains-append_right (x ∷ []) xs r.0 r.1, r.2))
]

flat_map-place : {X Y : Type 0} (f : X → List Y) (xs : List X) (k : ℕ) (d : X) (y : Y) → k < length xs → Contains (f (get_or xs k d)) y → Contains (flat_map f xs) y
flat_map-place f [] k d y h c = absurd (omega (arith, h))
flat_map-place f (x ∷ xs) zero d y h c = Contains-append_left (f x) (flat_map f xs) y c
flat_map-place f (x ∷ xs) (suc k) d y h c = Contains-append_right (f x) (flat_map f xs) y (flat_map-place f xs k d y (omega (arith, h)) c)

pub flat_map-has : {X Y : Type 0} (f : X → List Y) (xs : List X) (x : X) (y : Y) → Contains xs x → Contains (f x) y → Contains (flat_map f xs) y
flat_map-has {X} {Y} f xs x y c is = flat_map-place f xs c.0 x y c.1 (subst (λ (z : X). Contains (f z) y) (sym c.2) is)

in-map : {X Y : Type 0} (f : X → Y) (xs : List X) (y : Y) → Contains (map f xs) y → (x : X) × Contains xs x × (f x ≡ y)
in-map f [] y c = absurd (omega (arith, c.1))
in-map f (x ∷ xs) y c = elim (Contains-append_cases (f x ∷ []) (map f xs) y c) [
  | inl here ↦ elim (Contains-push_cases [] (f x) y here) [ inl none ↦ absurd (omega (arith, none.1)) | inr same ↦ (x, Contains-append_left (x ∷ []) xs x (Contains-push [] x), same) ]
  | inr later ↦ (let r = in-map f xs y later in (r.0, Contains-append_right (x ∷ []) xs r.0 r.1, r.2))
]

map-place : {X Y : Type 0} (f : X → Y) (xs : List X) (k : ℕ) (d : X) → k < length xs → Contains (map f xs) (f (get_or xs k d))
map-place f [] k d h = absurd (omega (arith, h))
map-place f (x ∷ xs) zero d h = Contains-append_left (f x ∷ []) (map f xs) (f x) (Contains-push [] (f x))
map-place f (x ∷ xs) (suc k) d h = Contains-append_right (f x ∷ []) (map f xs) (f (get_or xs k d)) (map-place f xs k d (omega (arith, h)))

map-has : {X Y : Type 0} (f : X → Y) (xs : List X) (x : X) → Contains xs x → Contains (map f xs) (f x)
map-has {X} f xs x c = subst (λ (z : X). Contains (map f xs) (f z)) c.2 (map-place f xs c.0 x c.1)

-- ---- the codes of an element in their order
not-earlier : (d i a b : ℕ) → b ≤ a → (if d == d then (if i == i then nat_lt a b else nat_lt i i) else nat_lt d d) ≡ false
not-earlier d i a b h = grind (arith, nat_tests)

abbrev Rises : List Code → Type 0
Rises [] = Unit {0}
Rises (c ∷ cs) = All (λ o. order_of c ≤ order_of o) cs

least-code : (d i : ℕ) (codes : List Code) → Rises codes → IsLeast (Contains (map (fault_at d i) codes)) (option_map (fault_at d i) (slice_get codes 0))
least-code d i [] r = λ f c. absurd (omega (arith, c.1))
least-code d i (c ∷ cs) r = (map-has (fault_at d i) (c ∷ cs) c (Contains-append_left (c ∷ []) cs c (Contains-push [] c)), on)
  where
    on : (g : Fault) → Contains (map (fault_at d i) (c ∷ cs)) g → is_before g (fault_at d i c) ≡ false
    on g in' =
        let m = in-map (fault_at d i) (c ∷ cs) g in' in
        let least : order_of c ≤ order_of m.0 = elim (Contains-append_cases (c ∷ []) cs m.0 m.1) [
          | inl here ↦ elim (Contains-push_cases [] c m.0 here) [ inl none ↦ absurd (omega (arith, none.1)) | inr same ↦ (let e : order_of c ≡ order_of m.0 = ap order_of same in omega (arith, e)) ]
          | inr later ↦ All-contains (λ o. order_of c ≤ order_of o) cs m.0 r later
        ] in
        subst (λ (h : Fault). is_before h (fault_at d i c) ≡ false) m.2 (not-earlier d i (order_of m.0) (order_of c) least)

if-all : (P : Code → Type 0) (b : Bool) (c : Code) → P c → All P (code_if b c)
if-all P true c p = All-cons P c [] p (All-nil P)
if-all P false c p = All-nil P

rises-if : (b : Bool) (c : Code) → Rises (code_if b c)
rises-if true c = All-nil (λ o. order_of c ≤ order_of o)
rises-if false c = tt

rises-import : (a b c : Bool) → Rises (code_if a code.SrcImport1_1 ++ (code_if b code.SrcImport1_2 ++ code_if c code.SrcImport3_1))
rises-import true b c = All-append (λ o. order_of code.SrcImport1_1 ≤ order_of o) (code_if b code.SrcImport1_2) (code_if c code.SrcImport3_1)
    (if-all (λ o. order_of code.SrcImport1_1 ≤ order_of o) b code.SrcImport1_2 (omega arith)) (if-all (λ o. order_of code.SrcImport1_1 ≤ order_of o) c code.SrcImport3_1 (omega arith))
rises-import false true c = if-all (λ o. order_of code.SrcImport1_2 ≤ order_of o) c code.SrcImport3_1 (omega arith)
rises-import false false c = rises-if c code.SrcImport3_1

rises-inclusion : (c : Code) (available : List Available) (target : Option (List ℕ)) (number : Option ℕ) → Rises (inclusion_codes c available target number)
rises-inclusion c available target None = All-nil (λ o. order_of code.XLocation ≤ order_of o)
rises-inclusion c available target (Some number) = rises-if (is_other (own_target_of available number) target) c

rises : (available : List Available) (target : Option (List ℕ)) (form : Form) → Rises (broken_codes available target form)
rises available target (forms.Include location) = rises-inclusion code.SrcInclude2_1 available target (document_at available location)
rises available target (forms.Redefine location) = rises-inclusion code.SrcRedefine3_1 available target (document_at available location)
rises available target (forms.Import namespace location) = rises-import (imports_own target namespace) (imports_absent target namespace) (loads_other available namespace (loaded available location))
rises available target _ = tt

pub shape-least : (available : List Available) (d : SetDocument) (shape : Shape)
    → IsLeast (Contains (shape_faults available d shape)) (option_map (fault_at d.number shape.item) (slice_get (broken_codes available d.target shape.form) 0))
shape-least available d shape =
    least-code d.number shape.item (broken_codes available d.target shape.form) (rises available d.target shape.form)

pub shape-first : (available : List Available) (d : SetDocument) (shape : Shape) (target : Option (List ℕ)) (c : Option Code) (r : Option Fault) → target ≡ d.target
    → c ≡ slice_get (broken_codes available target shape.form) 0 → r ≡ option_map (fault_at d.number shape.item) c → IsLeast (Contains (shape_faults available d shape)) r
shape-first available d shape target c r t e f =
    subst (IsLeast (Contains (shape_faults available d shape)))
    (sym (f ∙ ap (option_map (fault_at d.number shape.item)) (e ∙ ap (λ o. slice_get (broken_codes available o shape.form) 0) t))) (shape-least available d shape)

-- ---- one after the other
pub least-none : {X : Type 0} (f : X → List Fault) (xs : List X) → IsLeast (Contains (flat_map f (take 0 xs))) None
least-none f xs g c = absurd (omega (arith, c.1))

pub least-more : {X : Type 0} (f : X → List Fault) (xs : List X) (i : ℕ) (x : X) (best found new : Option Fault) → i < length xs → x ≡ get_or xs i x → new ≡ sooner best found
    → IsLeast (Contains (flat_map f (take i xs))) best → IsLeast (Contains (f x)) found → IsLeast (Contains (flat_map f (take (i + 1) xs))) new
least-more f xs i x best found new h is e before own =
    let more : take (i + 1) xs ≡ take i xs ++ x ∷ [] = take_more xs i x h ∙ ap (λ y. take i xs ++ y ∷ []) (sym is) in
    let split : flat_map f (take (i + 1) xs) ≡ flat_map f (take i xs) ++ f x =
    ap (flat_map f) more ∙ flat_map-append f (take i xs) (x ∷ []) ∙ ap (λ l. flat_map f (take i xs) ++ l) (append-nil (f x)) in
    subst (λ l. IsLeast (Contains l) new) (sym split)
    (subst (IsLeast (Contains (flat_map f (take i xs) ++ f x))) (sym e)
    (least-same (λ g. Contains (flat_map f (take i xs)) g ⊎ Contains (f x) g) (Contains (flat_map f (take i xs) ++ f x))
    (λ g either. elim either [ inl a ↦ Contains-append_left (flat_map f (take i xs)) (f x) g a | inr b ↦ Contains-append_right (flat_map f (take i xs)) (f x) g b ])
    (λ g c. Contains-append_cases (flat_map f (take i xs)) (f x) g c)
    (sooner best found) (least-sum (Contains (flat_map f (take i xs))) (Contains (f x)) best found before own)))

pub least-all : {X : Type 0} (f : X → List Fault) (xs : List X) (i : ℕ) (best : Option Fault) → length xs ≤ i → IsLeast (Contains (flat_map f (take i xs))) best → IsLeast (Contains (flat_map f xs)) best
least-all f xs i best l least = subst (λ ys. IsLeast (Contains (flat_map f ys)) best) (take_all i xs l) least

-- ---- the faults of the list are what the set breaks
abbrev made : ℕ → ℕ → ℕ → Code → Fault
made phase document item c = record { phase = phase; document = document; item = item; code = c }

same-fault : (f : Fault) (d i : ℕ) → f.phase ≡ 2 → d ≡ f.document → i ≡ f.item → fault_at d i f.code ≡ f
same-fault f d i p e g =
    ap (λ n. made 2 n i f.code) e ∙ ap (λ n. made 2 f.document n f.code) g ∙ ap (λ n. made n f.document f.item f.code) (sym p)

module _ (available : List Available) (start : ℕ) (documents : List SetDocument) (is : IsEffectiveSet available start documents) where
  to-broken : (f : Fault) → Contains (set_faults available documents) f → Broken available start f
  to-broken f c =
      let l = in-flat_map (document_faults available) documents f c in
      let d = l.0 in
      let k = in-flat_map (shape_faults available d) d.shaped.now.shapes f l.2 in
      let shape = k.0 in
      let m = in-map (fault_at d.number shape.item) (broken_codes available d.target shape.form) f k.2 in
      let there = All-contains (IsDocument available) documents d is.there l.1 in
      let shapes : d.shaped.now.shapes ≡ there.1.shaped.shapes = ap (λ (s : ShapedSchema). s.shapes) there.4 in
      subst (Broken available start) m.2 (record {
        place = there.0;
        document = there.1;
        target = d.target;
        shape = shape;
        phase = refl;
        number = there.2;
        there = there.3;
        inside = All-contains (λ (e : SetDocument). InSet available start e.number e.target) documents d is.only l.1;
        says = subst (λ (xs : List Shape). Contains xs shape) shapes k.1;
        item = refl;
        code = m.1;
      })

  from-broken : (f : Fault) → Broken available start f → Contains (set_faults available documents) f
  from-broken f b =
      let e = is.each f.document b.target b.inside in
      let d = e.0 in
      let there = All-contains (IsDocument available) documents d is.there e.1 in
      let place : there.0 ≡ b.place = omega (arith, there.2, b.number, e.2) in
      let same : there.1 ≡ b.document = same_Some there.1 b.document (sym there.3 ∙ ap (slice_get available) place ∙ b.there) in
      let shapes : b.document.shaped.shapes ≡ d.shaped.now.shapes = sym (ap (λ (s : ShapedSchema). s.shapes) there.4 ∙ ap (λ (a : Available). a.shaped.shapes) same) in
      let listed : Contains d.shaped.now.shapes b.shape = subst (λ (xs : List Shape). Contains xs b.shape) shapes b.says in
      let code : Contains (broken_codes available d.target b.shape.form) f.code =
      subst (λ (t : Option (List ℕ)). Contains (broken_codes available t b.shape.form) f.code) (sym e.3) b.code in
      let fault : Contains (shape_faults available d b.shape) f =
      subst (λ (g : Fault). Contains (shape_faults available d b.shape) g) (same-fault f d.number b.shape.item b.phase e.2 b.item)
      (map-has (fault_at d.number b.shape.item) (broken_codes available d.target b.shape.form) f.code code) in
      flat_map-has (document_faults available) documents d f e.1 (flat_map-has (shape_faults available d) d.shaped.now.shapes b.shape f listed fault)

  pub set-least : (r : Option Fault) → IsLeast (Contains (set_faults available documents)) r → IsLeast (Broken available start) r
  set-least r least = least-same (Contains (set_faults available documents)) (Broken available start) to-broken from-broken r least
