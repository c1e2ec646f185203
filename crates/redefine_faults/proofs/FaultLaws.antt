-- The first fault of what stands in the redefines of a set.
use Rattle.std.proofs.Common.{◌≡◌, ℕ, ◌+◌, ◌<◌, ◌≤◌, ◌==◌, ◌⊎◌, inl, inr, List, [], ◌∷◌, ◌++◌, map, length, take, get_or, false, if◌then◌else◌, Option, None, Some, refl, sym, ap, ◌∙◌, subst, arith}
use Rattle.std.specs.Prelude.{Contains, slice_get, nat_lt}
use Rattle.std.specs.Option.{option_map}
use Rattle.std.proofs.lemmas.Bool.Decides.{nat_tests}
use Rattle.std.proofs.lemmas.Option.{none-some, same_Some, slice_get-map, slice_get_read, get_or_from_slice_get}
use Rattle.std.proofs.lemmas.List.{length-map, take_more, take_all}
use Rattle.std.proofs.lemmas.List.Elements.{All-contains, Contains-append_left, Contains-push, Contains-push_cases}
use Rattle.xs_codes.specs.Codes.{order_of}
use Rattle.xs_codes.specs.declared.code.Code.{Code}
use Rattle.xs_codes.specs.declared.fault.Fault.{Fault}
use Rattle.xs_codes.specs.Least.{IsLeast, is_before, sooner}
use Rattle.xs_codes.proofs.LeastLaws.{least-sum, least-same}
use Rattle.schema_shape.specs.declared.forms.Shape.{Shape}
use Rattle.schema_shape.specs.declared.forms.ShapedSchema.{ShapedSchema}
use Rattle.schema_set.specs.declared.documents.Available.{Available}
use Rattle.schema_set.specs.declared.documents.SetDocument.{SetDocument}
use Rattle.schema_set.specs.EffectiveSet.{InSet, IsDocument, IsEffectiveSet}
use Rattle.redefine_originals.specs.declared.versions.Redefinable.{Redefinable}
use Rattle.redefine_originals.specs.Versions.{declared_as, Child, redefining}
use Rattle.redefine_faults.specs.Redefinitions.{BreaksHere, IsRedefineFault}
use Rattle.redefine_faults.specs.inside.Broken.{IsFirstCode, IsBroken, fault_at, IsChildFault, IsOneOf, IsSetFault}

-- ---- one child
not-earlier : (d i a b : ℕ) → b ≤ a → (if d == d then (if i == i then nat_lt a b else nat_lt i i) else nat_lt d d) ≡ false
not-earlier d i a b h = grind (arith, nat_tests)

module _ (available : List Available) (d : SetDocument) (child : Child) where
  pub undeclared : None ≡ declared_as child.shape.form → IsFirstCode (IsBroken available d child) None
  undeclared e = λ c b. none-some (b.of, b.name) (e ∙ b.declares)

  module _ (of : Redefinable) (name : List ℕ) (e : Some (of, name) ≡ declared_as child.shape.form) where
    its : (c : Code) → IsBroken available d child c → BreaksHere available d.number d.shaped.now.shapes d.target of name child c
    its c b =
        let same : (b.of, b.name) ≡ (of, name) = same_Some (b.of, b.name) (of, name) (sym b.declares ∙ sym e) in
        subst (λ (p : Redefinable × List ℕ). BreaksHere available d.number d.shaped.now.shapes d.target p.0 p.1 child c) same b.breaks

    pub declared : (r : Option Code) → IsFirstCode (BreaksHere available d.number d.shaped.now.shapes d.target of name child) r → IsFirstCode (IsBroken available d child) r
    declared None none = λ c b. none c (its c b)
    declared (Some c) first = (record { of = of; name = name; declares = sym e; breaks = first.0 }, λ o b. first.1 o (its o b))

  pub child-least : (r : Option Code) → IsFirstCode (IsBroken available d child) r → IsLeast (IsChildFault available d child) (option_map (fault_at d.number child.shape.item) r)
  child-least None none = λ f b. none b.c b.broken
  child-least (Some c) first = (
    record { c = c; broken = first.0; is = refl },
    λ g b. subst (λ (h : Fault). is_before h (fault_at d.number child.shape.item c) ≡ false) b.is (not-earlier d.number child.shape.item (order_of b.c) (order_of c) (first.1 b.c b.broken)),
  )

-- ---- one after the other
module _ {X : Type 0} (Is : X → Fault → Type 0) where
  pub least-none : (xs : List X) → IsLeast (IsOneOf Is (take 0 xs)) None
  least-none xs f o = absurd (let c = o.1 in omega (arith, c.1))

  pub least-more : (xs : List X) (i : ℕ) (x : X) (best found new : Option Fault) → i < length xs → x ≡ get_or xs i x → new ≡ sooner best found
      → IsLeast (IsOneOf Is (take i xs)) best → IsLeast (Is x) found → IsLeast (IsOneOf Is (take (i + 1) xs)) new
  least-more xs i x best found new h is e before own =
      let more : take (i + 1) xs ≡ take i xs ++ x ∷ [] = take_more xs i x h ∙ ap (λ y. take i xs ++ y ∷ []) (sym is) in
      subst (λ l. IsLeast (IsOneOf Is l) new) (sym more)
      (subst (IsLeast (IsOneOf Is (take i xs ++ x ∷ []))) (sym e)
      (least-same (λ f. IsOneOf Is (take i xs) f ⊎ Is x f) (IsOneOf Is (take i xs ++ x ∷ [])) to from (sooner best found) (least-sum (IsOneOf Is (take i xs)) (Is x) best found before own)))
    where
      to : (f : Fault) → IsOneOf Is (take i xs) f ⊎ Is x f → IsOneOf Is (take i xs ++ x ∷ []) f
      to f (inl o) = (o.0, Contains-append_left (take i xs) (x ∷ []) o.0 o.1, o.2)
      to f (inr s) = (x, Contains-push (take i xs) x, s)

      from : (f : Fault) → IsOneOf Is (take i xs ++ x ∷ []) f → IsOneOf Is (take i xs) f ⊎ Is x f
      from f o = elim (Contains-push_cases (take i xs) x o.0 o.1) [ inl c ↦ inl (o.0, c, o.2) | inr same ↦ inr (subst (λ y. Is y f) (sym same) o.2) ]

  pub least-all : (xs : List X) (i : ℕ) (best : Option Fault) → length xs ≤ i → IsLeast (IsOneOf Is (take i xs)) best → IsLeast (IsOneOf Is xs) best
  least-all xs i best l least = subst (λ ys. IsLeast (IsOneOf Is ys) best) (take_all i xs l) least

-- ---- the faults of the documents of a set are those of the set
abbrev made : ℕ → ℕ → ℕ → Code → Fault
made phase document item c = record { phase = phase; document = document; item = item; code = c }

same-fault : (f : Fault) (d i : ℕ) → f.phase ≡ 2 → d ≡ f.document → i ≡ f.item → fault_at d i f.code ≡ f
same-fault f d i p e g =
    ap (λ n. made 2 n i f.code) e ∙ ap (λ n. made 2 f.document n f.code) g ∙ ap (λ n. made n f.document f.item f.code) (sym p)

module _ (available : List Available) (start : ℕ) (set : List SetDocument) (is : IsEffectiveSet available start set) where
  to-fault : (f : Fault) → IsSetFault available set f → IsRedefineFault available start f
  to-fault f o =
      let d = o.0 in
      let k = o.2 in
      let b = k.2 in
      let there = All-contains (IsDocument available) set d is.there o.1 in
      let shapes : d.shaped.now.shapes ≡ there.1.shaped.shapes = ap (λ (s : ShapedSchema). s.shapes) there.4 in
      subst (IsRedefineFault available start) b.is (record {
        place = there.0;
        document = there.1;
        target = d.target;
        child = k.0;
        of = b.broken.of;
        name = b.broken.name;
        phase = refl;
        number = there.2;
        there = there.3;
        within = All-contains (λ (e : SetDocument). InSet available start e.number e.target) set d is.only o.1;
        says = subst (λ (xs : List Shape). Contains (redefining xs) k.0) shapes k.1;
        declares = b.broken.declares;
        item = refl;
        code = subst (λ (xs : List Shape). BreaksHere available d.number xs d.target b.broken.of b.broken.name k.0 b.c) shapes b.broken.breaks;
      })

  from-fault : (f : Fault) → IsRedefineFault available start f → IsSetFault available set f
  from-fault f b =
      let e = is.each f.document b.target b.within in
      let d = e.0 in
      let there = All-contains (IsDocument available) set d is.there e.1 in
      let place : there.0 ≡ b.place = omega (arith, there.2, b.number, e.2) in
      let same : there.1 ≡ b.document = same_Some there.1 b.document (sym there.3 ∙ ap (slice_get available) place ∙ b.there) in
      let shapes : b.document.shaped.shapes ≡ d.shaped.now.shapes = sym (ap (λ (s : ShapedSchema). s.shapes) there.4 ∙ ap (λ (a : Available). a.shaped.shapes) same) in
      let broken : BreaksHere available d.number d.shaped.now.shapes d.target b.of b.name b.child f.code =
      subst (λ (n : ℕ). BreaksHere available n d.shaped.now.shapes d.target b.of b.name b.child f.code) (sym e.2)
      (subst (λ (t : Option (List ℕ)). BreaksHere available f.document d.shaped.now.shapes t b.of b.name b.child f.code) (sym e.3)
      (subst (λ (xs : List Shape). BreaksHere available f.document xs b.target b.of b.name b.child f.code) shapes b.code)) in (
        d,
        e.1,
        (
          b.child,
          subst (λ (xs : List Shape). Contains (redefining xs) b.child) shapes b.says,
          record {
            c = f.code;
            broken = record { of = b.of; name = b.name; declares = b.declares; breaks = broken };
            is = same-fault f d.number b.child.shape.item b.phase e.2 b.item;
          },
        ),
      )

  pub set-least : (r : Option Fault) → IsLeast (IsSetFault available set) r → IsLeast (IsRedefineFault available start) r
  set-least r least = least-same (IsSetFault available set) (IsRedefineFault available start) to-fault from-fault r least

-- ---- of entries
module _ {X Y : Type 0} (Is : Y → Fault → Type 0) (f : X → Y) where
  pub least-mapped : (xs : List X) (i : ℕ) (x : X) (best found new : Option Fault) → i < length xs → x ≡ get_or xs i x → new ≡ sooner best found
      → IsLeast (IsOneOf Is (take i (map f xs))) best → IsLeast (Is (f x)) found → IsLeast (IsOneOf Is (take (i + 1) (map f xs))) new
  least-mapped xs i x best found new h is e before own =
      let longer = length-map xs f in
      let there : slice_get (map f xs) i ≡ Some (f x) = slice_get-map f xs i ∙ ap (option_map f) (slice_get_read xs (length xs) i x refl h is) in
      least-more Is (map f xs) i (f x) best found new (omega (arith, h, longer)) (sym (get_or_from_slice_get (map f xs) i (f x) (f x) there)) e before own

  pub least-all-mapped : (xs : List X) (i : ℕ) (best : Option Fault) → length xs ≤ i → IsLeast (IsOneOf Is (take i (map f xs))) best → IsLeast (IsOneOf Is (map f xs)) best
  least-all-mapped xs i best l least = let longer = length-map xs f in least-all Is (map f xs) i best (omega (arith, l, longer)) least
