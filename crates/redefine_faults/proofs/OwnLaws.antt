-- What a redefining child breaks by itself, and what it breaks.
use Rattle.std.proofs.Common.{◌≡◌, ◌≢◌, ℕ, ◌≤◌, ◌==◌, ◌||◌, not, if◌then◌else◌, List, [], ◌∷◌, map, Bool, true, false, true≢false, inl, inr, Option, None, Some, refl, sym, ap, ◌∙◌, subst, arith}
use Rattle.std.specs.Prelude.{Contains, slice_get}
use Rattle.std.specs.List.{list_any}
use Rattle.std.proofs.lemmas.Bool.{cases_eq, false≢true, not-true, eqb-false, eqb-true}
use Rattle.std.proofs.lemmas.Option.{none-some, same_Some}
use Rattle.std.proofs.lemmas.List.Folds.{list_any_at}
use Rattle.xs_codes.specs.Codes.{order_of}
use Rattle.xs_codes.specs.declared.code.Code.{Code}
use Rattle.xs_codes.specs.declared.code.Code.TheVariants as code
use Rattle.schema_shape.specs.declared.forms.Shape.{Shape}
use Rattle.schema_set.specs.declared.documents.Available.{Available}
use Rattle.redefine_originals.specs.declared.versions.Redefinable.{Redefinable}
use Rattle.redefine_originals.specs.declared.versions.Redefinable.TheVariants as kind
use Rattle.redefine_originals.specs.Versions.{Child, Version, in_redefine, IsOriginal}
use Rattle.redefine_originals.proofs.InsideLaws.{contains-first, contains-rest}
use Rattle.redefine_originals.proofs.VersionLaws.{original-one}
use Rattle.redefine_faults.specs.Redefinitions.{HasSelfReferences, derives_from_itself, occurs_otherwise, Breaks, other_base, several, otherwise, several_uses, BreaksHere, lost, circle, own}
use Rattle.redefine_faults.specs.inside.Selves.{AreSelves, are_several, group_code, uses_code}
use Rattle.redefine_faults.specs.inside.Broken.{IsFirstCode}
use Rattle.redefine_faults.specs.inside.Chains.{ComesBack}

-- ---- lists
pub any-one : {X : Type 0} (p : X → Bool) (xs : List X) → list_any p xs ≡ true → (x : X) × Contains xs x × (p x ≡ true)
any-one p [] e = absurd (false≢true e)
any-one {X} p (x ∷ xs) e = by (p x) refl (any-one p xs)
  where
    by : (b : Bool) → p x ≡ b → (list_any p xs ≡ true → (y : X) × Contains xs y × (p y ≡ true)) → (y : X) × Contains (x ∷ xs) y × (p y ≡ true)
    by true t rest = (x, contains-first x xs, t)
    by false f rest = let r = rest (rw f at e) in (r.0, contains-rest x r.0 xs r.1, r.2)

pub any-has : {X : Type 0} (p : X → Bool) (xs : List X) (x : X) → Contains xs x → p x ≡ true → list_any p xs ≡ true
any-has p xs x c e = list_any_at p xs c.0 x c.1 (subst (λ y. p y ≡ true) (sym c.2) e)

differs : (a b : ℕ) → a ≢ b → not (a == b) ≡ true
differs a b d = by (a == b) refl
  where
    by : (r : Bool) → (a == b) ≡ r → not (a == b) ≡ true
    by true e = absurd (d (eqb-true a b e))
    by false e = rw e refl

several-two : (xs : List Shape) → are_several xs ≡ true → (a : Shape) × (b : Shape) × Contains xs a × Contains xs b × (a.item ≢ b.item)
several-two [] e = absurd (false≢true e)
several-two (x ∷ xs) e =
    let o = any-one (λ (s : Shape). not (s.item == x.item)) (x ∷ xs) e in
    (o.0, x, o.1, contains-first x xs, eqb-false o.0.item x.item (not-true (o.0.item == x.item) o.2))

two-several : (xs : List Shape) (a b : Shape) → Contains xs a → Contains xs b → a.item ≢ b.item → are_several xs ≡ true
two-several [] a b c d n = absurd (omega (arith, c.1))
two-several (x ∷ xs) a b c d n = elim (cases_eq a.item x.item) [
  | inl same ↦ other b d (λ e. n (same ∙ sym e))
  | inr apart ↦ other a c apart
]
  where
    other : (s : Shape) → Contains (x ∷ xs) s → s.item ≢ x.item → are_several (x ∷ xs) ≡ true
    other s c n = any-has (λ (t : Shape). not (t.item == x.item)) (x ∷ xs) s c (differs s.item x.item n)

any-map : {X : Type 0} (f : X → Shape) (p : Shape → Bool) (xs : List X) → list_any p (map f xs) ≡ list_any (λ x. p (f x)) xs
any-map f p [] = refl
any-map f p (x ∷ xs) = ap (λ b. p (f x) || b) (any-map f p xs)

pub several-read : {X : Type 0} (f : X → Shape) (xs : List X) (x : X) (r : Bool) → Some x ≡ slice_get xs 0 → r ≡ list_any (λ y. not ((f y).item == (f x).item)) xs → r ≡ are_several (map f xs)
several-read f [] x r e is = absurd (none-some x (sym e))
several-read f (y ∷ ys) x r e is =
    let same : x ≡ y = same_Some x y e in
    subst (λ z. r ≡ list_any (λ (t : Shape). not (t.item == (f z).item)) (map f (y ∷ ys))) same
    (is ∙ sym (any-map f (λ (t : Shape). not (t.item == (f x).item)) (y ∷ ys)))

pub several-none : {X : Type 0} (f : X → Shape) (xs : List X) → None ≡ slice_get xs 0 → false ≡ are_several (map f xs)
several-none f [] e = refl
several-none f (y ∷ ys) e = absurd (none-some y e)

pub otherwise-read : {X : Type 0} (f : X → Shape) (xs : List X) (r : Bool) → r ≡ list_any (λ y. occurs_otherwise (f y).form) xs → r ≡ list_any (λ (s : Shape). occurs_otherwise s.form) (map f xs)
otherwise-read f xs r is = is ∙ sym (any-map f (λ (s : Shape). occurs_otherwise s.form) xs)

-- a test of what is read by a function
pub any-read : {X : Type 0} (f : X → Shape) (p : Shape → Bool) (xs : List X) (ys : List Shape) (r : Bool) → map f xs ≡ ys → r ≡ list_any (λ x. p (f x)) xs → r ≡ list_any p ys
any-read f p xs ys r e is = is ∙ sym (any-map f p xs) ∙ ap (list_any p) e

-- ---- by itself
module _ (shapes : List Shape) (target : Option (List ℕ)) (name : List ℕ) (version : Shape) where
  type-none : derives_from_itself shapes target name version ≡ true → (c : Code) → Breaks shapes target name version kind.Type c → ⊥
  type-none e _ (other_base f) = true≢false (sym e ∙ f)

  type-least : (c : Code) → Breaks shapes target name version kind.Type c → order_of code.SrcRedefine5 ≤ order_of c
  type-least _ (other_base f) = omega arith

  pub type-derives : derives_from_itself shapes target name version ≡ true → IsFirstCode (Breaks shapes target name version kind.Type) None
  type-derives e = type-none e

  pub type-breaks : derives_from_itself shapes target name version ≡ false → IsFirstCode (Breaks shapes target name version kind.Type) (Some code.SrcRedefine5)
  type-breaks e = (other_base e, type-least)

  module _ (of : Redefinable) (xs : List Shape) (are : AreSelves shapes target of name version xs) where
    pub has-several : are_several xs ≡ true → HasSelfReferences shapes target of name version
    has-several e =
        let t = several-two xs e in
        record { one = t.0; other = t.1; is_one = (are t.0).0 t.2; is_other = (are t.1).0 t.3; two = t.4 }

    pub not-several : are_several xs ≡ false → HasSelfReferences shapes target of name version → ⊥
    not-several e h = true≢false (sym (two-several xs h.one h.other ((are h.one).1 h.is_one) ((are h.other).1 h.is_other) h.two) ∙ e)

  group-least : (c : Code) → Breaks shapes target name version kind.Group c → order_of code.SrcRedefine6_1_1 ≤ order_of c
  group-least _ (several h) = omega arith
  group-least _ (otherwise s n r o) = omega arith

  other-least : (HasSelfReferences shapes target kind.Group name version → ⊥) → (c : Code) → Breaks shapes target name version kind.Group c → order_of code.SrcRedefine6_1_2 ≤ order_of c
  other-least n _ (several h) = absurd (n h)
  other-least n _ (otherwise s m r o) = omega arith

  module _ (xs : List Shape) (are : AreSelves shapes target kind.Group name version xs) where
    group-several : are_several xs ≡ true → IsFirstCode (Breaks shapes target name version kind.Group) (Some code.SrcRedefine6_1_1)
    group-several e = (several (has-several kind.Group xs are e), group-least)

    group-otherwise : are_several xs ≡ false → list_any (λ (s : Shape). occurs_otherwise s.form) xs ≡ true → IsFirstCode (Breaks shapes target name version kind.Group) (Some code.SrcRedefine6_1_2)
    group-otherwise e o =
        let n = not-several kind.Group xs are e in
        let s = any-one (λ (s : Shape). occurs_otherwise s.form) xs o in
        (otherwise s.0 n ((are s.0).0 s.1) s.2, other-least n)

    group-none : are_several xs ≡ false → list_any (λ (s : Shape). occurs_otherwise s.form) xs ≡ false → IsFirstCode (Breaks shapes target name version kind.Group) None
    group-none e o = none
      where
        none : (c : Code) → Breaks shapes target name version kind.Group c → ⊥
        none _ (several h) = not-several kind.Group xs are e h
        none _ (otherwise s n r w) = true≢false (sym (any-has (λ (s : Shape). occurs_otherwise s.form) xs s ((are s).1 r) w) ∙ o)

    pub group-first : IsFirstCode (Breaks shapes target name version kind.Group) (group_code xs)
    group-first = by (are_several xs) (list_any (λ (s : Shape). occurs_otherwise s.form) xs) refl refl
      where
        by : (a b : Bool) → are_several xs ≡ a → list_any (λ (s : Shape). occurs_otherwise s.form) xs ≡ b → IsFirstCode (Breaks shapes target name version kind.Group) (if a then Some code.SrcRedefine6_1_1 else (if b then Some code.SrcRedefine6_1_2 else None))
        by true b e f = group-several e
        by false true e f = group-otherwise e f
        by false false e f = group-none e f

  uses-least : (c : Code) → Breaks shapes target name version kind.AttributeGroup c → order_of code.SrcRedefine7_1 ≤ order_of c
  uses-least _ (several_uses h) = omega arith

  module _ (xs : List Shape) (are : AreSelves shapes target kind.AttributeGroup name version xs) where
    uses-several : are_several xs ≡ true → IsFirstCode (Breaks shapes target name version kind.AttributeGroup) (Some code.SrcRedefine7_1)
    uses-several e = (several_uses (has-several kind.AttributeGroup xs are e), uses-least)

    uses-none : are_several xs ≡ false → IsFirstCode (Breaks shapes target name version kind.AttributeGroup) None
    uses-none e = none
      where
        none : (c : Code) → Breaks shapes target name version kind.AttributeGroup c → ⊥
        none _ (several_uses h) = not-several kind.AttributeGroup xs are e h

    pub uses-first : IsFirstCode (Breaks shapes target name version kind.AttributeGroup) (uses_code xs)
    uses-first = by (are_several xs) refl
      where
        by : (a : Bool) → are_several xs ≡ a → IsFirstCode (Breaks shapes target name version kind.AttributeGroup) (if a then Some code.SrcRedefine7_1 else None)
        by true e = uses-several e
        by false e = uses-none e

  own-late : (of : Redefinable) (c : Code) → Breaks shapes target name version of c → order_of code.SrcRedefine5 ≤ order_of c
  own-late _ _ (other_base f) = omega arith
  own-late _ _ (several h) = omega arith
  own-late _ _ (otherwise s n r o) = omega arith
  own-late _ _ (several_uses h) = omega arith

-- ---- with its originals
module _ (available : List Available) (document : ℕ) (shapes : List Shape) (target : Option (List ℕ)) (of : Redefinable) (name : List ℕ) (child : Child) where
  abbrev Here : Code → Type 0
  Here c = BreaksHere available document shapes target of name child c

  lost-least : (c : Code) → Here c → order_of code.SrcExpredef ≤ order_of c
  lost-least _ (lost none) = omega arith
  lost-least _ (circle back b s) = omega arith
  lost-least _ (own c b) = let l = own-late shapes target name child.shape of c b in let k : order_of code.SrcExpredef ≤ order_of code.SrcRedefine5 = omega arith in omega (arith, l, k)

  pub is-lost : IsOriginal available child.location of name None → IsFirstCode Here (Some code.SrcExpredef)
  is-lost none = (lost none, lost-least)

  module _ (v : Version) (found : IsOriginal available child.location of name (Some v)) where
    not-lost : IsOriginal available child.location of name None → ⊥
    not-lost none = none-some v (original-one available of name child.location None (Some v) none found)

    circle-least : (c : Code) → Here c → order_of code.XRedefineCircle ≤ order_of c
    circle-least _ (lost none) = absurd (not-lost none)
    circle-least _ (circle back b s) = omega arith
    circle-least _ (own c b) = let l = own-late shapes target name child.shape of c b in let k : order_of code.XRedefineCircle ≤ order_of code.SrcRedefine5 = omega arith in omega (arith, l, k)

    pub is-circle : ComesBack available (in_redefine document child) → IsFirstCode Here (Some code.XRedefineCircle)
    is-circle back = (circle back.0 back.1 back.2, circle-least)

    module _ (apart : ComesBack available (in_redefine document child) → ⊥) where
      its-own : (c : Code) → Here c → Breaks shapes target name child.shape of c
      its-own _ (lost none) = absurd (not-lost none)
      its-own _ (circle back b s) = absurd (apart (back, b, s))
      its-own _ (own c b) = b

      pub is-own : (r : Option Code) → IsFirstCode (Breaks shapes target name child.shape of) r → IsFirstCode Here r
      is-own None none = λ c h. none c (its-own c h)
      is-own (Some c) first = (own c first.0, λ d h. first.1 d (its-own d h))
