-- The members of a union are simple types and lower; a restriction of a union has them too.
use Rattle.std.proofs.Common.{◌≡◌, ℕ, ◌+◌, ◌<◌, ◌≤◌, zero, suc, List, [], ◌∷◌, true, Option, None, Some, length, max, slice_get, slice_index, refl, ap, ◌∙◌, arith}
use Rattle.std.specs.Prelude.{⊤, All, Contains}
use Rattle.std.proofs.lemmas.List.Elements.{All-nil, All-head, All-weaker, All-contains}
use Rattle.xs_components.specs.Tables.{Tables}
use Rattle.xs_components.specs.declared.common.TypeId.{TypeId}
use Rattle.xs_components.specs.declared.common.TypeId.TheVariants.{AnyType, Builtin, Simple, Complex}
use Rattle.xs_components.specs.declared.simple.SimpleForm.{SimpleForm}
use Rattle.xs_components.specs.declared.simple.SimpleForm.TheVariants.{Restrict, ListOf, UnionOf}
use Rattle.xs_components.specs.declared.simple.SimpleType.{SimpleType}
use Rattle.component_references.specs.Descent.{after_turns, AsksLower}
use Rattle.component_references.specs.Heights.{first_height, type_height, IsLower}
use Rattle.component_references.specs.Ranked.{named_types, IsRanked}
use Rattle.component_references.proofs.DescentLaws.{along-is}
use Rattle.type_derivation.specs.Derives.{type_members, form_members, members_in, simple_members, members_of, is_simple}
use Rattle.type_derivation.specs.Within.{AreSimple}

abbrev most_of_form : SimpleForm → ℕ
most_of_form (Restrict base step) = 0
most_of_form (ListOf item) = 0
most_of_form (UnionOf members) = length members

-- the most members of any of some types
abbrev pub most_members : List SimpleType → ℕ
most_members [] = 0
most_members (p ∷ ps) = max (most_of_form p.form) (most_members ps)

most-at : (ps : List SimpleType) (n : ℕ) (part : SimpleType) → slice_get ps n ≡ Some part → most_of_form part.form ≤ most_members ps
most-at [] n part e = absurd cc
most-at (p ∷ ps) zero part e = let same : p ≡ part = cc in rw same omega arith
most-at (p ∷ ps) (suc n) part e = omega (arith, most-at ps n part e)

module _ (t : Tables) where
  abbrev turns : ℕ → ℕ → List TypeId
  turns k n = after_turns (slice_index t.simples.ranks) [] (λ simple n. members_in simple (slice_get t.simples.parts n)) k n

  most-type : (f : ℕ → List TypeId) → ((n : ℕ) → length (f n) ≤ most_members t.simples.parts) → (of : TypeId) → length (type_members f of) ≤ most_members t.simples.parts
  most-type f each AnyType = omega arith
  most-type f each (Builtin b) = omega arith
  most-type f each (Simple id) = each id
  most-type f each (Complex id) = omega arith

  most-part : (f : ℕ → List TypeId) → ((n : ℕ) → length (f n) ≤ most_members t.simples.parts) → (n : ℕ) (o : Option SimpleType) → slice_get t.simples.parts n ≡ o → length (members_in f o) ≤ most_members t.simples.parts
  most-part f each n None e = omega arith
  most-part f each n (Some part) e = of part.form refl
    where
      of : (form : SimpleForm) → part.form ≡ form → length (form_members f form) ≤ most_members t.simples.parts
      of (Restrict base step) is = most-type f each base
      of (ListOf item) is = omega arith
      of (UnionOf members) is = let m : most_of_form (UnionOf members) ≤ most_members t.simples.parts = rw is at (most-at t.simples.parts n part e) in m

  most-turns : (k n : ℕ) → length (turns k n) ≤ most_members t.simples.parts
  most-turns zero n = omega arith
  most-turns (suc k) n = most-part (turns k) (most-turns k) n (slice_get t.simples.parts n) refl

  -- no type has more members
  pub most-is : (n : ℕ) → length (members_of t (Simple n)) ≤ most_members t.simples.parts
  unfolding simple_members
  most-is n = most-turns (suc (slice_index t.simples.ranks n)) n

  module _ (ranked : IsRanked t) where
    lower-type : (height : ℕ) (f : ℕ → List TypeId) → ((n : ℕ) → All (IsLower t (first_height + slice_index t.simples.ranks n)) (f n)) → (of : TypeId) → IsLower t height of → All (IsLower t height) (type_members f of)
    lower-type height f each AnyType low = All-nil (IsLower t height)
    lower-type height f each (Builtin b) low = All-nil (IsLower t height)
    lower-type height f each (Complex id) low = All-nil (IsLower t height)
    lower-type height f each (Simple id) low =
        All-weaker (IsLower t (first_height + slice_index t.simples.ranks id)) (IsLower t height)
        (λ x l. record { there = l.there; lower = let a = l.lower in let b = low.lower in omega arith }) (f id) (each id)

    lower-form : (height : ℕ) (f : ℕ → List TypeId) → ((n : ℕ) → All (IsLower t (first_height + slice_index t.simples.ranks n)) (f n)) → (form : SimpleForm) → All (IsLower t height) (named_types form) → All (IsLower t height) (form_members f form)
    lower-form height f each (Restrict base step) all = lower-type height f each base (All-head (IsLower t height) base [] all)
    lower-form height f each (ListOf item) all = All-nil (IsLower t height)
    lower-form height f each (UnionOf members) all = all

    lower-part : (f : ℕ → List TypeId) → ((n : ℕ) → All (IsLower t (first_height + slice_index t.simples.ranks n)) (f n)) → (n : ℕ) (o : Option SimpleType) → slice_get t.simples.parts n ≡ o → All (IsLower t (first_height + slice_index t.simples.ranks n)) (members_in f o)
    lower-part f each n None e = All-nil (IsLower t (first_height + slice_index t.simples.ranks n))
    lower-part f each n (Some part) e = lower-form (first_height + slice_index t.simples.ranks n) f each part.form (ranked.simples n part e)

    lower-turns : (k n : ℕ) → All (IsLower t (first_height + slice_index t.simples.ranks n)) (turns k n)
    lower-turns zero n = All-nil (IsLower t (first_height + slice_index t.simples.ranks n))
    lower-turns (suc k) n = lower-part (turns k) (lower-turns k) n (slice_get t.simples.parts n) refl

    -- a member is lower
    pub members-lower : (x : TypeId) → All (IsLower t (type_height t x)) (members_of t x)
    unfolding simple_members
    members-lower AnyType = All-nil (IsLower t 0)
    members-lower (Builtin b) = All-nil (IsLower t (type_height t (Builtin b)))
    members-lower (Simple id) = lower-turns (suc (slice_index t.simples.ranks id)) id
    members-lower (Complex id) = All-nil (IsLower t (type_height t (Complex id)))

    same-type : (f g : ℕ → List TypeId) (rank : ℕ) → ((y : ℕ) → ⊤ → slice_index t.simples.ranks y < rank → f y ≡ g y) → (of : TypeId) → IsLower t (first_height + rank) of → type_members f of ≡ type_members g of
    same-type f g rank same AnyType low = refl
    same-type f g rank same (Builtin b) low = refl
    same-type f g rank same (Simple id) low = same id tt (let l = low.lower in omega arith)
    same-type f g rank same (Complex id) low = refl

    same-form : (f g : ℕ → List TypeId) (rank : ℕ) → ((y : ℕ) → ⊤ → slice_index t.simples.ranks y < rank → f y ≡ g y) → (form : SimpleForm) → All (IsLower t (first_height + rank)) (named_types form) → form_members f form ≡ form_members g form
    same-form f g rank same (Restrict base step) all = same-type f g rank same base (All-head (IsLower t (first_height + rank)) base [] all)
    same-form f g rank same (ListOf item) all = refl
    same-form f g rank same (UnionOf members) all = refl

    step-asks : AsksLower (slice_index t.simples.ranks) [] (λ simple n. members_in simple (slice_get t.simples.parts n)) (λ x. ⊤)
    step-asks x f g is same = of (slice_get t.simples.parts x) refl
      where
        of : (o : Option SimpleType) → slice_get t.simples.parts x ≡ o → members_in f o ≡ members_in g o
        of None e = refl
        of (Some part) e = same-form f g (slice_index t.simples.ranks x) same part.form (ranked.simples x part e)

    -- the members of a type by how it is made
    pub members-is : (n : ℕ) → simple_members t n ≡ members_in (simple_members t) (slice_get t.simples.parts n)
    unfolding simple_members
    members-is n = along-is (slice_index t.simples.ranks) [] (λ simple n. members_in simple (slice_get t.simples.parts n)) (λ x. ⊤) step-asks n tt

    -- of a simple type that was looked up
    module _ (at : TypeId) (id : ℕ) (is : at ≡ Simple id) (part : SimpleType) (there : slice_get t.simples.parts id ≡ Some part) where
      pub made-of : (form : SimpleForm) → part.form ≡ form → members_of t at ≡ form_members (simple_members t) form
      made-of form e = ap (members_of t) is ∙ members-is id ∙ ap (members_in (simple_members t)) there ∙ ap (form_members (simple_members t)) e

      pub goes-lower : (base : TypeId) → named_types part.form ≡ base ∷ [] → IsLower t (type_height t at) base
      goes-lower base e = rw is (let all : All (IsLower t (type_height t (Simple id))) (base ∷ []) = rw e at (ranked.simples id part there) in All-head (IsLower t (type_height t (Simple id))) base [] all)

  module _ (simple : AreSimple t) where
    abbrev Simples : List TypeId → Type 0
    Simples = All (λ x. is_simple x ≡ true)

    simple-type : (f : ℕ → List TypeId) → ((n : ℕ) → Simples (f n)) → (of : TypeId) → Simples (type_members f of)
    simple-type f each AnyType = All-nil (λ x. is_simple x ≡ true)
    simple-type f each (Builtin b) = All-nil (λ x. is_simple x ≡ true)
    simple-type f each (Simple id) = each id
    simple-type f each (Complex id) = All-nil (λ x. is_simple x ≡ true)

    simple-form : (f : ℕ → List TypeId) → ((n : ℕ) → Simples (f n)) → (form : SimpleForm) → Simples (named_types form) → Simples (form_members f form)
    simple-form f each (Restrict base step) h = simple-type f each base
    simple-form f each (ListOf item) h = All-nil (λ x. is_simple x ≡ true)
    simple-form f each (UnionOf members) h = h

    simple-part : (f : ℕ → List TypeId) → ((n : ℕ) → Simples (f n)) → (n : ℕ) (o : Option SimpleType) → slice_get t.simples.parts n ≡ o → Simples (members_in f o)
    simple-part f each n None e = All-nil (λ x. is_simple x ≡ true)
    simple-part f each n (Some part) e = simple-form f each part.form (simple.named n part e)

    simple-turns : (k n : ℕ) → Simples (turns k n)
    simple-turns zero n = All-nil (λ x. is_simple x ≡ true)
    simple-turns (suc k) n = simple-part (turns k) (simple-turns k) n (slice_get t.simples.parts n) refl

    all-simple : (x : TypeId) → Simples (members_of t x)
    unfolding simple_members
    all-simple AnyType = All-nil (λ x. is_simple x ≡ true)
    all-simple (Builtin b) = All-nil (λ x. is_simple x ≡ true)
    all-simple (Simple id) = simple-turns (suc (slice_index t.simples.ranks id)) id
    all-simple (Complex id) = All-nil (λ x. is_simple x ≡ true)

    -- a member is simple
    pub member-simple : (x member : TypeId) → Contains (members_of t x) member → is_simple member ≡ true
    member-simple x member c = All-contains (λ x. is_simple x ≡ true) (members_of t x) member (all-simple x) c
