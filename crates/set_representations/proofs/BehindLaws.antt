-- What stands in an element is behind it.
use Rattle.std.proofs.Common.{◌≡◌, ℕ, zero, suc, ◌+◌, ◌<◌, ◌≤◌, ◌==◌, Bool, true, false, cond, List, [], ◌∷◌, ◌++◌, Option, Some, None, length, if◌then◌else◌, refl, sym, ap, subst, ◌∙◌, arith, length-append}
use Rattle.std.specs.Prelude.{All, slice_get, filter_map, reverse}
use Rattle.std.specs.List.{position_from, cons_option}
use Rattle.std.proofs.lemmas.List.Elements.{All-nil, All-cons, All-weaker}
use Rattle.std.proofs.lemmas.Option.{slice_get_within}
use Rattle.xs_names.specs.Names.{NameTable}
use Rattle.schema_shape.specs.declared.forms.Shape.{Shape}
use Rattle.schema_set.specs.declared.documents.SetDocument.{SetDocument}
use Rattle.representations.specs.declared.naming.Naming.{Naming}
use Rattle.representations.specs.Naming.{naming_of}
use Rattle.representations.specs.declared.parts.Representation.{Representation}
use Rattle.representations.specs.Behind.{IsBetween, AreBehind}
use Rattle.representations.specs.declared.defaults.Defaults.{Defaults}
use Rattle.representations.specs.Methods.{defaults_of}
use Rattle.set_representations.specs.Members.{place_from, places_of}
use Rattle.set_representations.specs.Scopes.{openings}
use Rattle.set_representations.specs.Documents.{representations_from, document_representations, representations_of, representations, shapes_of}

module _ {K : Type 0} (p : K → Bool) where
  position-between : (i n : ℕ) (xs : List K) → position_from p i xs ≡ Some n → (i ≤ n) × (n < i + length xs)
  position-between i n [] e = absurd (cc)
  position-between i n (x ∷ xs) e = by (p x) refl (position-between (i + 1) n xs)
    where
      by : (b : Bool) → p x ≡ b → (position_from p (i + 1) xs ≡ Some n → (i + 1 ≤ n) × (n < i + 1 + length xs)) → (i ≤ n) × (n < i + length (x ∷ xs))
      by true is on =
          let found : Some i ≡ Some n = sym (ap (λ c. cond c (Some i) (position_from p (i + 1) xs)) is) ∙ e in
          let same : i ≡ n = cc in
          (omega arith, omega arith)
      by false is on =
          let rest = on (sym (ap (λ c. cond c (Some i) (position_from p (i + 1) xs)) is) ∙ e) in
          (omega (arith, rest.0), omega (arith, rest.1))

-- what each of the values that a look-up finds has
cons-all : (P : ℕ → Type 0) (o : Option ℕ) (xs : List ℕ) → ((n : ℕ) → o ≡ Some n → P n) → All P xs → All P (cons_option o xs)
cons-all P None xs h all = all
cons-all P (Some n) xs h all = All-cons P n xs (h n refl) all

found-all : (P : ℕ → Type 0) (f : ℕ → Option ℕ) → ((item n : ℕ) → f item ≡ Some n → P n) → (items : List ℕ) → All P (filter_map f items)
found-all P f each [] = All-nil P
found-all P f each (item ∷ items) = cons-all P (f item) (filter_map f items) (each item) (found-all P f each items)

abbrev members_in : Option Representation → List ℕ
members_in None = []
members_in (Some rep) = rep.members

-- what holds at each place of two lists, one behind the other
at-each : {X : Type 0} (P : ℕ → X → Type 0) (xs ys : List X) (n : ℕ) → ((k : ℕ) (x : X) → slice_get xs k ≡ Some x → P (n + k) x)
    → ((k : ℕ) (x : X) → slice_get ys k ≡ Some x → P (n + length xs + k) x) → (k : ℕ) (x : X) → slice_get (xs ++ ys) k ≡ Some x → P (n + k) x
at-each P [] ys n f g k x e = let same : n + 0 + k ≡ n + k = omega arith in subst (λ m. P m x) same (g k x e)
at-each P (y ∷ xs) ys n f g zero x e = f zero x e
at-each P (y ∷ xs) ys n f g (suc k) x e =
    let on : suc n + k ≡ n + suc k = omega arith in
    subst (λ m. P m x) on
    (at-each P xs ys (suc n)
    (λ j z h. let same : n + suc j ≡ suc n + j = omega arith in subst (λ m. P m z) same (f (suc j) z h))
    (λ j z h. let same : n + suc (length xs) + j ≡ suc n + length xs + j = omega arith in subst (λ m. P m z) same (g j z h))
    k x e)

module _ (t : NameTable) where
  module _ (naming : Naming) (defaults : Defaults) (document first : ℕ) where
    pub length-representations_from : (before : List Shape) (place : ℕ) (shapes : List Shape)
        → length (representations_from t naming defaults document first before place shapes) ≡ length shapes
    length-representations_from before place [] = refl
    length-representations_from before place (s ∷ shapes) = ap suc (length-representations_from (s ∷ before) (place + 1) shapes)

    members-between : (place end : ℕ) (behind : List Shape) (items : List ℕ) → place + 1 + length behind ≤ end → All (IsBetween place end) (places_of (place + 1) behind items)
    members-between place end behind items l = found-all (IsBetween place end) (place_from (place + 1) behind)
        (λ item n e. let h = position-between (λ s. s.item == item) (place + 1) n behind e in (omega (arith, h.0), omega (arith, h.1))) items

    document-between : (before : List Shape) (place end : ℕ) (shapes : List Shape) → place + length shapes ≤ end → (k : ℕ) (rep : Representation)
        → slice_get (representations_from t naming defaults document first before place shapes) k ≡ Some rep → All (IsBetween (place + k) end) rep.members
    document-between before place end [] l k rep e = absurd (cc)
    document-between before place end (s ∷ behind) l zero rep e =
        let at : place ≡ place + 0 = omega arith in
        let own = ap (λ (o : Option Representation). members_in o) e in
        subst (λ m. All (IsBetween m end) rep.members) at
        (subst (λ (ms : List ℕ). All (IsBetween place end) ms) own (members-between place end behind s.members (omega arith)))
    document-between before place end (s ∷ behind) l (suc k) rep e =
        let on : place + 1 + k ≡ place + suc k = omega arith in
        subst (λ m. All (IsBetween m end) rep.members) on (document-between (s ∷ before) (place + 1) end behind (omega arith) k rep e)

  set-between : (place first end : ℕ) (ds : List SetDocument) → place + length (representations_of t place first ds) ≤ end → (k : ℕ) (rep : Representation)
      → slice_get (representations_of t place first ds) k ≡ Some rep → All (IsBetween (place + k) end) rep.members
  set-between place first end [] l k rep e = absurd (cc)
  set-between place first end (d ∷ ds) l k rep e =
      let shapes = shapes_of d in
      let own = document_representations t place first d in
      let more = representations_of t (place + length shapes) (first + openings (reverse shapes)) ds in
      let many : length own ≡ length shapes = length-representations_from (naming_of d.target shapes) (defaults_of shapes) d.number first [] place shapes in
      let all : length (own ++ more) ≡ length own + length more = length-append own more in
      at-each (λ m (r : Representation). All (IsBetween m end) r.members) own more place
      (λ j r h. document-between (naming_of d.target shapes) (defaults_of shapes) d.number first [] place end shapes (omega arith) j r h)
      (λ j r h.
      let on : place + length shapes + j ≡ place + length own + j = omega arith in
      subst (λ m. All (IsBetween m end) r.members) on (set-between (place + length shapes) (first + openings (reverse shapes)) end ds (omega arith) j r h))
      k rep e

  pub set-behind : (ds : List SetDocument) → AreBehind (representations t ds)
  set-behind ds place rep e =
      let at : 0 + place ≡ place = omega arith in
      subst (λ m. All (IsBetween m (length (representations t ds))) rep.members) at (set-between 0 1 (length (representations t ds)) ds (omega arith) place rep e)
