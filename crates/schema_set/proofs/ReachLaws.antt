-- What the document of a place leads to is the least set.
use Rattle.std.proofs.Common.{◌≡◌, ℕ, zero, suc, ◌+◌, ◌-◌, ◌*◌, ◌/◌, ◌%◌, ◌<◌, ◌≤◌, ◌⊎◌, inl, inr, List, [], ◌∷◌, length, map, get_or, ◌^◌, Option, None, Some, refl, sym, ap, ◌∙◌, subst, arith}
use Rattle.std.specs.Prelude.{All, Contains, slice_get, filter_map, option_and_then}
use Rattle.std.specs.Option.{option_map}
use Rattle.std.proofs.lemmas.Nat.{div-mul-add, mod-mul-add, mul-lt, mul-add-lt, div_below, mod_below}
use Rattle.std.proofs.lemmas.Option.{none-some, same_Some, slice_get-map, get_or_from_slice_get}
use Rattle.std.proofs.lemmas.List.Elements.{Contains-get_or, Contains-append_left, Contains-append_right, Contains-append_cases, Contains-push, Contains-push_cases}
use Rattle.schema_shape.specs.declared.forms.Form.{Form}
use Rattle.schema_shape.specs.declared.forms.Form.TheVariants as forms
use Rattle.schema_shape.specs.declared.forms.Shape.{Shape}
use Rattle.schema_shape.specs.declared.forms.ShapedSchema.{ShapedSchema}
use Rattle.schema_set.specs.declared.documents.Available.{Available}
use Rattle.schema_set.specs.EffectiveSet.{own_target, IsInclusion, IsImport, Says, InSet, first, included, imported, document_at}
use Rattle.schema_set.specs.Order.{own_target_of, target_place, IsNumber}
use Rattle.schema_set.specs.inside.Following.{shapes_of, shapes_at, with_place, with_own, next_of, following, Reaches, begins, further}
use Rattle.schema_set.proofs.PlaceLaws.{own-read, place-within, place-own}
use Rattle.schema_set.proofs.LocationLaws.{document_at-within}

-- ---- lists
abbrev Kept : {X : Type 0} → (X → Option ℕ) → List X → ℕ → Type 0
Kept {X} h xs y = (x : X) × Contains xs x × (h x ≡ Some y)

in-rest : {X : Type 0} (h : X → Option ℕ) (x : X) (xs : List X) (y : ℕ) → Kept h xs y → Kept h (x ∷ xs) y
in-rest h x xs y k = (k.0, Contains-append_right (x ∷ []) xs k.0 k.1, k.2)

pub in-filter_map : {X : Type 0} (h : X → Option ℕ) (xs : List X) (y : ℕ) → Contains (filter_map h xs) y → Kept h xs y
in-filter_map h [] y c = absurd (omega (arith, c.1))
in-filter_map {X} h (x ∷ xs) y c = by (h x) refl (in-filter_map h xs y)
  where
    by : (o : Option ℕ) → h x ≡ o → (Contains (filter_map h xs) y → Kept h xs y) → Kept h (x ∷ xs) y
    by None e rest = in-rest h x xs y (rest (rw e at c))
    by (Some z) e rest = elim (Contains-append_cases (z ∷ []) (filter_map h xs) y (rw e at c)) [
      | inl one ↦ elim (Contains-push_cases [] z y one) [ inl none ↦ absurd (omega (arith, none.1)) | inr same ↦ (x, Contains-append_left (x ∷ []) xs x (Contains-push [] x), e ∙ ap (λ v. Some v) same) ]
      | inr more ↦ in-rest h x xs y (rest more)
    ]

pub filter_map-has : {X : Type 0} (h : X → Option ℕ) (xs : List X) (i : ℕ) (d : X) (y : ℕ) → i < length xs → h (get_or xs i d) ≡ Some y → Contains (filter_map h xs) y
filter_map-has h [] i d y b e = absurd (omega (arith, b))
filter_map-has h (x ∷ xs) zero d y b e = rw e (Contains-append_left (y ∷ []) (filter_map h xs) y (Contains-push [] y))
filter_map-has h (x ∷ xs) (suc i) d y b e = by (h x) refl (filter_map-has h xs i d y (omega (arith, b)) e)
  where
    by : (o : Option ℕ) → h x ≡ o → Contains (filter_map h xs) y → Contains (filter_map h (x ∷ xs)) y
    by None f rest = rw f rest
    by (Some z) f rest = rw f (Contains-append_right (z ∷ []) (filter_map h xs) y rest)

mapped : {X : Type 0} (f : X → ℕ) (o : Option X) (y : ℕ) → option_map f o ≡ Some y → (x : X) × (o ≡ Some x) × (y ≡ f x)
mapped f None y e = absurd (none-some y e)
mapped f (Some x) y e = (x, refl, sym (same_Some (f x) y e))

document-there : (xs : List Available) (place : ℕ) → place < length xs → (a : Available) × (slice_get xs place ≡ Some a)
document-there [] place h = absurd (omega (arith, h))
document-there (a ∷ xs) zero h = (a, refl)
document-there (a ∷ xs) (suc place) h = document-there xs place (omega (arith, h))

-- ---- what an element leads to
abbrev Includes : List Available → ℕ → Form → ℕ → Type 0
Includes available place form y = (location : List ℕ) × (number : ℕ) × IsInclusion form location × (document_at available location ≡ Some number) × (y ≡ with_place available place number)

abbrev Imports : List Available → Form → ℕ → Type 0
Imports available form y = (location : List ℕ) × (number : ℕ) × IsImport form location × (document_at available location ≡ Some number) × (y ≡ with_own available number)

next-cases : (available : List Available) (place : ℕ) (form : Form) (y : ℕ) → next_of available place form ≡ Some y → Includes available place form y ⊎ Imports available form y
next-cases available place (forms.Include location) y e =
    let m = mapped (with_place available place) (document_at available location) y e in inl (location, m.0, inl refl, m.1, m.2)
next-cases available place (forms.Redefine location) y e =
    let m = mapped (with_place available place) (document_at available location) y e in inl (location, m.0, inr refl, m.1, m.2)
next-cases available place (forms.Import namespace None) y e = absurd (none-some y e)
next-cases available place (forms.Import namespace (Some location)) y e =
    let m = mapped (with_own available) (document_at available location) y e in inr (location, m.0, (namespace, refl), m.1, m.2)
next-cases available place _ y e = absurd (none-some y e)

included-next : (available : List Available) (place : ℕ) (form : Form) (location : List ℕ) (number : ℕ) → IsInclusion form location → document_at available location ≡ Some number
    → next_of available place form ≡ Some (with_place available place number)
included-next available place form location number (inl is) e = ap (next_of available place) is ∙ ap (option_map (with_place available place)) e
included-next available place form location number (inr is) e = ap (next_of available place) is ∙ ap (option_map (with_place available place)) e

imported-next : (available : List Available) (place : ℕ) (form : Form) (location : List ℕ) (number : ℕ) → IsImport form location → document_at available location ≡ Some number
    → next_of available place form ≡ Some (with_own available number)
imported-next available place form location number is e = ap (next_of available place) is.1 ∙ ap (option_map (with_own available)) e

-- ---- numbers
pub record IsAt (n x place target : ℕ) : Type 0 where
  pub row : x / n ≡ place
  pub column : x % n ≡ target
  pub within : x < n * n

pub at-place : (n x place target : ℕ) → place < n → target < n → x ≡ place * n + target → IsAt n x place target
at-place n x place target p t e = record {
  row = ap (λ (k : ℕ). k / n) e ∙ div-mul-add place n target t;
  column = ap (λ (k : ℕ). k % n) e ∙ mod-mul-add place n target t;
  within = let b = mul-add-lt place n target n p t in omega (arith, b, e);
}

pub row_below : (x n : ℕ) → 0 < n → x < n * n → x / n < n
row_below x n some h = div_below x n n some h

pub column_below : (x n : ℕ) → 0 < n → x % n < n
column_below x n some = mod_below x n some

-- a number from 1, as a place
number-low : (available : List Available) (number : ℕ) → IsNumber available number → number - 1 < length available
number-low available number is = omega (arith, is.0, is.1)

-- a document says so by one of its shapes
says-of : (available : List Available) (IsForm : Form → Type 0) (place : ℕ) (a : Available) (shape : Shape) → slice_get available place ≡ Some a → Contains a.shaped.shapes shape → IsForm shape.form → Says available (place + 1) IsForm
says-of available IsForm place a shape e c f = (place, a, shape, refl, e, c, f)

said-form : (available : List Available) (document : ℕ) (IsForm : Form → Type 0) (s : Says available document IsForm) → IsForm s.2.form
said-form available document IsForm s = s.6

module _ (available : List Available) (start : ℕ) (some : start < length available) where
  any : 0 < length available
  any = omega (arith, some)

  -- the number of the document with its own target namespace
  begun-is : with_own available (start + 1) ≡ start * length available + target_place available (own_target_of available (start + 1))
  begun-is =
      let same : start + 1 - 1 ≡ start = omega arith in
      ap (λ k. k * length available + target_place available (own_target_of available (start + 1))) same

  -- the number is that of a document of the set, and its target namespace stands where the number says
  pub record Stands (x : ℕ) : Type 0 where
    pub within : x < length available * length available
    pub place : target_place available (own_target_of available (x % length available + 1)) ≡ x % length available
    pub inside : InSet available start (x / length available + 1) (own_target_of available (x % length available + 1))

  stands-at : (x place target : ℕ) → IsAt (length available) x place target → target_place available (own_target_of available (target + 1)) ≡ target → InSet available start (place + 1) (own_target_of available (target + 1)) → Stands x
  stands-at x place target is t i = record {
    within = is.within;
    place = subst (λ k. target_place available (own_target_of available (k + 1)) ≡ k) (sym is.column) t;
    inside = subst (λ k. InSet available start (x / length available + 1) (own_target_of available (k + 1))) (sym is.column)
        (subst (λ k. InSet available start (k + 1) (own_target_of available (target + 1))) (sym is.row) i);
  }

  -- a document is there
  a-document : (place : ℕ) → place < length available → (a : Available) × (slice_get available place ≡ Some a)
  a-document place h = document-there available place h

  shape-there : (x : ℕ) (a : Available) (shape : Shape) → slice_get available (x / length available) ≡ Some a → Contains (shapes_at available (x / length available)) shape → Contains a.shaped.shapes shape
  shape-there x a shape e c = subst (λ (xs : List Shape). Contains xs shape) (ap shapes_of e) c

  -- a number from 1, as a place
  module _ (number : ℕ) (is : IsNumber available number) where
    back : number - 1 + 1 ≡ number
    back = omega (arith, is.0)

    low : number - 1 < length available
    low = omega (arith, is.0, is.1)

  -- what the document of the place leads to is in the set
  stands-begun : Stands (with_own available (start + 1))
  stands-begun =
      let b = a-document start some in
      let own : own_target_of available (start + 1) ≡ own_target b.0.shaped.shapes = own-read available start b.0 b.1 in
      let place = target_place available (own_target_of available (start + 1)) in
      let same : place ≡ target_place available (own_target b.0.shaped.shapes) = ap (target_place available) own in
      let its : own_target_of available (place + 1) ≡ own_target b.0.shaped.shapes = ap (λ p. own_target_of available (p + 1)) same ∙ place-own available start b.0 b.1 in
      let below : place < length available = subst (λ p. p < length available) (sym same) (place-within available start b.0 b.1) in
      stands-at (with_own available (start + 1)) start place (at-place (length available) (with_own available (start + 1)) start place some below begun-is)
      (ap (target_place available) its ∙ sym same) (subst (InSet available start (start + 1)) (sym its) (first b.0 b.1))

  stands-further : (x y : ℕ) → Stands x → Contains (following available x) y → Stands y
  stands-further x y s c =
      let k = in-filter_map (λ shape. next_of available (x % length available) shape.form) (shapes_at available (x / length available)) y c in
      let shape = k.0 in
      let d = a-document (x / length available) (row_below x (length available) any s.within) in
      let says : Contains d.0.shaped.shapes shape = shape-there x d.0 shape d.1 k.1 in
      let column : x % length available < length available = mod_below x (length available) any in
      elim (next-cases available (x % length available) shape.form y k.2) [
        | inl i ↦ (
            let number = i.1 in
            let is : IsNumber available number = document_at-within available i.0 number i.3 in
            stands-at y (number - 1) (x % length available) (at-place (length available) y (number - 1) (x % length available) (low number is) column i.4) s.place
            (subst (λ m. InSet available start m (own_target_of available (x % length available + 1))) (sym (back number is))
            (included (x / length available + 1) number (own_target_of available (x % length available + 1)) i.0 s.inside (says-of available (λ form. IsInclusion form i.0) (x / length available) d.0 shape d.1 says i.2) i.3))
            )
        | inr i ↦ (
            let number = i.1 in
            let is : IsNumber available number = document_at-within available i.0 number i.3 in
            let b = a-document (number - 1) (low number is) in
            let own : own_target_of available number ≡ own_target b.0.shaped.shapes = ap (option_and_then (λ (a : Available). own_target a.shaped.shapes)) b.1 in
            let place = target_place available (own_target_of available number) in
            let same : place ≡ target_place available (own_target b.0.shaped.shapes) = ap (target_place available) own in
            let its : own_target_of available (place + 1) ≡ own_target b.0.shaped.shapes = ap (λ p. own_target_of available (p + 1)) same ∙ place-own available (number - 1) b.0 b.1 in
            let below : place < length available = subst (λ p. p < length available) (sym same) (place-within available (number - 1) b.0 b.1) in
            stands-at y (number - 1) place (at-place (length available) y (number - 1) place (low number is) below i.4) (ap (target_place available) its ∙ sym same)
            (subst (InSet available start (number - 1 + 1)) (sym its)
            (imported (x / length available + 1) (number - 1) (own_target_of available (x % length available + 1)) i.0 b.0 s.inside (says-of available (λ form. IsImport form i.0) (x / length available) d.0 shape d.1 says i.2) (i.3 ∙ ap (λ m. Some m) (sym (back number is))) b.1))
            )
      ]

  pub stands : (x : ℕ) → Reaches available start x → Stands x
  stands _ begins = stands-begun
  stands _ (further x y r c) = stands-further x y (stands x r) c

  -- each document of the set is led to
  abbrev Led : ℕ → Option (List ℕ) → Type 0
  Led number target = (x : ℕ) × Reaches available start x × (x / length available + 1 ≡ number) × (own_target_of available (x % length available + 1) ≡ target)

  follows : (x document y : ℕ) (IsForm : Form → Type 0) → x / length available + 1 ≡ document → (s : Says available document IsForm) → next_of available (x % length available) s.2.form ≡ Some y → Contains (following available x) y
  follows x document y IsForm e s n =
      let row : s.0 ≡ x / length available = omega (arith, e, s.3) in
      let here : slice_get available (x / length available) ≡ Some s.1 = ap (slice_get available) (sym row) ∙ s.4 in
      let listed : Contains (shapes_at available (x / length available)) s.2 = subst (λ (xs : List Shape). Contains xs s.2) (sym (ap shapes_of here)) s.5 in
      filter_map-has (λ shape. next_of available (x % length available) shape.form) (shapes_at available (x / length available)) listed.0 s.2 y listed.1 (ap (λ (shape : Shape). next_of available (x % length available) shape.form) listed.2 ∙ n)

  pub led : (number : ℕ) (target : Option (List ℕ)) → InSet available start number target → Led number target
  led _ _ (first a is) =
      let own : own_target_of available (start + 1) ≡ own_target a.shaped.shapes = own-read available start a is in
      let place = target_place available (own_target_of available (start + 1)) in
      let same : place ≡ target_place available (own_target a.shaped.shapes) = ap (target_place available) own in
      let its : own_target_of available (place + 1) ≡ own_target a.shaped.shapes = ap (λ p. own_target_of available (p + 1)) same ∙ place-own available start a is in
      let below : place < length available = subst (λ p. p < length available) (sym same) (place-within available start a is) in
      let z = at-place (length available) (with_own available (start + 1)) start place some below begun-is in
      (with_own available (start + 1), begins, ap (λ k. k + 1) z.row, ap (λ k. own_target_of available (k + 1)) z.column ∙ its)
  led _ _ (included document other target location inside says at) =
      let l = led document target inside in
      let x = l.0 in
      let s = stands x l.1 in
      let is : IsNumber available other = document_at-within available location other at in
      let y = with_place available (x % length available) other in
      let z = at-place (length available) y (other - 1) (x % length available) (low other is) (mod_below x (length available) any) refl in
      let c = follows x document y (λ form. IsInclusion form location) l.2 says (included-next available (x % length available) says.2.form location other (said-form available document (λ form. IsInclusion form location) says) at) in
      (y, further x y l.1 c, ap (λ k. k + 1) z.row ∙ back other is, ap (λ k. own_target_of available (k + 1)) z.column ∙ l.3)
  led _ _ (imported document n target location b inside says at is) =
      let l = led document target inside in
      let x = l.0 in
      let number : IsNumber available (n + 1) = document_at-within available location (n + 1) at in
      let place = target_place available (own_target_of available (n + 1)) in
      let own : own_target_of available (n + 1) ≡ own_target b.shaped.shapes = own-read available n b is in
      let same : place ≡ target_place available (own_target b.shaped.shapes) = ap (target_place available) own in
      let its : own_target_of available (place + 1) ≡ own_target b.shaped.shapes = ap (λ p. own_target_of available (p + 1)) same ∙ place-own available n b is in
      let below : place < length available = subst (λ p. p < length available) (sym same) (place-within available n b is) in
      let y = with_own available (n + 1) in
      let z = at-place (length available) y (n + 1 - 1) place (low (n + 1) number) below refl in
      let c = follows x document y (λ form. IsImport form location) l.2 says (imported-next available (x % length available) says.2.form location (n + 1) (said-form available document (λ form. IsImport form location) says) at) in
      (y, further x y l.1 c, ap (λ k. k + 1) z.row ∙ back (n + 1) number, ap (λ k. own_target_of available (k + 1)) z.column ∙ its)

-- the place of the own target namespace of a document is below the number of documents
pub place-below : (available : List Available) (number : ℕ) → IsNumber available number → target_place available (own_target_of available number) < length available
place-below available number is =
    let d = document-there available (number - 1) (number-low available number is) in
    subst (λ o. target_place available (option_and_then (λ (a : Available). own_target a.shaped.shapes) o) < length available) (sym d.1) (place-within available (number - 1) d.0 d.1)

next-below : (available : List Available) → 0 < length available → (place : ℕ) → place < length available → (form : Form) (y : ℕ) → next_of available place form ≡ Some y → y < length available * length available
next-below available some place p form y e = elim (next-cases available place form y e) [
  | inl i ↦ (
      let is : IsNumber available i.1 = document_at-within available i.0 i.1 i.3 in
      let z = at-place (length available) y (i.1 - 1) place (number-low available i.1 is) p i.4 in z.within
      )
  | inr i ↦ (
      let is : IsNumber available i.1 = document_at-within available i.0 i.1 i.3 in
      let z = at-place (length available) y (i.1 - 1) (target_place available (own_target_of available i.1)) (number-low available i.1 is) (place-below available i.1 is) i.4 in z.within
      )
]

-- all that a document leads to has a number below the square
pub following-below : (available : List Available) → 0 < length available → (x : ℕ) → All (λ y. y < length available * length available) (following available x)
following-below available some x k d h =
    let y = get_or (following available x) k d in
    let c = in-filter_map (λ shape. next_of available (x % length available) shape.form) (shapes_at available (x / length available)) y (Contains-get_or (following available x) k d h) in
    next-below available some (x % length available) (mod_below x (length available) some) c.0.form y c.2

-- a document, by the number that a location has
pub shapes-read : (available : List Available) (place : ℕ) (s : ShapedSchema) → option_map (λ (a : Available). a.shaped) (slice_get available place) ≡ Some s → s.shapes ≡ shapes_at available place
shapes-read available place s e = by (slice_get available place) refl
  where
    by : (o : Option Available) → slice_get available place ≡ o → s.shapes ≡ shapes_at available place
    by None f = absurd (none-some s (rw f at e))
    by (Some a) f = let same : a.shaped ≡ s = same_Some a.shaped s (rw f at e) in ap (λ (t : ShapedSchema). t.shapes) (sym same) ∙ ap shapes_of (sym f)

pub own-by-place : (available : List Available) (place : ℕ) (s : ShapedSchema) → option_map (λ (a : Available). a.shaped) (slice_get available place) ≡ Some s → option_and_then (λ (a : Available). own_target a.shaped.shapes) (slice_get available place) ≡ own_target s.shapes
own-by-place available place s e = by (slice_get available place) refl
  where
    by : (o : Option Available) → slice_get available place ≡ o → option_and_then (λ (a : Available). own_target a.shaped.shapes) (slice_get available place) ≡ own_target s.shapes
    by None f = absurd (none-some s (rw f at e))
    by (Some a) f = let same : a.shaped ≡ s = same_Some a.shaped s (rw f at e) in ap (option_and_then (λ (b : Available). own_target b.shaped.shapes)) f ∙ ap (λ (t : ShapedSchema). own_target t.shapes) same

pub square-some : (n : ℕ) → 0 < n → 0 < n * n
square-some n some = let b = mul-add-lt 0 n 0 n some some in omega (arith, b)

-- the place of the own target namespace of a document, read off the list of all
pub place-read : (available : List Available) (places : List ℕ) (number p : ℕ) → places ≡ map (λ (a : Available). target_place available (own_target a.shaped.shapes)) available → IsNumber available number → p ≡ get_or places (number - 1) p
    → p ≡ target_place available (own_target_of available number)
place-read available places number p are is read =
    let d = document-there available (number - 1) (omega (arith, is.0, is.1)) in
    let at-it : slice_get places (number - 1) ≡ Some (target_place available (own_target d.0.shaped.shapes)) =
    ap (λ l. slice_get l (number - 1)) are ∙ slice_get-map (λ (a : Available). target_place available (own_target a.shaped.shapes)) available (number - 1) ∙ ap (option_map (λ (a : Available). target_place available (own_target a.shaped.shapes))) d.1 in
    read ∙ get_or_from_slice_get places (number - 1) (target_place available (own_target d.0.shaped.shapes)) p at-it ∙ ap (λ o. target_place available (option_and_then (λ (a : Available). own_target a.shaped.shapes) o)) (sym d.1)

-- a number of a document with a target namespace
pub number-fits : (count number place : ℕ) → 0 < number → number ≤ count → place < count → count < 2 ^ 16 → ((number - 1) * count + place < count * count) × (count * count < 2 ^ 32)
number-fits count number place some within below few =
    let a : number - 1 < count = omega (arith, some, within) in
    let fits = mul-lt count count (2 ^ 16) (2 ^ 16) few few in
    (mul-add-lt (number - 1) count place count a below, omega (arith, fits))

-- the number of a document with its own target namespace
pub own_within : (available : List Available) (number : ℕ) → IsNumber available number → length available < 2 ^ 16 → with_own available number < length available * length available
own_within available number is few =
    (number-fits (length available) number (target_place available (own_target_of available number)) is.0 is.1 (place-below available number is) few).0

pub square-fits : (n : ℕ) → n < 2 ^ 16 → n * n < 2 ^ 32
square-fits n few = let fits = mul-lt n n (2 ^ 16) (2 ^ 16) few few in omega (arith, fits)
