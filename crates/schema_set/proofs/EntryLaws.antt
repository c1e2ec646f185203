-- The documents of a set by their numbers.
use Rattle.std.proofs.Common.{◌≡◌, ℕ, ◌+◌, ◌-◌, ◌*◌, ◌/◌, ◌%◌, ◌<◌, ◌≤◌, ◌≢◌, ◌↔◌, inl, inr, List, [], ◌∷◌, ◌++◌, length, map, drop, get_or, Bool, true, false, if◌then◌else◌, Option, None, Some, refl, sym, ap, ◌∙◌, subst, arith}
use Rattle.std.specs.Prelude.{All, Contains, slice_get}
use Rattle.std.specs.Option.{option_map, option_and_then}
use Rattle.std.proofs.lemmas.Bool.{cases_eq, cases_lt}
use Rattle.std.proofs.lemmas.Nat.{div-add-mod', le-div}
use Rattle.std.proofs.lemmas.List.{append-nil, append_assoc, drop_all, map-append}
use Rattle.std.proofs.lemmas.Option.{none-some, same_Some, slice_get-map, slice_get-get_or, slice_get_within, get_or_from_slice_get}
use Rattle.schema_shape.specs.declared.forms.ShapedSchema.{ShapedSchema}
use Rattle.schema_set.specs.declared.documents.Available.{Available}
use Rattle.schema_set.specs.declared.documents.SetDocument.{SetDocument}
use Rattle.schema_set.specs.EffectiveSet.{own_target, InSet, IsDocument, IsEffectiveSet}
use Rattle.schema_set.specs.Order.{own_target_of, target_place, Precedes, IsInOrder}
use Rattle.schema_set.specs.inside.Following.{Reaches}
use Rattle.schema_set.specs.inside.Marks.{marked, marks}
use Rattle.schema_set.specs.inside.Entries.{Entry, entry_of, entry_at}
use Rattle.schema_set.proofs.MarkLaws.{marks-more, marks-read, marks-has, marks-rise}
use Rattle.schema_set.proofs.ReachLaws.{own-by-place, Stands, stands, led}

-- ---- lists of which the one is the other, seen otherwise
some-mapped : {X Y : Type 0} (f : X → Y) (o : Option X) (y : Y) → option_map f o ≡ Some y → (x : X) × (o ≡ Some x) × (f x ≡ y)
some-mapped f None y e = absurd (none-some y e)
some-mapped f (Some x) y e = (x, refl, same_Some (f x) y e)

paired : {X Y Z : Type 0} (f : X → Z) (g : Y → Z) (xs : List X) (ys : List Y) → map f xs ≡ map g ys → (m : ℕ) (x : X) → slice_get xs m ≡ Some x → (y : Y) × (slice_get ys m ≡ Some y) × (g y ≡ f x)
paired f g xs ys e m x is =
    let left : slice_get (map f xs) m ≡ Some (f x) = slice_get-map f xs m ∙ ap (option_map f) is in
    some-mapped g (slice_get ys m) (f x) (sym (slice_get-map g ys m) ∙ ap (λ l. slice_get l m) (sym e) ∙ left)

there-read : {X : Type 0} (xs : List X) (m : ℕ) (x : X) → slice_get xs m ≡ Some x → Contains xs x
there-read xs m x e = (m, slice_get_within xs m x e, get_or_from_slice_get xs m x x e)

read-there : {X : Type 0} (xs : List X) (x : X) → Contains xs x → (m : ℕ) × (slice_get xs m ≡ Some x)
read-there xs x c = (c.0, slice_get-get_or xs c.0 x c.1 ∙ ap (λ v. Some v) c.2)

-- ---- entries one by one
pub entries-more : (view : SetDocument → Entry) (entry : ℕ → Entry) (documents new : List SetDocument) (d : SetDocument) (x : ℕ) (more : List ℕ) (all : List Entry) → new ≡ documents ++ d ∷ [] → view d ≡ entry x
    → map view documents ++ map entry (x ∷ more) ≡ all → map view new ++ map entry more ≡ all
entries-more view entry documents new d x more all put is so_far =
    ap (λ l. map view l ++ map entry more) put
    ∙ ap (λ l. l ++ map entry more) (map-append view documents (d ∷ []))
    ∙ append_assoc (map view documents) (view d ∷ []) (map entry more)
    ∙ ap (λ v. map view documents ++ v ∷ map entry more) is ∙ so_far

-- one entry is that of its number
pub entry-is : (available : List Available) (x : ℕ) (d : SetDocument) (s : ShapedSchema) → d.number ≡ x / length available + 1
    → option_map (λ (a : Available). a.shaped) (slice_get available (x / length available)) ≡ Some d.shaped.now
    → option_map (λ (a : Available). a.shaped) (slice_get available (x % length available)) ≡ Some s → d.target ≡ own_target s.shapes → entry_of d ≡ entry_at available x
entry-is available x d s number shaped column target =
    let own : own_target_of available (x % length available + 1) ≡ own_target s.shapes = ap (λ k. option_and_then (λ (a : Available). own_target a.shaped.shapes) (slice_get available k)) (back (x % length available)) ∙ own-by-place available (x % length available) s column in
    ap (λ n. made n d.target (Some d.shaped.now)) number ∙ ap (λ t. made (x / length available + 1) t (Some d.shaped.now)) (target ∙ sym own)
    ∙ ap (λ o. made (x / length available + 1) (own_target_of available (x % length available + 1)) o) (sym shaped)
  where
    made : ℕ → Option (List ℕ) → Option ShapedSchema → Entry
    made n t o = record { number = n; target = t; shaped = o }

    back : (k : ℕ) → k + 1 - 1 ≡ k
    back k = omega arith

-- one entry, where it is wanted
pub entries_wanted : (available : List Available) (old new : List SetDocument) (x : ℕ) (wanted : Bool) → wanted ≡ true
    → ((more : List ℕ) → map entry_of new ++ map (entry_at available) more ≡ map entry_of old ++ map (entry_at available) (x ∷ more))
    → (more : List ℕ) → map entry_of new ++ map (entry_at available) more ≡ map entry_of old ++ map (entry_at available) (if wanted then x ∷ more else more)
entries_wanted available old new x wanted e h more = rw e (h more)

pub entries_unwanted : (available : List Available) (old : List SetDocument) (x : ℕ) (wanted : Bool) → wanted ≡ false
    → (more : List ℕ) → map entry_of old ++ map (entry_at available) more ≡ map entry_of old ++ map (entry_at available) (if wanted then x ∷ more else more)
entries_unwanted available old x wanted e more = rw e refl

-- one number more
pub entries-step : (available : List Available) (seen : List Bool) (i : ℕ) (b : Bool) (old new : List SetDocument) (all : List Entry) → i < length seen → b ≡ get_or seen i b
    → ((more : List ℕ) → map entry_of new ++ map (entry_at available) more ≡ map entry_of old ++ map (entry_at available) (if b then i ∷ more else more))
    → map entry_of old ++ map (entry_at available) (marks i (drop i seen)) ≡ all → map entry_of new ++ map (entry_at available) (marks (i + 1) (drop (i + 1) seen)) ≡ all
entries-step available seen i b old new all h is step so_far =
    step (marks (i + 1) (drop (i + 1) seen)) ∙ ap (λ l. map entry_of old ++ map (entry_at available) l) (sym (marks-more seen i b h is)) ∙ so_far

pub entries-done : (available : List Available) (seen : List Bool) (i : ℕ) (documents : List SetDocument) (all : List Entry) → length seen ≤ i → map entry_of documents ++ map (entry_at available) (marks i (drop i seen)) ≡ all
    → map entry_of documents ≡ all
entries-done available seen i documents all past so_far =
    sym (append-nil (map entry_of documents)) ∙ ap (λ l. map entry_of documents ++ map (entry_at available) (marks i l)) (sym (drop_all i seen past)) ∙ so_far

less : (x y a b : ℕ) → x ≤ y → x ≢ y → x + 1 ≡ a → y + 1 ≡ b → a < b
less x y a b h other e f = elim (cases_lt x y) [ inl l ↦ omega (arith, l, e, f) | inr g ↦ absurd (other (omega (arith, g, h))) ]

not-apart : (k l : ℕ) → (k < l → ⊥) → (l < k → ⊥) → k ≡ l
not-apart k l h g = elim (cases_lt k l) [ inl a ↦ absurd (h a) | inr b ↦ elim (cases_lt l k) [ inl a ↦ absurd (g a) | inr c ↦ omega (arith, b, c) ] ]

module _ (available : List Available) (start : ℕ) (some : start < length available) (seen : List Bool) (reached : (y : ℕ) → (marked seen y ≡ true) ↔ Reaches available start y)
    (documents : List SetDocument) (are : map entry_of documents ≡ map (entry_at available) (marks 0 seen)) where
  -- the number of a document
  record Numbered (d : SetDocument) (x : ℕ) : Type 0 where
    pub stands-so : Stands available start some x
    pub same : entry_at available x ≡ entry_of d

  number-read : (m : ℕ) (d : SetDocument) → slice_get documents m ≡ Some d → (x : ℕ) × (slice_get (marks 0 seen) m ≡ Some x) × Numbered d x
  number-read m d is =
      let p = paired entry_of (entry_at available) documents (marks 0 seen) are m d is in
      let r = marks-read 0 seen m p.0 p.1 in
      let same : r.0 ≡ p.0 = omega (arith, r.1) in
      (p.0, p.1, record { stands-so = stands available start some p.0 ((reached p.0).0 (subst (λ k. marked seen k ≡ true) same r.2)); same = p.2 })

  number-of : (d : SetDocument) → Contains documents d → (x : ℕ) × Numbered d x
  number-of d c = let r = read-there documents d c in let x = number-read r.0 d r.1 in (x.0, x.2)

  module _ (d : SetDocument) (x : ℕ) (is : Numbered d x) where
    number-is : x / length available + 1 ≡ d.number
    number-is = ap (λ (e : Entry). e.number) is.same

    target-is : own_target_of available (x % length available + 1) ≡ d.target
    target-is = ap (λ (e : Entry). e.target) is.same

    document-is : IsDocument available d
    document-is =
        let a = some-mapped (λ (a : Available). a.shaped) (slice_get available (x / length available)) d.shaped.now (ap (λ (e : Entry). e.shaped) is.same) in
        (x / length available, a.0, number-is, a.1, sym a.2)

    inside-is : InSet available start d.number d.target
    inside-is = subst (InSet available start d.number) target-is (subst (λ k. InSet available start k (own_target_of available (x % length available + 1))) number-is is.stands-so.inside)

    place-is : x % length available ≡ target_place available d.target
    place-is = sym is.stands-so.place ∙ ap (target_place available) target-is

  each-listed : (P : SetDocument → Type 0) → ((d : SetDocument) (x : ℕ) → Numbered d x → P d) → All P documents
  each-listed P h k e within =
      let d = get_or documents k e in
      let x = number-read k d (slice_get-get_or documents k e within) in
      h d x.0 x.2

  each-there : (number : ℕ) (target : Option (List ℕ)) → InSet available start number target → (d : SetDocument) × Contains documents d × (d.number ≡ number) × (d.target ≡ target)
  each-there number target i =
      let l = led available start some number target i in
      let m = marks-has 0 seen l.0 ((reached l.0).1 l.1) in
      let same : 0 + l.0 ≡ l.0 = omega arith in
      let p = paired (entry_at available) entry_of (marks 0 seen) documents (sym are) m.0 l.0 (m.1 ∙ ap (λ k. Some k) same) in
      (p.0, there-read documents m.0 p.0 p.1, ap (λ (e : Entry). e.number) p.2 ∙ l.2, ap (λ (e : Entry). e.target) p.2 ∙ l.3)

  -- of two numbers the lesser comes first
  rising : (d e : SetDocument) (x y : ℕ) → Numbered d x → Numbered e y → x < y → Precedes available d e
  rising d e x y is js h =
      let s = div-add-mod' x (length available) in
      let t = div-add-mod' y (length available) in
      let any : 0 < length available = omega (arith, some) in
      let rows : x / length available ≤ y / length available = le-div (x / length available) y (length available) any (omega (arith, s, h)) in
      let a = number-is d x is in
      let b = number-is e y js in
      elim (cases_eq (x / length available) (y / length available)) [
        | inl same ↦ (
            let product : x / length available * length available ≡ y / length available * length available = ap (λ k. k * length available) same in
            let p = place-is d x is in
            let q = place-is e y js in
            inr (sym a ∙ ap (λ k. k + 1) same ∙ b, omega (arith, s, t, h, product, p, q))
            )
        | inr other ↦ inl (less (x / length available) (y / length available) d.number e.number rows other a b)
      ]

  pub in-order : IsInOrder available documents
  in-order k l d e h is js =
      let x = number-read k d is in
      let y = number-read l e js in
      rising d e x.0 y.0 x.2 y.2 (marks-rise 0 seen k l x.0 y.0 h x.1 y.1)

  not-twice : (k l : ℕ) (d e : SetDocument) → slice_get documents k ≡ Some d → slice_get documents l ≡ Some e → d.number ≡ e.number → d.target ≡ e.target → k < l → ⊥
  not-twice k l d e is js number target h =
      let place : target_place available d.target ≡ target_place available e.target = ap (target_place available) target in
      elim (in-order k l d e h is js) [ inl lower ↦ omega (arith, lower, number) | inr first ↦ omega (arith, first.1, place) ]

  pub effective-set : IsEffectiveSet available start documents
  effective-set = record {
    there = each-listed (IsDocument available) document-is;
    only = each-listed (λ d. InSet available start d.number d.target) inside-is;
    each = each-there;
    once = λ k l d e is js number target. not-apart k l (not-twice k l d e is js number target) (not-twice l k e d js is (sym number) (sym target));
  }
