-- The places of the elements of a set, document by document, and what is represented there.
use Rattle.std.proofs.Common.{◌≡◌, ℕ, zero, suc, ◌+◌, ◌<◌, ◌==◌, ◌&&◌, inl, inr, Bool, true, false, List, [], ◌∷◌, ◌++◌, Option, Some, if◌then◌else◌, drop, length, map, reverse, slice_get, refl, sym, ap, subst, ◌∙◌, arith}
use Rattle.std.specs.List.{position_from}
use Rattle.std.proofs.lemmas.List.{length-append, map-append}
use Rattle.std.proofs.lemmas.Option.{none-some, same_Some, slice_get_within}
use Rattle.xs_names.specs.Names.{NameTable}
use Rattle.schema_shape.specs.declared.forms.Shape.{Shape}
use Rattle.schema_set.specs.declared.documents.SetDocument.{SetDocument}
use Rattle.schema_set.specs.Order.{same_target}
use Rattle.redefine_originals.specs.Originals.{elements, version_place}
use Rattle.representations.specs.Naming.{naming_of}
use Rattle.representations.specs.declared.naming.Naming.{Naming}
use Rattle.representations.specs.declared.parts.Representation.{Representation}
use Rattle.representations.specs.declared.defaults.Defaults.{Defaults}
use Rattle.representations.specs.ElementForms.{represented}
use Rattle.representations.specs.Methods.{defaults_of}
use Rattle.set_representations.specs.Documents.{representation, representations_from, document_representations, representations_of, shapes_of}
use Rattle.set_representations.specs.Members.{places_of}
use Rattle.set_representations.specs.Scopes.{openings}
use Rattle.schema_check.proofs.ListLaws.{split, in-front, in-back, position-is}

-- an element of a document, with the place at which the document begins, and the elements behind it in the document
pub record Slot : Type 0 where
  pub start : ℕ
  pub document : SetDocument
  pub shape : Shape
  pub behind : List Shape

abbrev pub slots_in : ℕ → SetDocument → List Shape → List Slot
slots_in start d [] = []
slots_in start d (s ∷ behind) = record { start = start; document = d; shape = s; behind = behind } ∷ slots_in start d behind

abbrev pub slots : ℕ → List SetDocument → List Slot
slots start [] = []
slots start (d ∷ ds) = slots_in start d (shapes_of d) ++ slots (start + length (shapes_of d)) ds

-- the place at which a document begins
abbrev pub begin : ℕ → ℕ → List SetDocument → ℕ
begin start i [] = start
begin start zero (d ∷ ds) = start
begin start (suc i) (d ∷ ds) = begin (start + length (shapes_of d)) i ds

pub there : {X : Type 0} (xs : List X) (n : ℕ) → n < length xs → (x : X) × (slice_get xs n ≡ Some x)
there [] n within = absurd (omega (arith, within))
there (x ∷ xs) zero within = (x, refl)
there (x ∷ xs) (suc n) within = there xs n (omega (arith, within))

-- ---- the elements of a document
module _ (start : ℕ) (d : SetDocument) where
  abbrev pub slot_of : Shape → List Shape → Slot
  slot_of s behind = record { start = start; document = d; shape = s; behind = behind }

  length-in : (list : List Shape) → length (slots_in start d list) ≡ length list
  length-in [] = refl
  length-in (s ∷ behind) = ap suc (length-in behind)

  slot-in : (list : List Shape) (n : ℕ) (slot : Slot) → slice_get (slots_in start d list) n ≡ Some slot → (slot ≡ slot_of slot.shape (drop (suc n) list)) × (slice_get list n ≡ Some slot.shape)
  slot-in [] n slot at = absurd (none-some slot at)
  slot-in (s ∷ behind) zero slot at =
      let same = same_Some (slot_of s behind) slot at in
      (sym same ∙ ap (λ (x : Slot). slot_of x.shape behind) same, ap (λ (x : Slot). Some x.shape) same)
  slot-in (s ∷ behind) (suc n) slot at = slot-in behind n slot at

  slot-at : (list : List Shape) (n : ℕ) (s : Shape) → slice_get list n ≡ Some s → slice_get (slots_in start d list) n ≡ Some (slot_of s (drop (suc n) list))
  slot-at [] n s at = absurd (none-some s at)
  slot-at (x ∷ behind) zero s at = ap (λ (y : Shape). Some (slot_of y behind)) (same_Some x s at)
  slot-at (x ∷ behind) (suc n) s at = slot-at behind n s at

-- ---- the elements of a set
pub record Stands (start : ℕ) (ds : List SetDocument) (n : ℕ) (slot : Slot) : Type 0 where
  pub i : ℕ
  pub m : ℕ
  pub document : slice_get ds i ≡ Some slot.document
  pub begins : slot.start ≡ begin start i ds
  pub place : start + n ≡ slot.start + m
  pub shape : slice_get (shapes_of slot.document) m ≡ Some slot.shape
  pub behind : slot.behind ≡ drop (suc m) (shapes_of slot.document)

pub stands : (start : ℕ) (ds : List SetDocument) (n : ℕ) (slot : Slot) → slice_get (slots start ds) n ≡ Some slot → Stands start ds n slot
stands start [] n slot at = absurd (none-some slot at)
stands start (d ∷ ds) n slot at = elim (split (slots_in start d (shapes_of d)) (slots (start + length (shapes_of d)) ds) n slot at) [
  | inl own ↦ (
      let is = slot-in start d (shapes_of d) n slot own in
      subst (Stands start (d ∷ ds) n) (sym is.0) (record { i = 0; m = n; document = refl; begins = refl; place = refl; shape = is.1; behind = refl })
      )
  | inr later ↦ (
      let rest = stands (start + length (shapes_of d)) ds later.0 slot later.2 in
      let long = length-in start d (shapes_of d) in
      record { i = suc rest.i; m = rest.m; document = rest.document; begins = rest.begins; place = omega (arith, later.1, long, rest.place); shape = rest.shape; behind = rest.behind }
      )
]

pub placed : (start : ℕ) (ds : List SetDocument) (i m : ℕ) (d : SetDocument) (s : Shape) → slice_get ds i ≡ Some d → slice_get (shapes_of d) m ≡ Some s
    → (n : ℕ) × (start + n ≡ begin start i ds + m) × (slice_get (slots start ds) n ≡ Some (slot_of (begin start i ds) d s (drop (suc m) (shapes_of d))))
placed start [] i m d s at in_it = absurd (none-some d at)
placed start (e ∷ ds) zero m d s at in_it =
    let same = same_Some e d at in
    let own : slice_get (shapes_of e) m ≡ Some s = ap (λ (x : SetDocument). slice_get (shapes_of x) m) same ∙ in_it in (
      m,
      refl,
      in-front (slots_in start e (shapes_of e)) (slots (start + length (shapes_of e)) ds) m (slot_of start e s (drop (suc m) (shapes_of e))) (slot-at start e (shapes_of e) m s own)
          ∙ ap (λ (x : SetDocument). Some (slot_of start x s (drop (suc m) (shapes_of x)))) same,
    )
placed start (e ∷ ds) (suc i) m d s at in_it =
    let rest = placed (start + length (shapes_of e)) ds i m d s at in_it in
    let long = length-in start e (shapes_of e) in (
      length (slots_in start e (shapes_of e)) + rest.0,
      omega (arith, rest.1, long),
      in-back (slots_in start e (shapes_of e)) (slots (start + length (shapes_of e)) ds) rest.0 ∙ rest.2,
    )

abbrev pub pair_of : Slot → SetDocument × Shape
pair_of slot = (slot.document, slot.shape)

pairs-in : (start : ℕ) (d : SetDocument) (list : List Shape) → map (λ (s : Shape). (d, s)) list ≡ map pair_of (slots_in start d list)
pairs-in start d [] = refl
pairs-in start d (s ∷ list) = ap (λ (zs : List (SetDocument × Shape)). (d, s) ∷ zs) (pairs-in start d list)

pub elements-are : (start : ℕ) (ds : List SetDocument) → elements ds ≡ map pair_of (slots start ds)
elements-are start [] = refl
elements-are start (d ∷ ds) =
    ap (λ (zs : List (SetDocument × Shape)). zs ++ elements ds) (pairs-in start d (shapes_of d))
    ∙ (ap (λ (zs : List (SetDocument × Shape)). map pair_of (slots_in start d (shapes_of d)) ++ zs) (elements-are (start + length (shapes_of d)) ds)
    ∙ sym (map-append pair_of (slots_in start d (shapes_of d)) (slots (start + length (shapes_of d)) ds)))

-- the element of a number in a document of a number and a target namespace
pub record IsVersionAt (start : ℕ) (ds : List SetDocument) (target : Option (List ℕ)) (document item place : ℕ) : Type 0 where
  pub n : ℕ
  pub slot : Slot
  pub is : start + n ≡ place
  pub at : slice_get (slots start ds) n ≡ Some slot
  pub number : (slot.document.number == document && same_target slot.document.target target) ≡ true
  pub item_is : (slot.shape.item == item) ≡ true

pub version-at : (start : ℕ) (ds : List SetDocument) (target : Option (List ℕ)) (document item place : ℕ) → version_place start ds target document item ≡ Some place → IsVersionAt start ds target document item place
version-at start [] target document item place is = absurd (none-some place is)
version-at start (d ∷ ds) target document item place is =
    by (d.number == document && same_target d.target target) refl is (version-at (start + length (shapes_of d)) ds target document item place)
  where
    by : (b : Bool) → (d.number == document && same_target d.target target) ≡ b
        → (if b then position_from (λ s. s.item == item) start (shapes_of d) else version_place (start + length (shapes_of d)) ds target document item) ≡ Some place
        → (version_place (start + length (shapes_of d)) ds target document item ≡ Some place → IsVersionAt (start + length (shapes_of d)) ds target document item place) → IsVersionAt start (d ∷ ds) target document item place
    by true e is later =
        let found = position-is (λ (s : Shape). s.item == item) start place (shapes_of d) is in
        record {
          n = found.0;
          slot = slot_of start d found.1 (drop (suc found.0) (shapes_of d));
          is = sym found.2;
          at = in-front (slots_in start d (shapes_of d)) (slots (start + length (shapes_of d)) ds) found.0 (slot_of start d found.1 (drop (suc found.0) (shapes_of d)))
              (slot-at start d (shapes_of d) found.0 found.1 found.3);
          number = e;
          item_is = found.4;
        }
    by false e is later =
        let rest = later is in
        let long = length-in start d (shapes_of d) in
        let on = rest.is in
        record {
          n = length (slots_in start d (shapes_of d)) + rest.n;
          slot = rest.slot;
          is = omega (arith, long, on);
          at = in-back (slots_in start d (shapes_of d)) (slots (start + length (shapes_of d)) ds) rest.n ∙ rest.at;
          number = rest.number;
          item_is = rest.item_is;
        }

-- ---- what is represented
module _ (t : NameTable) where
  pub record Represents (slot : Slot) (place : ℕ) (rep : Representation) : Type 0 where
    pub form : rep.form ≡ represented t (naming_of slot.document.target (shapes_of slot.document)) (defaults_of (shapes_of slot.document)) slot.shape.form
    pub members : rep.members ≡ places_of (place + 1) slot.behind slot.shape.members

  module _ (naming : Naming) (defaults : Defaults) (number first : ℕ) where
    length-from : (before : List Shape) (place : ℕ) (list : List Shape) → length (representations_from t naming defaults number first before place list) ≡ length list
    length-from before place [] = refl
    length-from before place (s ∷ list) = ap suc (length-from (s ∷ before) (place + 1) list)

    abbrev IsRepresented : List Shape → ℕ → ℕ → Shape → Representation → Type 0
    IsRepresented list place n s rep = (rep.form ≡ represented t naming defaults s.form) × (rep.members ≡ places_of (place + n + 1) (drop (suc n) list) s.members)

    from-at : (before : List Shape) (place : ℕ) (list : List Shape) (n : ℕ) (s : Shape) → slice_get list n ≡ Some s
        → (rep : Representation) × (slice_get (representations_from t naming defaults number first before place list) n ≡ Some rep) × IsRepresented list place n s rep
    from-at before place [] n s at = absurd (none-some s at)
    from-at before place (x ∷ list) zero s at =
        let same = same_Some x s at in
        let here : place + 1 ≡ place + 0 + 1 = omega arith in (
          representation t naming defaults number first before place x list,
          refl,
          (ap (λ (y : Shape). represented t naming defaults y.form) same, ap (λ (y : Shape). places_of (place + 1) list y.members) same ∙ ap (λ (p : ℕ). places_of p list s.members) here),
        )
    from-at before place (x ∷ list) (suc n) s at =
        let rest = from-at (x ∷ before) (place + 1) list n s at in
        let on : place + 1 + n + 1 ≡ place + suc n + 1 = omega arith in
        (rest.0, rest.1, (rest.2.0, rest.2.1 ∙ ap (λ (p : ℕ). places_of p (drop (suc n) list) s.members) on))

  pub represented-at : (start first : ℕ) (ds : List SetDocument) (n : ℕ) (slot : Slot) → slice_get (slots start ds) n ≡ Some slot
      → (rep : Representation) × (slice_get (representations_of t start first ds) n ≡ Some rep) × Represents slot (start + n) rep
  represented-at start first [] n slot at = absurd (none-some slot at)
  represented-at start first (d ∷ ds) n slot at = elim (split (slots_in start d list) (slots (start + length list) ds) n slot at) [
    | inl own ↦ (
        let is = slot-in start d list n slot own in
        let made = from-at naming defaults d.number first [] start list n slot.shape is.1 in (
          made.0,
          in-front (document_representations t start first d) (representations_of t (start + length list) next ds) n made.0 made.1,
          subst (λ (x : Slot). Represents x (start + n) made.0) (sym is.0) (record { form = made.2.0; members = made.2.1 }),
        )
        )
    | inr later ↦ (
        let rest = represented-at (start + length list) next ds later.0 slot later.2 in
        let same : length (slots_in start d list) ≡ length (document_representations t start first d) = length-in start d list ∙ sym (length-from naming defaults d.number first [] start list) in
        let on : n ≡ length (document_representations t start first d) + later.0 = omega (arith, same, later.1) in
        let long = length-in start d list in
        let place : start + length list + later.0 ≡ start + n = omega (arith, later.1, long) in (
          rest.0,
          ap (λ (k : ℕ). slice_get (representations_of t start first (d ∷ ds)) k) on
              ∙ (in-back (document_representations t start first d) (representations_of t (start + length list) next ds) later.0 ∙ rest.1),
          subst (λ (p : ℕ). Represents slot p rest.0) place rest.2,
        )
        )
  ]
    where
      list : List Shape
      list = shapes_of d

      naming : Naming
      naming = naming_of d.target list

      defaults : Defaults
      defaults = defaults_of list

      next : ℕ
      next = first + openings (reverse list)

  length-all : (start first : ℕ) (ds : List SetDocument) → length (representations_of t start first ds) ≡ length (slots start ds)
  length-all start first [] = refl
  length-all start first (d ∷ ds) =
      let list = shapes_of d in
      let next = first + openings (reverse list) in
      let rest = length-all (start + length list) next ds in
      let one = length-append (document_representations t start first d) (representations_of t (start + length list) next ds) in
      let other = length-append (slots_in start d list) (slots (start + length list) ds) in
      let own = length-from (naming_of d.target list) (defaults_of list) d.number first [] start list in
      let long = length-in start d list in
      omega (arith, rest, one, other, own, long)

  pub slot-of : (start first : ℕ) (ds : List SetDocument) (n : ℕ) (rep : Representation) → slice_get (representations_of t start first ds) n ≡ Some rep → (slot : Slot) × (slice_get (slots start ds) n ≡ Some slot)
  slot-of start first ds n rep at =
      let within = slice_get_within (representations_of t start first ds) n rep at in
      let long = length-all start first ds in
      there (slots start ds) n (omega (arith, within, long))
