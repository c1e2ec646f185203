-- Where no constraint on redefines is broken, each redefining component has an original among the elements of the set.
use Rattle.std.proofs.Common.{◌≡◌, ℕ, zero, suc, ◌+◌, ◌-◌, ◌==◌, ◌&&◌, inl, inr, Bool, true, false, cond, List, [], ◌∷◌, ◌++◌, Option, None, Some, if◌then◌else◌, length, slice_get, refl, sym, ap, subst, ◌∙◌, eq-eqb, arith}
use Rattle.std.specs.Prelude.{Contains}
use Rattle.std.specs.List.{find, position_from}
use Rattle.std.specs.Option.{option_and_then, option_to_list}
use Rattle.std.proofs.lemmas.Bool.{eqb-true, and_parts}
use Rattle.std.proofs.lemmas.List.Elements.{All-contains, Contains-append_cases}
use Rattle.std.proofs.lemmas.Option.{none-some, same_Some, get_or_from_slice_get}
use Rattle.xs_codes.specs.declared.code.Code.TheVariants as code
use Rattle.xs_codes.specs.declared.fault.Fault.{Fault}
use Rattle.schema_shape.specs.declared.forms.Form.{Form}
use Rattle.schema_shape.specs.declared.forms.Form.TheVariants as forms
use Rattle.schema_shape.specs.declared.forms.Shape.{Shape}
use Rattle.schema_shape.specs.declared.forms.ShapedSchema.{ShapedSchema}
use Rattle.schema_set.specs.EffectiveSet.{document_at, IsInclusion, Says, InSet, included as by-inclusion, IsDocument, IsEffectiveSet}
use Rattle.schema_set.specs.Order.{same_target}
use Rattle.schema_set.specs.declared.documents.Available.{Available}
use Rattle.schema_set.specs.declared.documents.SetDocument.{SetDocument}
use Rattle.schema_set.proofs.ReachLaws.{in-filter_map}
use Rattle.redefine_originals.specs.declared.versions.Redefinable.{Redefinable}
use Rattle.redefine_originals.specs.Versions.{Child, Version, redefined, redefining, declared_as, included, shapes_of as available_shapes, shapes_at, inclusions, Finds, nowhere, again, here, further, IsOriginal}
use Rattle.redefine_originals.specs.Originals.{shapes_of, elements, version_place, child_of, IsPlaceOf, IsChildPlace, IsOriginalPlace, AreOriginals}
use Rattle.redefine_originals.proofs.InsideLaws.{contains-first, contains-rest, contains-cases}
use Rattle.redefine_originals.proofs.VersionLaws.{version-is, original-is}
use Rattle.redefine_faults.specs.Redefinitions.{IsRedefineFault, lost}
use Rattle.redefine_names.specs.VersionNames.{original_at}
use Rattle.schema_check.proofs.ListLaws.{position-at, not-both}
use Rattle.schema_check.proofs.TreeLaws.{AreElements}
use Rattle.schema_check.proofs.PlaceLaws.{Slot, slots, pair_of, Stands, stands}
use Rattle.schema_check.proofs.RedefineFormLaws.{target-refl}
use Rattle.schema_check.proofs.AroundLaws.{contains-at, at-contains}
use Rattle.schema_check.proofs.OriginalLaws.{found-at, zip-at, element-at, IsInRedefine, version-there, shapes-same, child-is}

-- ---- documents that are included and redefined
included-is : (form : Form) (location : List ℕ) → included form ≡ Some location → IsInclusion form location
included-is (forms.Include other) location is = inl (ap (λ (l : List ℕ). forms.Include l) (same_Some other location is))
included-is (forms.Redefine other) location is = inr (ap (λ (l : List ℕ). forms.Redefine l) (same_Some other location is))
included-is _ location is = absurd (none-some location is)

redefined-is : (form : Form) (location : List ℕ) → redefined form ≡ Some location → IsInclusion form location
redefined-is (forms.Redefine other) location is = inr (ap (λ (l : List ℕ). forms.Redefine l) (same_Some other location is))
redefined-is _ location is = absurd (none-some location is)

module _ (sources : List Available) {start : ℕ} (set : List SetDocument) (effective : IsEffectiveSet sources start set) where
  -- a document of the set says what one of its elements does
  says : (document : ℕ) (target : Option (List ℕ)) → InSet sources start document target → (s : Shape) → Contains (shapes_at sources document) s → (location : List ℕ) → IsInclusion s.form location
      → Says sources document (λ form. IsInclusion form location)
  says document target within s has location is =
      let d = effective.each document target within in
      let own = All-contains (IsDocument sources) set d.0 effective.there d.1 in
      let before : own.0 ≡ document - 1 = omega (arith, own.2, d.2) in
      let same : shapes_at sources document ≡ own.1.shaped.shapes = ap available_shapes (ap (λ (n : ℕ). slice_get sources n) (sym before) ∙ own.3) in
      (own.0, own.1, s, own.2 ∙ d.2, own.3, subst (λ (xs : List Shape). Contains xs s) same has, is)

  module _ (target : Option (List ℕ)) where
    abbrev AreIn : List ℕ → Type 0
    AreIn left = (document : ℕ) → Contains left document → InSet sources start document target

    inclusions-in : (document : ℕ) → InSet sources start document target → AreIn (inclusions sources document)
    inclusions-in document within other has =
        let from = in-filter_map (λ (s : Shape). option_and_then (document_at sources) (included s.form)) (shapes_at sources document) other has in
        by from.0 from.1 (included from.0.form) refl from.2
      where
        by : (s : Shape) → Contains (shapes_at sources document) s → (o : Option (List ℕ)) → included s.form ≡ o → option_and_then (document_at sources) o ≡ Some other → InSet sources start other target
        by s has None e is = absurd (none-some other is)
        by s has (Some location) e is = by-inclusion document other target location within (says document target within s has location (included-is s.form location e)) is

    finds-in : (of : Redefinable) (name : List ℕ) (left seen : List ℕ) (found : Option Version) → Finds sources of name left seen found → AreIn left → (w : Version) → found ≡ Some w → InSet sources start w.document target
    finds-in of name _ _ _ (nowhere seen) all w e = absurd (none-some w e)
    finds-in of name _ _ _ (again d left seen found c f) all w e = finds-in of name left seen found f (λ x has. all x (contains-rest d x left has)) w e
    finds-in of name _ _ _ (here d left seen v out is) all w e =
        let own = version-is of name d (shapes_at sources d) v is in
        subst (λ (x : Version). InSet sources start x.document target) (same_Some v w e) (subst (λ (n : ℕ). InSet sources start n target) (sym own.place) (all d (contains-first d left)))
    finds-in of name _ _ _ (further d left seen found out none f) all w e =
        finds-in of name (inclusions sources d ++ left) (d ∷ seen) found f
        (λ x has. elim (Contains-append_cases (inclusions sources d) left x has) [
          | inl own ↦ inclusions-in d (all d (contains-first d left)) x own
          | inr other ↦ all x (contains-rest d x left other)
        ]) w e

    -- the document of a location that a document of the set redefines
    located-in : (document : ℕ) → InSet sources start document target → (location : List ℕ) → Says sources document (λ form. IsInclusion form location) → AreIn (option_to_list (document_at sources location))
    located-in document within location said = by (document_at sources location) refl
      where
        by : (o : Option ℕ) → document_at sources location ≡ o → AreIn (option_to_list o)
        by None e other has = absurd (omega (arith, has.1))
        by (Some found) e other has = elim (contains-cases found other [] has) [
          | inl same ↦ subst (λ (n : ℕ). InSet sources start n target) same (by-inclusion document found target location within said e)
          | inr more ↦ absurd (omega (arith, more.1))
        ]

-- ---- the place of a version
module _ (target : Option (List ℕ)) (document item : ℕ) where
  abbrev IsThe : SetDocument → Type 0
  IsThe d = (d.number == document && same_target d.target target) ≡ true

  abbrev HasItem : SetDocument → Type 0
  HasItem d = (n : ℕ) × (s : Shape) × (slice_get (shapes_of d) n ≡ Some s) × ((s.item == item) ≡ true)

  place-found : (start : ℕ) (ds : List SetDocument) (i : ℕ) (e : SetDocument) → slice_get ds i ≡ Some e → IsThe e → ((k : ℕ) (d : SetDocument) → slice_get ds k ≡ Some d → IsThe d → HasItem d)
      → (place : ℕ) × (version_place start ds target document item ≡ Some place)
  place-found start [] i e at is each = absurd (none-some e at)
  place-found start (d ∷ ds) i e at is each =
      by (d.number == document && same_target d.target target) refl i at (λ j there. place-found (start + length (shapes_of d)) ds j e there is (λ k x at_it the. each (suc k) x at_it the))
    where
      by : (b : Bool) → (d.number == document && same_target d.target target) ≡ b → (i : ℕ) → slice_get (d ∷ ds) i ≡ Some e
          → ((j : ℕ) → slice_get ds j ≡ Some e → (place : ℕ) × (version_place (start + length (shapes_of d)) ds target document item ≡ Some place)) → (place : ℕ) × (version_place start (d ∷ ds) target document item ≡ Some place)
      by true t i at later =
          let has = each 0 d refl t in
          let found = position-at (λ (s : Shape). s.item == item) start (shapes_of d) has.0 has.1 has.2 has.3 in
          (start + found.0, ap (λ (b : Bool). if b then position_from (λ (s : Shape). s.item == item) start (shapes_of d) else version_place (start + length (shapes_of d)) ds target document item) t ∙ found.2)
      by false t zero at later = absurd (not-both (ap (λ (x : SetDocument). x.number == document && same_target x.target target) (same_Some d e at) ∙ is) t)
      by false t (suc i) at later =
          let rest = later i at in
          (rest.0, ap (λ (b : Bool). if b then position_from (λ (s : Shape). s.item == item) start (shapes_of d) else version_place (start + length (shapes_of d)) ds target document item) t ∙ rest.1)

found-some : {X : Type 0} (test : X → Bool) (xs : List X) (n : ℕ) (x : X) → slice_get xs n ≡ Some x → test x ≡ true → (y : X) × (find test xs ≡ Some y)
found-some test [] n x at is = absurd (none-some x at)
found-some {X} test (y ∷ xs) n x at is = by (test y) refl n at (λ k there. found-some test xs k x there is)
  where
    by : (b : Bool) → test y ≡ b → (n : ℕ) → slice_get (y ∷ xs) n ≡ Some x → ((k : ℕ) → slice_get xs k ≡ Some x → (z : X) × (find test xs ≡ Some z)) → (z : X) × (find test (y ∷ xs) ≡ Some z)
    by true e n at later = (y, ap (λ (b : Bool). cond b (Some y) (find test xs)) e)
    by false e zero at later = absurd (not-both (ap test (same_Some y x at) ∙ is) e)
    by false e (suc n) at later = let rest = later n at in (rest.0, ap (λ (b : Bool). cond b (Some y) (find test xs)) e ∙ rest.1)

-- ---- each redefining component has an original
module _ (sources : List Available) {start : ℕ} (set : List SetDocument) (effective : IsEffectiveSet sources start set) (originals : List (Option ℕ)) (are : AreOriginals sources set originals)
    (all : (i : ℕ) (d : SetDocument) → slice_get set i ≡ Some d → AreElements (shapes_of d)) (sound : (f : Fault) → IsRedefineFault sources start f → ⊥)
  where
    module _ (version : ℕ) (slot : Slot) (at : slice_get (slots 0 set) version ≡ Some slot) (of : Redefinable) (name : List ℕ) (declares : declared_as slot.shape.form ≡ Some (of, name)) where
      abbrev list : List Shape
      list = shapes_of slot.document

      abbrev target : Option (List ℕ)
      target = slot.document.target

      own : Stands 0 set version slot
      own = stands 0 set version slot at

      is-document : IsDocument sources slot.document
      is-document = All-contains (IsDocument sources) set slot.document effective.there (at-contains set own.i slot.document own.document)

      is-within : InSet sources start slot.document.number target
      is-within = All-contains (λ (d : SetDocument). InSet sources start d.number d.target) set slot.document effective.only (at-contains set own.i slot.document own.document)

      module _ (c : Child) (found : child_of list slot.shape.item ≡ Some c) where
        from : IsInRedefine list c × (c.shape ≡ slot.shape)
        from = child-is sources set originals are all own.i own.m slot.document slot.shape own.document own.shape c found

        -- it is not lost
        never-lost : IsOriginal sources c.location of name None → ⊥
        never-lost is =
            let d = is-document in
            let at_it = found-at (λ (x : Child). x.shape.item == slot.shape.item) (redefining list) c found in
            let shapes : list ≡ d.1.shaped.shapes = ap (λ (s : ShapedSchema). s.shapes) d.4 in
            sound (record { phase = 2; document = slot.document.number; item = slot.shape.item; code = code.SrcExpredef }) (record {
              place = d.0;
              document = d.1;
              target = target;
              child = c;
              of = of;
              name = name;
              phase = refl;
              number = d.2;
              there = d.3;
              within = is-within;
              says = subst (λ (xs : List Shape). Contains (redefining xs) c) shapes (at-contains (redefining list) at_it.0 c at_it.1);
              declares = ap (λ (s : Shape). declared_as s.form) from.1 ∙ declares;
              item = ap (λ (s : Shape). s.item) from.1;
              code = lost is;
            })

        -- it has a place
        placed-at : (w : Version) → IsOriginal sources c.location of name (Some w) → (place : ℕ) × (version_place 0 set target w.document w.shape.item ≡ Some place)
        placed-at w is =
            let redefine = from.0 in
            let before : is-document.0 ≡ slot.document.number - 1 = omega (arith, is-document.2) in
            let same : list ≡ shapes_at sources slot.document.number = shapes-same sources set originals are all slot.document slot.document.number is-document refl in
            let said = says sources set effective slot.document.number target is-within redefine.redefine
            (subst (λ (xs : List Shape). Contains xs redefine.redefine) same (at-contains list redefine.at redefine.redefine redefine.is)) c.location (redefined-is redefine.redefine.form c.location redefine.location) in
            let within : InSet sources start w.document target =
            finds-in sources set effective target of name (option_to_list (document_at sources c.location)) [] (Some w) is
            (located-in sources set effective target slot.document.number is-within c.location said) w refl in
            let e = effective.each w.document target within in
            let there_it_is = contains-at set e.0 e.1 in
            let own_version = original-is sources of name c.location w is in
            let in_list = version-there w.document (shapes_at sources w.document) of name w own_version.version in
            place-found target w.document w.shape.item 0 set there_it_is.0 e.0 there_it_is.1
            (ap (λ (b : Bool). b && same_target e.0.target target) (eq-eqb e.0.number w.document e.2)
            ∙ (ap (λ (t : Option (List ℕ)). same_target t target) e.3 ∙ target-refl target))
            (λ k d at_it the.
            let number = eqb-true d.number w.document (and_parts (d.number == w.document) (same_target d.target target) the).0 in
            let document = All-contains (IsDocument sources) set d effective.there (at-contains set k d at_it) in
            let shapes : shapes_of d ≡ shapes_at sources w.document = shapes-same sources set originals are all d w.document document number in
            (in_list.0, w.shape, ap (λ (xs : List Shape). slice_get xs in_list.0) shapes ∙ in_list.1, eq-eqb w.shape.item w.shape.item refl))

        has-place : (place : Option ℕ) → IsPlaceOf sources set target c.location (Some (of, name)) place → (o : ℕ) × (place ≡ Some o)
        has-place place is = by is.0 is.1 is.2
          where
            by : (o : Option Version) → IsOriginal sources c.location of name o → place ≡ option_and_then (λ (v : Version). version_place 0 set target v.document v.shape.item) o → (p : ℕ) × (place ≡ Some p)
            by None lost_it same = absurd (never-lost lost_it)
            by (Some w) original same = let found_it = placed-at w original in (found_it.0, same ∙ found_it.1)

      pub original-found : (c : Child) → Contains (redefining list) c → c.shape ≡ slot.shape → (o : ℕ) × (original_at originals version ≡ Some o)
      original-found c has same =
          let place = zip-at (IsOriginalPlace sources set) (elements set) originals version (pair_of slot) are (element-at sources set originals are all version slot at) in
          let there_it_is = contains-at (redefining list) c has in
          let test : (c.shape.item == slot.shape.item) ≡ true = eq-eqb c.shape.item slot.shape.item (ap (λ (s : Shape). s.item) same) in
          let found = found-some (λ (x : Child). x.shape.item == slot.shape.item) (redefining list) there_it_is.0 c there_it_is.1 test in
          let in_it : IsChildPlace sources set target (Some found.0) place.0 = subst (λ (o : Option Child). IsChildPlace sources set target o place.0) found.1 place.2 in
          let declared : declared_as found.0.shape.form ≡ Some (of, name) = ap (λ (s : Shape). declared_as s.form) (from found.0 found.1).1 ∙ declares in
          let is = has-place found.0 found.1 place.0 (subst (λ (o : Option (Redefinable × List ℕ)). IsPlaceOf sources set target found.0.location o place.0) declared in_it) in
          (is.0, get_or_from_slice_get originals version place.0 None place.1 ∙ is.1)
