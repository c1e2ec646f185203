-- Which elements have originals, and what these are.
use Rattle.std.proofs.Common.{◌≡◌, ℕ, zero, suc, ◌-◌, ◌==◌, inl, inr, Bool, true, false, cond, List, [], ◌∷◌, Option, None, Some, map, slice_get, refl, sym, ap, subst, ◌∙◌, arith}
use Rattle.std.specs.Prelude.{Contains, All}
use Rattle.std.specs.List.{AllZip, find, flat_map}
use Rattle.std.specs.Option.{option_map, option_and_then, option_or, option_to_list}
use Rattle.std.proofs.lemmas.Bool.{eqb-true, and_parts}
use Rattle.std.proofs.lemmas.List.Elements.{All-contains}
use Rattle.std.proofs.lemmas.Option.{none-some, same_Some, slice_get-map, get_or_from_slice_get}
use Rattle.schema_shape.specs.declared.forms.Form.{Form}
use Rattle.schema_shape.specs.declared.forms.Form.TheVariants as forms
use Rattle.schema_shape.specs.declared.forms.Shape.{Shape}
use Rattle.schema_shape.specs.declared.forms.ShapedSchema.{ShapedSchema}
use Rattle.schema_set.specs.declared.documents.Available.{Available}
use Rattle.schema_set.specs.declared.documents.SetDocument.{SetDocument}
use Rattle.schema_set.specs.EffectiveSet.{IsDocument}
use Rattle.schema_set.specs.Order.{same_target}
use Rattle.redefine_originals.specs.declared.versions.Redefinable.{Redefinable}
use Rattle.redefine_originals.specs.Versions.{Child, Version, inside, at_top, redefined, children_at, redefining, declared_as, declares, in_redefine, on_top, version_in, shapes_of as available_shapes, shapes_at, IsOriginal}
use Rattle.redefine_originals.specs.Originals.{shapes_of, elements, version_place, child_of, IsPlaceOf, IsChildPlace, IsOriginalPlace, AreOriginals}
use Rattle.redefine_originals.proofs.InsideLaws.{find-true}
use Rattle.redefine_originals.proofs.VersionLaws.{original-is}
use Rattle.redefine_names.specs.VersionNames.{original_at}
use Rattle.schema_check.proofs.ListLaws.{split, not-both, index-some}
use Rattle.schema_check.proofs.RedefineKindLaws.{is_plain}
use Rattle.schema_check.proofs.TreeLaws.{has_member, AreElements, one-item, one-parent}
use Rattle.schema_check.proofs.PlaceLaws.{Slot, slots, pair_of, elements-are, Stands, stands, version-at as place-at}
use Rattle.schema_check.proofs.RedefineFormLaws.{target-one}
use Rattle.schema_check.proofs.AroundLaws.{at-contains, inside-at, IsParent}

-- ---- lists
in-flat-map : {X Y : Type 0} (f : X → List Y) (xs : List X) (n : ℕ) (y : Y) → slice_get (flat_map f xs) n ≡ Some y → (i : ℕ) × (x : X) × (m : ℕ) × (slice_get xs i ≡ Some x) × (slice_get (f x) m ≡ Some y)
in-flat-map f [] n y at = absurd (none-some y at)
in-flat-map f (x ∷ xs) n y at = elim (split (f x) (flat_map f xs) n y at) [
  | inl own ↦ (0, x, n, refl, own)
  | inr later ↦ (let rest = in-flat-map f xs later.0 y later.2 in (suc rest.0, rest.1, rest.2, rest.3, rest.4))
]

pub found-at : {X : Type 0} (test : X → Bool) (xs : List X) (x : X) → find test xs ≡ Some x → (n : ℕ) × (slice_get xs n ≡ Some x)
found-at test [] x is = absurd (none-some x is)
found-at {X} test (y ∷ xs) x is = by (test y) is (found-at test xs x)
  where
    by : (b : Bool) → cond b (Some y) (find test xs) ≡ Some x → (find test xs ≡ Some x → (n : ℕ) × (slice_get xs n ≡ Some x)) → (n : ℕ) × (slice_get (y ∷ xs) n ≡ Some x)
    by true e rest = (0, e)
    by false e rest = let later = rest e in (suc later.0, later.1)

mapped-from : {X Y : Type 0} (f : X → Y) (xs : List X) (n : ℕ) (y : Y) → slice_get (map f xs) n ≡ Some y → (x : X) × (slice_get xs n ≡ Some x) × (f x ≡ y)
mapped-from f [] n y at = absurd (none-some y at)
mapped-from f (x ∷ xs) zero y at = (x, refl, same_Some (f x) y at)
mapped-from f (x ∷ xs) (suc n) y at = mapped-from f xs n y at

module _ {A B : Type 0} (R : A → B → Type 0) where
  pub zip-at : (xs : List A) (ys : List B) (n : ℕ) (x : A) → AllZip R xs ys → slice_get xs n ≡ Some x → (y : B) × (slice_get ys n ≡ Some y) × R x y
  zip-at [] ys n x all at = absurd (none-some x at)
  zip-at (a ∷ xs) [] n x all at = absurd all
  zip-at (a ∷ xs) (b ∷ ys) zero x all at = (b, refl, subst (λ (z : A). R z b) (same_Some a x at) all.0)
  zip-at (a ∷ xs) (b ∷ ys) (suc n) x all at = zip-at xs ys n x all.1 at

  zip-from : (xs : List A) (ys : List B) (n : ℕ) (y : B) → AllZip R xs ys → slice_get ys n ≡ Some y → (x : A) × (slice_get xs n ≡ Some x) × R x y
  zip-from [] [] n y all at = absurd (none-some y at)
  zip-from [] (b ∷ ys) n y all at = absurd all
  zip-from (a ∷ xs) [] n y all at = absurd all
  zip-from (a ∷ xs) (b ∷ ys) zero y all at = (a, refl, subst (λ (z : B). R a z) (same_Some b y at) all.0)
  zip-from (a ∷ xs) (b ∷ ys) (suc n) y all at = zip-from xs ys n y all.1 at

-- ---- what stands in redefines
-- an element that stands in a redefine
pub record IsInRedefine (list : List Shape) (c : Child) : Type 0 where
  pub at : ℕ
  pub redefine : Shape
  pub is : slice_get list at ≡ Some redefine
  pub location : redefined redefine.form ≡ Some c.location
  pub n : ℕ
  pub there : slice_get list n ≡ Some c.shape
  pub held : has_member c.shape.item redefine ≡ true

pub redefining-from : (list : List Shape) (n : ℕ) (c : Child) → slice_get (redefining list) n ≡ Some c → IsInRedefine list c
redefining-from list n c at =
    let from = in-flat-map (λ (s : Shape). children_at list s (redefined s.form)) list n c at in
    by from.0 from.1 from.2 from.3 (redefined from.1.form) refl from.4
  where
    by : (i : ℕ) (s : Shape) (m : ℕ) → slice_get list i ≡ Some s → (o : Option (List ℕ)) → redefined s.form ≡ o → slice_get (children_at list s o) m ≡ Some c → IsInRedefine list c
    by i s m is None e at = absurd (none-some c at)
    by i s m is (Some location) e at =
        let made = mapped-from (λ (x : Shape). record { location = location; shape = x }) (inside list s) m c at in
        let own = inside-at list s made.0 (at-contains (inside list s) m made.0 made.1) in
        subst (IsInRedefine list) made.2 (record { at = i; redefine = s; is = is; location = e; n = own.0; there = own.1; held = own.2 })

-- the version that a document has is one of its elements
pub version-there : (document : ℕ) (list : List Shape) (of : Redefinable) (name : List ℕ) (v : Version) → version_in document list of name ≡ Some v → (n : ℕ) × (slice_get list n ≡ Some v.shape)
version-there document list of name v is = by (find (λ (c : Child). declares of name c.shape) (redefining list)) (find (declares of name) (at_top list)) refl refl is
  where
    by : (a : Option Child) (b : Option Shape) → find (λ (c : Child). declares of name c.shape) (redefining list) ≡ a → find (declares of name) (at_top list) ≡ b
        → option_or (option_map (in_redefine document) a) (option_map (on_top document) b) ≡ Some v → (n : ℕ) × (slice_get list n ≡ Some v.shape)
    by (Some c) b f g e =
        let found = found-at (λ (d : Child). declares of name d.shape) (redefining list) c f in
        let from = redefining-from list found.0 c found.1 in
        (from.n, from.there ∙ ap (λ (w : Version). Some w.shape) (same_Some (in_redefine document c) v e))
    by None (Some s) f g e =
        let found = found-at (declares of name) (at_top list) s g in
        let from = in-flat-map (λ (schema : Shape). inside list schema) (option_to_list (slice_get list 0)) found.0 s found.1 in
        let own = inside-at list from.1 s (at-contains (inside list from.1) from.2 s from.4) in
        (own.0, own.1 ∙ ap (λ (w : Version). Some w.shape) (same_Some (on_top document s) v e))
    by None None f g e = absurd (none-some v e)

no-redefine : (form : Form) (location : List ℕ) → redefined form ≡ Some location → is_plain form ≡ false
no-redefine (forms.Redefine other) location is = refl
no-redefine _ location is = absurd (none-some location is)

module _ (available : List Available) (set : List SetDocument) (originals : List (Option ℕ)) (are : AreOriginals available set originals)
    (all : (i : ℕ) (d : SetDocument) → slice_get set i ≡ Some d → AreElements (shapes_of d))
  where
    pub element-at : (place : ℕ) (slot : Slot) → slice_get (slots 0 set) place ≡ Some slot → slice_get (elements set) place ≡ Some (pair_of slot)
    element-at place slot at =
        ap (λ (zs : List (SetDocument × Shape)). slice_get zs place) (elements-are 0 set) ∙ (slice_get-map pair_of (slots 0 set) place ∙ ap (option_map pair_of) at)

    pub element-from : (place : ℕ) (d : SetDocument) (s : Shape) → slice_get (elements set) place ≡ Some (d, s) → (slot : Slot) × (slice_get (slots 0 set) place ≡ Some slot) × (pair_of slot ≡ (d, s))
    element-from place d s at = mapped-from pair_of (slots 0 set) place (d, s) (ap (λ (zs : List (SetDocument × Shape)). slice_get zs place) (sym (elements-are 0 set)) ∙ at)

    -- what is found of an element in the redefines of its document is the element
    pub child-is : (i m : ℕ) (d : SetDocument) (s : Shape) → slice_get set i ≡ Some d → slice_get (shapes_of d) m ≡ Some s → (c : Child) → child_of (shapes_of d) s.item ≡ Some c → IsInRedefine (shapes_of d) c × (c.shape ≡ s)
    child-is i m d s at in_it c is =
        let list = shapes_of d in
        let found = found-at (λ (x : Child). x.shape.item == s.item) (redefining list) c is in
        let from = redefining-from list found.0 c found.1 in
        let item : c.shape.item ≡ s.item = eqb-true c.shape.item s.item (find-true (λ (x : Child). x.shape.item == s.item) (redefining list) c is) in
        let same = one-item list (all i d at) from.n m c.shape s from.there in_it item in
        (from, same_Some c.shape s (sym from.there ∙ (ap (λ (n : ℕ). slice_get list n) same ∙ in_it)))

    -- what stands in an element that is no redefine has no original
    pub inner-none : (outer inner : ℕ) (is : IsParent set outer inner) → is_plain is.both.one.shape.form ≡ true → original_at originals inner ≡ None
    inner-none outer inner is plain =
        let y = is.both.other in
        let own = stands 0 set inner y is.both.there in
        let list = shapes_of y.document in
        let found = zip-at (IsOriginalPlace available set) (elements set) originals inner (pair_of y) are (element-at inner y is.both.there) in
        get_or_from_slice_get originals inner found.0 None found.1 ∙ by found.0 (child_of list y.shape.item) refl found.2
      where
        by : (place : Option ℕ) (o : Option Child) → child_of (shapes_of is.both.other.document) is.both.other.shape.item ≡ o → IsChildPlace available set is.both.other.document.target o place → place ≡ None
        by place None e at = at
        by place (Some c) e at =
            let z = is.both.one in
            let y = is.both.other in
            let list = shapes_of y.document in
            let own = stands 0 set inner y is.both.there in
            let outside = stands 0 set outer z is.both.at in
            let found = child-is own.i own.m y.document y.shape own.document own.shape c e in
            let held : has_member y.shape.item found.0.redefine ≡ true = ap (λ (x : Shape). has_member x.item found.0.redefine) (sym found.1) ∙ found.0.held in
            let in_list : slice_get list outside.m ≡ Some z.shape = ap (λ (d : SetDocument). slice_get (shapes_of d) outside.m) is.both.document ∙ outside.shape in
            let same : found.0.at ≡ outside.m = one-parent list (all own.i y.document own.document) y.shape.item found.0.at outside.m found.0.redefine z.shape found.0.is in_list held is.held in
            let redefine : found.0.redefine ≡ z.shape = same_Some found.0.redefine z.shape (sym found.0.is ∙ (ap (λ (n : ℕ). slice_get list n) same ∙ in_list)) in
            absurd (not-both plain (no-redefine z.shape.form c.location (ap (λ (x : Shape). redefined x.form) (sym redefine) ∙ found.0.location)))

    -- an element with an original, and this
    pub record IsVersionOf (version original : ℕ) : Type 0 where
      pub slot : Slot
      pub other : Slot
      pub at : slice_get (slots 0 set) version ≡ Some slot
      pub there : slice_get (slots 0 set) original ≡ Some other
      pub of : Redefinable
      pub name : List ℕ
      pub declares : declared_as slot.shape.form ≡ Some (of, name)
      pub declared : declared_as other.shape.form ≡ Some (of, name)
      pub target : other.document.target ≡ slot.document.target

    -- the elements of a document by its number
    pub shapes-same : (d : SetDocument) (document : ℕ) → IsDocument available d → d.number ≡ document → shapes_of d ≡ shapes_at available document
    shapes-same d document is same =
        let before : is.0 ≡ document - 1 = omega (arith, is.2, same) in
        ap (λ (schema : ShapedSchema). schema.shapes) is.4
        ∙ ap (λ (o : Option Available). available_shapes o) (sym is.3 ∙ ap (λ (n : ℕ). slice_get available n) before)

    module _ (documents : All (IsDocument available) set) where
      found-version : (version original : ℕ) (slot : Slot) → slice_get (slots 0 set) version ≡ Some slot → (location : List ℕ) (of : Redefinable) (name : List ℕ) → declared_as slot.shape.form ≡ Some (of, name)
          → (w : Version) → IsOriginal available location of name (Some w) → version_place 0 set slot.document.target w.document w.shape.item ≡ Some original → IsVersionOf version original
      found-version version original slot at location of name declares w is place =
          let found = original-is available of name location w is in
          let its = place-at 0 set slot.document.target w.document w.shape.item original place in
          let tests = and_parts (its.slot.document.number == w.document) (same_target its.slot.document.target slot.document.target) its.number in
          let own = stands 0 set its.n its.slot its.at in
          let list = shapes_of its.slot.document in
          let same = shapes-same its.slot.document w.document (All-contains (IsDocument available) set its.slot.document documents (at-contains set own.i its.slot.document own.document)) (eqb-true its.slot.document.number w.document tests.0) in
          let there_it_is = version-there w.document (shapes_at available w.document) of name w found.version in
          let in_list : slice_get list there_it_is.0 ≡ Some w.shape = ap (λ (xs : List Shape). slice_get xs there_it_is.0) same ∙ there_it_is.1 in
          let one : own.m ≡ there_it_is.0 =
          one-item list (all own.i its.slot.document own.document) own.m there_it_is.0 its.slot.shape w.shape own.shape in_list (eqb-true its.slot.shape.item w.shape.item its.item_is) in
          let shape : its.slot.shape ≡ w.shape = same_Some its.slot.shape w.shape (sym own.shape ∙ (ap (λ (n : ℕ). slice_get list n) one ∙ in_list)) in
          let place_is : its.n ≡ original = omega (arith, its.is) in
          record {
            slot = slot;
            other = its.slot;
            at = at;
            there = ap (λ (n : ℕ). slice_get (slots 0 set) n) (sym place_is) ∙ its.at;
            of = of;
            name = name;
            declares = declares;
            declared = ap (λ (s : Shape). declared_as s.form) shape ∙ found.declares;
            target = target-one its.slot.document.target slot.document.target tests.1;
          }

      pub version-of : (version original : ℕ) → original_at originals version ≡ Some original → IsVersionOf version original
      version-of version original is =
          let found = zip-from (IsOriginalPlace available set) (elements set) originals version (Some original) are (index-some originals version original is) in
          let from = element-from version found.0.0 found.0.1 found.1 in
          let slot = from.0 in
          let own = stands 0 set version slot from.1 in
          let places : IsOriginalPlace available set (pair_of slot) (Some original) = subst (λ (e : SetDocument × Shape). IsOriginalPlace available set e (Some original)) (sym from.2) found.2 in
          by slot from.1 own (child_of (shapes_of slot.document) slot.shape.item) refl places
        where
          declared : (slot : Slot) → slice_get (slots 0 set) version ≡ Some slot → (location : List ℕ) (o : Option (Redefinable × List ℕ)) → declared_as slot.shape.form ≡ o → IsPlaceOf available set slot.document.target location o (Some original) → IsVersionOf version original
          declared slot at location None e place = absurd (none-some original (sym place))
          declared slot at location (Some (of, name)) e place = which place.0 place.1 place.2
            where
              which : (found : Option Version) → IsOriginal available location of name found → Some original ≡ option_and_then (λ (v : Version). version_place 0 set slot.document.target v.document v.shape.item) found → IsVersionOf version original
              which None is place = absurd (none-some original (sym place))
              which (Some w) is place = found-version version original slot at location of name e w is (sym place)

          by : (slot : Slot) → slice_get (slots 0 set) version ≡ Some slot → Stands 0 set version slot → (o : Option Child) → child_of (shapes_of slot.document) slot.shape.item ≡ o → IsChildPlace available set slot.document.target o (Some original) → IsVersionOf version original
          by slot at own None e place = absurd (none-some original (sym place))
          by slot at own (Some c) e place =
              let found = child-is own.i own.m slot.document slot.shape own.document own.shape c e in
              declared slot at c.location (declared_as slot.shape.form) refl
              (subst (λ (s : Shape). IsPlaceOf available set slot.document.target c.location (declared_as s.form) (Some original)) found.1 place)

      -- it stands in a redefine
      pub version-child : (version original : ℕ) → original_at originals version ≡ Some original → (slot : Slot) → slice_get (slots 0 set) version ≡ Some slot
          → (c : Child) × Contains (redefining (shapes_of slot.document)) c × (c.shape ≡ slot.shape)
      version-child version original is slot at =
          let found = zip-at (IsOriginalPlace available set) (elements set) originals version (pair_of slot) are (element-at version slot at) in
          let same : found.0 ≡ Some original = sym (get_or_from_slice_get originals version found.0 None found.1) ∙ is in
          by (stands 0 set version slot at) (child_of (shapes_of slot.document) slot.shape.item) refl (subst (λ (o : Option ℕ). IsOriginalPlace available set (pair_of slot) o) same found.2)
        where
          by : Stands 0 set version slot → (o : Option Child) → child_of (shapes_of slot.document) slot.shape.item ≡ o → IsChildPlace available set slot.document.target o (Some original)
              → (c : Child) × Contains (redefining (shapes_of slot.document)) c × (c.shape ≡ slot.shape)
          by own None e place = absurd (none-some original (sym place))
          by own (Some c) e place =
              let list = redefining (shapes_of slot.document) in
              let found = found-at (λ (x : Child). x.shape.item == slot.shape.item) list c e in
              (c, at-contains list found.0 c found.1, (child-is own.i own.m slot.document slot.shape own.document own.shape c e).1)
