-- What documents represent does not depend on where their shapes lie.
use Rattle.std.proofs.Common.{◌≡◌, ℕ, ◌+◌, ◌==◌, ◌&&◌, List, [], ◌∷◌, ◌++◌, Option, None, Some, if◌then◌else◌, length, map, refl, reverse, sym, ap, ◌∙◌, subst}
use Rattle.std.specs.List.{AllZip, flat_map, position_from}
use Rattle.std.specs.Option.{option_and_then}
use Rattle.xs_names.specs.Names.{NameTable}
use Rattle.xs_names.specs.Scope.{first_scope}
use Rattle.redefine_originals.proofs.FindsLaws.{finds-one}
use Rattle.schema_shape.specs.declared.forms.Shape.{Shape}
use Rattle.schema_set.specs.declared.documents.Available.{Available}
use Rattle.schema_set.specs.declared.documents.SetDocument.{SetDocument}
use Rattle.schema_set.specs.Order.{same_target}
use Rattle.redefine_originals.specs.declared.versions.Redefinable.{Redefinable}
use Rattle.redefine_originals.specs.Versions.{Child, Version, declared_as}
use Rattle.redefine_originals.specs.Originals.{shapes_of, elements, version_place, child_of, IsPlaceOf, IsChildPlace, IsOriginalPlace, AreOriginals}
use Rattle.representations.specs.Documents.{document_table}
use Rattle.representations.specs.declared.origins.Origin.{Origin}
use Rattle.representations.specs.declared.parts.Representation.{Representation}
use Rattle.set_representations.specs.Documents.{document_representations, representations_of, document_scopes, scopes, origin_of, origins_of, set_table}
use Rattle.set_representations.specs.Scopes.{openings}
use Rattle.schema_check.specs.Same.{IsSameDocument}

-- the same document, its shapes nowhere
abbrev pub bare : SetDocument → SetDocument
bare d = record { number = d.number; target = d.target; shaped = record { ref_ptr = (0, 0); now = d.shaped.now } }

pub bare-same : (a b : List SetDocument) → AllZip IsSameDocument a b → map bare a ≡ map bare b
bare-same [] [] all = refl
bare-same [] (e ∷ es) all = absurd all
bare-same (d ∷ ds) [] all = absurd all
bare-same (d ∷ ds) (e ∷ es) all =
    let rest = bare-same ds es all.1 in
    λ i. record { number = all.0.0 i; target = all.0.1 i; shaped = record { ref_ptr = (0, 0); now = all.0.2 i } } ∷ rest i

-- ---- names, representations, scopes and origins
pub table-bare : (t : NameTable) (ds : List SetDocument) → set_table t (map bare ds) ≡ set_table t ds
table-bare t [] = refl
table-bare t (d ∷ ds) = table-bare (document_table d.target (shapes_of d) t) ds

pub representations-bare : (t : NameTable) (place first : ℕ) (ds : List SetDocument) → representations_of t place first (map bare ds) ≡ representations_of t place first ds
representations-bare t place first [] = refl
representations-bare t place first (d ∷ ds) =
    ap (λ (rs : List Representation). document_representations t place first d ++ rs) (representations-bare t (place + length (shapes_of d)) (first + openings (reverse (shapes_of d))) ds)

scopes-of-bare : (t : NameTable) (ds : List SetDocument) → flat_map (document_scopes t) (map bare ds) ≡ flat_map (document_scopes t) ds
scopes-of-bare t [] = refl
scopes-of-bare t (d ∷ ds) = ap (λ (ss : List (List (List ℕ × ℕ))). document_scopes t d ++ ss) (scopes-of-bare t ds)

pub scopes-bare : (t : NameTable) (ds : List SetDocument) → scopes t (map bare ds) ≡ scopes t ds
scopes-bare t ds = ap (λ (ss : List (List (List ℕ × ℕ))). first_scope ∷ ss) (scopes-of-bare t ds)

pub origins-bare : (t : NameTable) (place : ℕ) (ds : List SetDocument) → origins_of t place (map bare ds) ≡ origins_of t place ds
origins-bare t place [] = refl
origins-bare t place (d ∷ ds) = ap (λ (os : List Origin). origin_of t place d ∷ os) (origins-bare t (place + length (shapes_of d)) ds)

-- ---- originals
place-bare : (place : ℕ) (ds : List SetDocument) (target : Option (List ℕ)) (document item : ℕ) → version_place place (map bare ds) target document item ≡ version_place place ds target document item
place-bare place [] target document item = refl
place-bare place (d ∷ ds) target document item =
    ap (λ (rest : Option ℕ). if d.number == document && same_target d.target target then position_from (λ s. s.item == item) place (shapes_of d) else rest)
    (place-bare (place + length (shapes_of d)) ds target document item)

abbrev bare_element : SetDocument × Shape → SetDocument × Shape
bare_element e = (bare e.0, e.1)

map-append : {A B : Type 0} (f : A → B) (xs ys : List A) → map f (xs ++ ys) ≡ map f xs ++ map f ys
map-append f [] ys = refl
map-append f (x ∷ xs) ys = ap (λ zs. f x ∷ zs) (map-append f xs ys)

of-document : (d : SetDocument) (ss : List Shape) → map (λ s. (bare d, s)) ss ≡ map bare_element (map (λ s. (d, s)) ss)
of-document d [] = refl
of-document d (s ∷ ss) = ap (λ zs. (bare d, s) ∷ zs) (of-document d ss)

elements-bare : (ds : List SetDocument) → elements (map bare ds) ≡ map bare_element (elements ds)
elements-bare [] = refl
elements-bare (d ∷ ds) =
    ap (λ (zs : List (SetDocument × Shape)). zs ++ elements (map bare ds)) (of-document d (shapes_of d))
    ∙ (ap (λ (zs : List (SetDocument × Shape)). map bare_element (map (λ s. (d, s)) (shapes_of d)) ++ zs) (elements-bare ds)
    ∙ sym (map-append bare_element (map (λ s. (d, s)) (shapes_of d)) (elements ds)))

module _ {A B : Type 0} (f : A → A) (P Q : A → B → Type 0) where
  zip-to : ((x : A) (y : B) → P x y → Q (f x) y) → (xs : List A) (ys : List B) → AllZip P xs ys → AllZip Q (map f xs) ys
  zip-to to [] [] all = tt
  zip-to to [] (y ∷ ys) all = all
  zip-to to (x ∷ xs) [] all = all
  zip-to to (x ∷ xs) (y ∷ ys) all = (to x y all.0, zip-to to xs ys all.1)

  zip-from : ((x : A) (y : B) → Q (f x) y → P x y) → (xs : List A) (ys : List B) → AllZip Q (map f xs) ys → AllZip P xs ys
  zip-from from [] [] all = tt
  zip-from from [] (y ∷ ys) all = all
  zip-from from (x ∷ xs) [] all = all
  zip-from from (x ∷ xs) (y ∷ ys) all = (from x y all.0, zip-from from xs ys all.1)

module _ (sources : List Available) (set : List SetDocument) (target : Option (List ℕ)) where
  found-bare : (found : Option Version) →
      option_and_then (λ (v : Version). version_place 0 (map bare set) target v.document v.shape.item) found ≡ option_and_then (λ (v : Version). version_place 0 set target v.document v.shape.item) found
  found-bare None = refl
  found-bare (Some v) = place-bare 0 set target v.document v.shape.item

  of-to : (location : List ℕ) (declared : Option (Redefinable × List ℕ)) (place : Option ℕ) → IsPlaceOf sources set target location declared place → IsPlaceOf sources (map bare set) target location declared place
  of-to location None place is = is
  of-to location (Some declared) place is = (is.0, is.1, is.2 ∙ sym (found-bare is.0))

  of-from : (location : List ℕ) (declared : Option (Redefinable × List ℕ)) (place : Option ℕ) → IsPlaceOf sources (map bare set) target location declared place → IsPlaceOf sources set target location declared place
  of-from location None place is = is
  of-from location (Some declared) place is = (is.0, is.1, is.2 ∙ found-bare is.0)

  child-to : (child : Option Child) (place : Option ℕ) → IsChildPlace sources set target child place → IsChildPlace sources (map bare set) target child place
  child-to None place is = is
  child-to (Some child) place is = of-to child.location (declared_as child.shape.form) place is

  child-from : (child : Option Child) (place : Option ℕ) → IsChildPlace sources (map bare set) target child place → IsChildPlace sources set target child place
  child-from None place is = is
  child-from (Some child) place is = of-from child.location (declared_as child.shape.form) place is

module _ (sources : List Available) (set : List SetDocument) (originals : List (Option ℕ)) where
  pub originals-to : AreOriginals sources set originals → AreOriginals sources (map bare set) originals
  originals-to are =
      subst (λ (zs : List (SetDocument × Shape)). AllZip (IsOriginalPlace sources (map bare set)) zs originals) (sym (elements-bare set))
      (zip-to bare_element (IsOriginalPlace sources set) (IsOriginalPlace sources (map bare set))
      (λ e place is. child-to sources set e.0.target (child_of (shapes_of e.0) e.1.item) place is) (elements set) originals are)

  pub originals-from : AreOriginals sources (map bare set) originals → AreOriginals sources set originals
  originals-from are =
      zip-from bare_element (IsOriginalPlace sources set) (IsOriginalPlace sources (map bare set))
      (λ e place is. child-from sources set e.0.target (child_of (shapes_of e.0) e.1.item) place is) (elements set) originals
      (subst (λ (zs : List (SetDocument × Shape)). AllZip (IsOriginalPlace sources (map bare set)) zs originals) (elements-bare set) are)

-- ---- originals are one
module _ (sources : List Available) (set : List SetDocument) where
  place-one : (target : Option (List ℕ)) (location : List ℕ) (declared : Option (Redefinable × List ℕ)) (x y : Option ℕ) → IsPlaceOf sources set target location declared x
      → IsPlaceOf sources set target location declared y → x ≡ y
  place-one target location None x y p q = p ∙ sym q
  place-one target location (Some declared) x y p q =
      let found : p.0 ≡ q.0 = finds-one sources declared.0 declared.1 _ [] p.0 q.0 p.1 q.1 in
      p.2 ∙ (ap (λ (f : Option Version). option_and_then (λ (v : Version). version_place 0 set target v.document v.shape.item) f) found ∙ sym q.2)

  child-one : (target : Option (List ℕ)) (child : Option Child) (x y : Option ℕ) → IsChildPlace sources set target child x → IsChildPlace sources set target child y → x ≡ y
  child-one target None x y p q = p ∙ sym q
  child-one target (Some child) x y p q = place-one target child.location (declared_as child.shape.form) x y p q

  zips-one : {A B : Type 0} (P : A → B → Type 0) → ((a : A) (x y : B) → P a x → P a y → x ≡ y) → (zs : List A) (xs ys : List B) → AllZip P zs xs → AllZip P zs ys → xs ≡ ys
  zips-one P one [] [] [] p q = refl
  zips-one P one [] [] (y ∷ ys) p q = absurd q
  zips-one P one [] (x ∷ xs) ys p q = absurd p
  zips-one P one (z ∷ zs) [] ys p q = absurd p
  zips-one P one (z ∷ zs) (x ∷ xs) [] p q = absurd q
  zips-one P one (z ∷ zs) (x ∷ xs) (y ∷ ys) p q =
      let first : x ≡ y = one z x y p.0 q.0 in
      let rest : xs ≡ ys = zips-one P one zs xs ys p.1 q.1 in
      λ i. first i ∷ rest i

  pub originals-one : (xs ys : List (Option ℕ)) → AreOriginals sources set xs → AreOriginals sources set ys → xs ≡ ys
  originals-one = zips-one (IsOriginalPlace sources set) (λ e x y p q. child-one e.0.target (child_of (shapes_of e.0) e.1.item) x y p q) (elements set)

-- of two sets that are the same
pub set-originals-same : (sources : List Available) (a b : List SetDocument) (xs ys : List (Option ℕ)) → map bare a ≡ map bare b → AreOriginals sources a xs → AreOriginals sources b ys → xs ≡ ys
set-originals-same sources a b xs ys same p q =
    originals-one sources b xs ys (originals-from sources b xs (subst (λ (ds : List SetDocument). AreOriginals sources ds xs) same (originals-to sources a xs p))) q
