-- Versions that are found.
use Rattle.std.proofs.Common.{◌≡◌, ℕ, List, [], ◌∷◌, ◌++◌, get_or, Bool, true, false, ◌&&◌, Option, None, Some, refl, sym, ap, ◌∙◌, subst, bytes_eq}
use Rattle.std.specs.Prelude.{All}
use Rattle.std.specs.List.{find}
use Rattle.std.specs.Option.{option_map, option_and_then, option_or, option_to_list}
use Rattle.std.proofs.lemmas.Bool.{false≢true}
use Rattle.std.proofs.lemmas.Option.{none-some, same_Some}
use Rattle.std.proofs.lemmas.Slice.Eq.{bytes_eq-Decides}
use Rattle.std.proofs.lemmas.List.Elements.{All-cons, All-nil, All-head, All-tail, All-append, Contains-get_or}
use Rattle.schema_shape.specs.declared.forms.Shape.{Shape}
use Rattle.schema_set.specs.declared.documents.Available.{Available}
use Rattle.schema_set.specs.EffectiveSet.{document_at}
use Rattle.schema_set.specs.Order.{IsNumber}
use Rattle.schema_set.proofs.ReachLaws.{in-filter_map}
use Rattle.schema_set.proofs.LocationLaws.{document_at-within}
use Rattle.redefine_originals.specs.declared.versions.Redefinable.{Redefinable}
use Rattle.redefine_originals.specs.declared.versions.Redefinable.TheVariants as kind
use Rattle.redefine_originals.specs.Versions.{declared_as, same_kind, is_declared, declares, at_top, redefining, included, Child, Version, in_redefine, on_top, version_in, shapes_at, version_at, inclusions, Finds, nowhere, again, here, further, IsOriginal}
use Rattle.redefine_originals.proofs.InsideLaws.{find-true}
use Rattle.redefine_originals.proofs.FindsLaws.{finds-one}

both : (a b : Bool) → (a && b) ≡ true → (a ≡ true) × (b ≡ true)
both true b e = (refl, e)
both false b e = absurd (false≢true e)

kinds-same : (a b : Redefinable) → same_kind a b ≡ true → a ≡ b
kinds-same kind.Type kind.Type e = refl
kinds-same kind.Group kind.Group e = refl
kinds-same kind.AttributeGroup kind.AttributeGroup e = refl
kinds-same kind.Type kind.Group e = absurd (false≢true e)
kinds-same kind.Type kind.AttributeGroup e = absurd (false≢true e)
kinds-same kind.Group kind.Type e = absurd (false≢true e)
kinds-same kind.Group kind.AttributeGroup e = absurd (false≢true e)
kinds-same kind.AttributeGroup kind.Type e = absurd (false≢true e)
kinds-same kind.AttributeGroup kind.Group e = absurd (false≢true e)

names-same : (xs ys : List ℕ) → bytes_eq xs ys ≡ true → xs ≡ ys
names-same xs ys e = (bytes_eq-Decides xs ys).0 e

module _ (of : Redefinable) (name : List ℕ) where
  declared-is : (o : Option (Redefinable × List ℕ)) → is_declared of name o ≡ true → o ≡ Some (of, name)
  declared-is None e = absurd (false≢true e)
  declared-is (Some other) e =
      let b = both (same_kind of other.0) (bytes_eq name other.1) e in
      ap (λ k. Some (k, other.1)) (sym (kinds-same of other.0 b.0)) ∙ ap (λ n. Some (of, n)) (sym (names-same name other.1 b.1))

  pub record IsVersion (document : ℕ) (v : Version) : Type 0 where
    pub place : v.document ≡ document
    pub declares : declared_as v.shape.form ≡ Some (of, name)

  pub version-is : (document : ℕ) (shapes : List Shape) (v : Version) → version_in document shapes of name ≡ Some v → IsVersion document v
  version-is document shapes v e = by (find (λ (c : Child). declares of name c.shape) (redefining shapes)) (find (declares of name) (at_top shapes)) refl refl e
    where
      by : (a : Option Child) (b : Option Shape) → find (λ (c : Child). declares of name c.shape) (redefining shapes) ≡ a → find (declares of name) (at_top shapes) ≡ b
          → option_or (option_map (in_redefine document) a) (option_map (on_top document) b) ≡ Some v → IsVersion document v
      by (Some c) b f g h = subst (IsVersion document) (same_Some (in_redefine document c) v h) (record {
        place = refl;
        declares = declared-is (declared_as c.shape.form) (find-true (λ (d : Child). declares of name d.shape) (redefining shapes) c f);
      })
      by None (Some s) f g h = subst (IsVersion document) (same_Some (on_top document s) v h) (record { place = refl; declares = declared-is (declared_as s.form) (find-true (declares of name) (at_top shapes) s g) })
      by None None f g h = absurd (none-some v h)

module _ (available : List Available) where
  pub inclusions-numbers : (document : ℕ) → All (IsNumber available) (inclusions available document)
  inclusions-numbers document k d h =
      let y = get_or (inclusions available document) k d in
      let c = in-filter_map (λ (s : Shape). option_and_then (document_at available) (included s.form)) (shapes_at available document) y (Contains-get_or (inclusions available document) k d h) in
      by y (included c.0.form) c.2
    where
      by : (y : ℕ) (o : Option (List ℕ)) → option_and_then (document_at available) o ≡ Some y → IsNumber available y
      by y None e = absurd (none-some y e)
      by y (Some location) e = document_at-within available location y e

  module _ (of : Redefinable) (name : List ℕ) where
    -- what is found is the version of its document
    pub finds-is : (left seen : List ℕ) (found : Option Version) → Finds available of name left seen found → (v : Version) → found ≡ Some v → version_at available of name v.document ≡ Some v
    finds-is _ _ _ (nowhere seen) v e = absurd (none-some v e)
    finds-is _ _ _ (again d left seen found c f) v e = finds-is left seen found f v e
    finds-is _ _ _ (here d left seen w out is) v e =
        let own = version-is of name d (shapes_at available d) w is in
        subst (λ (u : Version). version_at available of name u.document ≡ Some u) (same_Some w v e) (subst (λ k. version_at available of name k ≡ Some w) (sym own.place) is)
    finds-is _ _ _ (further d left seen found out none f) v e = finds-is (inclusions available d ++ left) (d ∷ seen) found f v e

    finds-number : (left seen : List ℕ) (found : Option Version) → Finds available of name left seen found → All (IsNumber available) left → (v : Version) → found ≡ Some v → IsNumber available v.document
    finds-number _ _ _ (nowhere seen) all v e = absurd (none-some v e)
    finds-number _ _ _ (again d left seen found c f) all v e = finds-number left seen found f (All-tail (IsNumber available) d left all) v e
    finds-number _ _ _ (here d left seen w out is) all v e =
        let own = version-is of name d (shapes_at available d) w is in
        subst (λ (u : Version). IsNumber available u.document) (same_Some w v e) (subst (IsNumber available) (sym own.place) (All-head (IsNumber available) d left all))
    finds-number _ _ _ (further d left seen found out none f) all v e =
        finds-number (inclusions available d ++ left) (d ∷ seen) found f (All-append (IsNumber available) (inclusions available d) left (inclusions-numbers d) (All-tail (IsNumber available) d left all)) v e

    located : (location : List ℕ) (o : Option ℕ) → document_at available location ≡ o → All (IsNumber available) (option_to_list o)
    located location None e = All-nil (IsNumber available)
    located location (Some d) e = All-cons (IsNumber available) d [] (document_at-within available location d e) (All-nil (IsNumber available))

    pub record IsFound (v : Version) : Type 0 where
      pub number : IsNumber available v.document
      pub version : version_at available of name v.document ≡ Some v
      pub declares : declared_as v.shape.form ≡ Some (of, name)

    -- what is known of an original: it is the version that its document has
    pub original-is : (location : List ℕ) (v : Version) → IsOriginal available location of name (Some v) → IsFound v
    original-is location v f =
        let left = option_to_list (document_at available location) in
        let version = finds-is left [] (Some v) f v refl in
        record {
          number = finds-number left [] (Some v) f (located location (document_at available location) refl) v refl;
          version = version;
          declares = (version-is of name v.document (shapes_at available v.document) v version).declares;
        }

    -- there is one original, or none
    pub original-one : (location : List ℕ) (a b : Option Version) → IsOriginal available location of name a → IsOriginal available location of name b → a ≡ b
    original-one location a b f g = finds-one available of name (option_to_list (document_at available location)) [] a b f g
