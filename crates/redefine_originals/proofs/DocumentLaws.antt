-- What stands in an element, one by one, and the versions of a document.
use Rattle.std.proofs.Common.{◌≡◌, ℕ, ◌+◌, ◌<◌, List, [], ◌∷◌, ◌++◌, length, map, take, get_or, Bool, true, false, refl, sym, ap, ◌∙◌}
use Rattle.std.specs.List.{find, filter}
use Rattle.std.specs.Option.{option_map, option_or}
use Rattle.std.proofs.lemmas.List.{append-nil, take_more}
use Rattle.std.proofs.lemmas.List.Elements.{filter-append}
use Rattle.std.proofs.lemmas.List.Folds.{find-append}
use Rattle.schema_shape.specs.declared.forms.Shape.{Shape}
use Rattle.redefine_originals.specs.declared.versions.Redefinable.{Redefinable}
use Rattle.redefine_originals.specs.Versions.{declares, Version, in_redefine, on_top, at_top, redefining, version_in}
use Rattle.redefine_originals.specs.declared.versions.Redefinable.TheVariants as kind
use Rattle.redefine_originals.specs.declared.document_versions.DocumentVersions.{DocumentVersions}
use Rattle.redefine_originals.specs.inside.DocumentVersions.{all_versions, HasVersions}
use Rattle.redefine_originals.specs.inside.Named.{found}
use Rattle.redefine_originals.proofs.InsideLaws.{find-map}

module _ {X : Type 0} (q : X → Bool) (xs : List X) (i : ℕ) (x : X) (h : i < length xs) (is : x ≡ get_or xs i x) where
  more : filter q (take (i + 1) xs) ≡ filter q (take i xs) ++ filter q (x ∷ [])
  more = ap (filter q) (take_more xs i x h ∙ ap (λ y. take i xs ++ y ∷ []) (sym is)) ∙ filter-append q (take i xs) (x ∷ [])

  pub kept-more : (old new : List X) → q x ≡ true → old ≡ filter q (take i xs) → new ≡ old ++ x ∷ [] → new ≡ filter q (take (i + 1) xs)
  kept-more old new is_in so_far put = put ∙ ap (λ l. l ++ x ∷ []) so_far ∙ sym (more ∙ ap (λ l. filter q (take i xs) ++ l) one)
    where
      one : filter q (x ∷ []) ≡ x ∷ []
      one = rw is_in refl

  pub left-out : (old : List X) → q x ≡ false → old ≡ filter q (take i xs) → old ≡ filter q (take (i + 1) xs)
  left-out old is_out so_far = so_far ∙ sym (append-nil (filter q (take i xs))) ∙ sym (more ∙ ap (λ l. filter q (take i xs) ++ l) one)
    where
      one : filter q (x ∷ []) ≡ []
      one = rw is_out refl

-- the first version of a kind and name is the version of the document
pub first-version : (document : ℕ) (shapes : List Shape) (of : Redefinable) (name : List ℕ) → find (λ v. declares of name v.shape) (all_versions document shapes) ≡ version_in document shapes of name
first-version document shapes of name =
    find-append (λ (v : Version). declares of name v.shape) (map (in_redefine document) (redefining shapes)) (map (on_top document) (at_top shapes))
    ∙ ap (λ o. option_or o (find (λ v. declares of name v.shape) (map (on_top document) (at_top shapes)))) (sym (find-map (in_redefine document) (λ (v : Version). declares of name v.shape) (redefining shapes)))
    ∙ ap (option_or (option_map (in_redefine document) (find (λ c. declares of name c.shape) (redefining shapes)))) (sym (find-map (on_top document) (λ (v : Version). declares of name v.shape) (at_top shapes)))

-- the first versions of each kind are the versions of the document
pub has-versions : (document : ℕ) (shapes : List Shape) (versions : DocumentVersions) (all : List Version) → all ≡ all_versions document shapes
    → ((name : List ℕ) → found versions.types name ≡ find (λ v. declares kind.Type name v.shape) all)
    → ((name : List ℕ) → found versions.groups name ≡ find (λ v. declares kind.Group name v.shape) all)
    → ((name : List ℕ) → found versions.attribute_groups name ≡ find (λ v. declares kind.AttributeGroup name v.shape) all)
    → HasVersions document shapes versions
has-versions document shapes versions all is types groups attributes kind.Type name = types name ∙ ap (find (λ v. declares kind.Type name v.shape)) is ∙ first-version document shapes kind.Type name
has-versions document shapes versions all is types groups attributes kind.Group name = groups name ∙ ap (find (λ v. declares kind.Group name v.shape)) is ∙ first-version document shapes kind.Group name
has-versions document shapes versions all is types groups attributes kind.AttributeGroup name =
    attributes name ∙ ap (find (λ v. declares kind.AttributeGroup name v.shape)) is ∙ first-version document shapes kind.AttributeGroup name
