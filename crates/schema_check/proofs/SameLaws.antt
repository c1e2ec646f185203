-- Of a set whose redefines break no constraint: references of redefining components to themselves are the same by all definitions.
use Rattle.std.proofs.Common.{◌≡◌, ℕ, ◌<◌, List, [], Option, None, Some, length, slice_get, refl, sym, ap, subst, ◌∙◌}
use Rattle.std.specs.Prelude.{◌↔◌, Contains}
use Rattle.std.specs.Option.{option_and_then}
use Rattle.std.proofs.lemmas.Option.{none-some}
use Rattle.xs_names.specs.Names.{NameTable}
use Rattle.schema_shape.specs.declared.forms.Shape.{Shape}
use Rattle.schema_set.specs.Documents.{available}
use Rattle.schema_set.specs.EffectiveSet.{IsEffectiveSet}
use Rattle.schema_set.specs.declared.documents.Available.{Available}
use Rattle.schema_set.specs.declared.documents.SetDocument.{SetDocument}
use Rattle.schema_set.specs.declared.inputs.SchemaInput.{SchemaInput}
use Rattle.redefine_originals.specs.Versions.{redefining, declared_as}
use Rattle.redefine_originals.specs.Originals.{shapes_of}
use Rattle.representations.specs.declared.parts.Representation.{Representation}
use Rattle.redefine_names.specs.Components.{declared_at}
use Rattle.redefine_names.specs.VersionNames.{original_at}
use Rattle.redefine_names.specs.Redefined.{redefined_by, IsSelfReference, RedefinesWhole}
use Rattle.redefine_names.specs.declared.declared.Declared.{Declared}
use Rattle.schema_check.specs.SelfReferences.{RefersToItself, AreComposed, set_names, set_reps, set_versions, AreTexts}
use Rattle.schema_check.proofs.TreeLaws.{AreElements}
use Rattle.schema_check.proofs.RedefineKindLaws.{IsSpace}
use Rattle.schema_check.proofs.OriginalLaws.{element-from}
use Rattle.schema_check.proofs.FoundLaws.{original-found}
use Rattle.schema_check.proofs.HiddenLaws.{hidden-to, hidden-from}
use Rattle.schema_check.proofs.SelfLaws.{set-space, set-elements, declares_it, own-declared, original-declared, name-within, references-plain, to-elements, from-elements}

has-original : (reps : List Representation) (originals : List (Option ℕ)) (version : ℕ) (to : Declared) → redefined_by reps originals version ≡ Some to → (o : ℕ) × (original_at originals version ≡ Some o)
has-original reps originals version to is = by (original_at originals version) refl is
  where
    by : (o : Option ℕ) → original_at originals version ≡ o → option_and_then (declared_at reps) o ≡ Some to → (n : ℕ) × (original_at originals version ≡ Some n)
    by None e is = absurd (none-some to is)
    by (Some o) e is = (o, e)

module _ (base : NameTable) (inputs : List SchemaInput) (set : List SetDocument) (originals : List (Option ℕ)) (c : AreComposed inputs set originals) where
  abbrev sources : List Available
  sources = available inputs

  abbrev t : NameTable
  t = set_names base set

  abbrev reps : List Representation
  reps = set_reps base set

  effective : IsEffectiveSet sources c.start set
  effective = c.is_set.0

  all : (i : ℕ) (d : SetDocument) → slice_get set i ≡ Some d → AreElements (shapes_of d)
  all = set-elements inputs c.trees set effective

  space : (i : ℕ) (d : SetDocument) → slice_get set i ≡ Some d → IsSpace d.target
  space = set-space inputs c.trees set effective

  -- a redefining component has an original
  original-of : (version place : ℕ) → RefersToItself set version place → (o : ℕ) × (original_at originals version ≡ Some o)
  original-of version place is =
      let from = element-from sources set originals c.are_originals all version is.document is.child.shape is.at in
      let document : from.0.document ≡ is.document = ap (λ (p : SetDocument × Shape). p.0) from.2 in
      let shape : from.0.shape ≡ is.child.shape = ap (λ (p : SetDocument × Shape). p.1) from.2 in
      original-found sources set effective originals c.are_originals all c.sound version from.0 from.1 is.of is.name (ap (λ (s : Shape). declared_as s.form) shape ∙ is.declares) is.child
      (subst (λ (d : SetDocument). Contains (redefining (shapes_of d)) is.child) (sym document) is.redefines) (sym shape)

  places-to : (version place : ℕ) → IsSelfReference reps originals version place → RefersToItself set version place
  places-to version place is =
      let has = has-original reps originals version is.to is.original in
      to-elements base sources set originals c.are_originals effective all space version has.0 has.1 place is

  places-from : (version place : ℕ) → RefersToItself set version place → IsSelfReference reps originals version place
  places-from version place is =
      let has = original-of version place is in
      from-elements base sources set originals c.are_originals effective all space version has.0 has.1 place is

  pub by-places : (version place : ℕ) → IsSelfReference reps originals version place ↔ RefersToItself set version place
  by-places version place = (places-to version place, places-from version place)

  -- where originals have names of their own
  module _ (texts : AreTexts t) where
    abbrev apart : List Representation
    apart = set_versions base set originals

    module _ (version original : ℕ) (has : original_at originals version ≡ Some original) where
      abbrev d : Declared
      d = declares_it base sources set originals c.are_originals effective all space version original has

      within : d.name < length t.names
      within = name-within base sources set originals c.are_originals effective all space version original has

      to-plain : (place : ℕ) → IsSelfReference apart originals version place → IsSelfReference reps originals version place
      to-plain = hidden-to t reps originals (references-plain base sources set originals c.are_originals effective all space) version original has d
          (own-declared base sources set originals c.are_originals effective all space version original has) (original-declared base sources set originals c.are_originals effective all space version original has)
          within (texts d.name (0, []) within)

      from-plain : (place : ℕ) → IsSelfReference reps originals version place → IsSelfReference apart originals version place
      from-plain = hidden-from t reps originals (references-plain base sources set originals c.are_originals effective all space) version original has d
          (own-declared base sources set originals c.are_originals effective all space version original has) (original-declared base sources set originals c.are_originals effective all space version original has)
          within (texts d.name (0, []) within)

    hidden-places-to : (version place : ℕ) → IsSelfReference apart originals version place → RefersToItself set version place
    hidden-places-to version place is =
        let has = has-original apart originals version is.to is.original in
        places-to version place (to-plain version has.0 has.1 place is)

    hidden-places-from : (version place : ℕ) → RefersToItself set version place → IsSelfReference apart originals version place
    hidden-places-from version place is =
        let has = original-of version place is in
        from-plain version has.0 has.1 place (places-from version place is)

    pub by-hidden-names : (version place : ℕ) → IsSelfReference apart originals version place ↔ RefersToItself set version place
    by-hidden-names version place = (hidden-places-to version place, hidden-places-from version place)

    -- a component that redefines another whole has no reference to itself
    pub by-whole : (version original : ℕ) → RedefinesWhole apart originals version original ↔ (original_at originals version ≡ Some original) × ((place : ℕ) → RefersToItself set version place → ⊥)
    by-whole version original = (
      λ whole. (whole.is, λ place is. whole.alone (place, hidden-places-from version place is)),
      λ both. record { is = both.0; alone = λ has. both.1 has.0 (hidden-places-to version has.0 has.1) },
    )
