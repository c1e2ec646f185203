-- The table of a compiled set has the namespaces that its wildcards name.
use Rattle.std.proofs.Common.{◌≡◌, ℕ, ◌<◌, List, [], ◌∷◌, Option, None, Some, length, refl, sym, ap, subst, ◌∙◌, arith, inl, inr}
use Rattle.xs_names.specs.Names.{NameTable, IsSound, no_names}
use Rattle.xs_names.proofs.GrownLaws.{two_spaces}
use Rattle.xs_components.specs.Tables.{Tables}
use Rattle.component_references.specs.Circles.{with_all_ranks}
use Rattle.schema_set.specs.declared.documents.SetDocument.{SetDocument}
use Rattle.schema_set.specs.declared.inputs.SchemaInput.{SchemaInput}
use Rattle.representations.specs.declared.parts.Representation.{Representation}
use Rattle.set_representations.specs.Documents.{representations, set_table}
use Rattle.redefine_names.specs.declared.declared.Declared.{Declared}
use Rattle.redefine_names.specs.Components.{declared_at}
use Rattle.redefine_names.specs.VersionNames.{with_name_of, with_version, with_versions}
use Rattle.build_components.specs.Built as built
use Rattle.build_components.proofs.ListLaws.{all-at}
use Rattle.schema_check.specs.Components.{all_names}
use Rattle.schema_check.specs.SetPhases.{names, AreParts, IsCompiled}
use Rattle.schema_check.specs.declared.documents.CompiledSet.{CompiledSet}
use Rattle.schema_compile.specs.Outcomes.{IsOutcome}
use Rattle.schema_compile.specs.declared.outcome.Outcome.TheVariants.{Accepted, Broken}
use Rattle.compiled_schema.specs.Usable.{set_of}
use Rattle.compiled_schema.specs.declared.compiled.Compiled.{Compiled}
use Rattle.kept_next.specs.Spaces.{HasSpacesNamed}
use Rattle.told.proofs.Forms.{AreSpaced, all-spaced, renamed-spaced}
use Rattle.told.proofs.Terms.{IsPartSpaced, particles-spaced}
use Rattle.told.proofs.Filling.{AllSpaced, filled-spaced}

-- ---- the names of originals are in namespaces that are there
named-same : (t : NameTable) (place : ℕ) (declared : Option Declared) → (with_name_of t place declared).spaces ≡ t.spaces
named-same t place None = refl
named-same t place (Some declared) = refl

version-same : (t : NameTable) (reps : List Representation) (original : Option ℕ) → (with_version t reps original).spaces ≡ t.spaces
version-same t reps None = refl
version-same t reps (Some place) = named-same t place (declared_at reps place)

versions-same : (t : NameTable) (reps : List Representation) (originals : List (Option ℕ)) → (with_versions t reps originals).spaces ≡ t.spaces
versions-same t reps [] = refl
versions-same t reps (original ∷ originals) = versions-same (with_version t reps original) reps originals ∙ version-same t reps original

-- ---- the components of a set of documents
module _ (ds : List SetDocument) (originals : List (Option ℕ)) where
  abbrev own : NameTable
  own = set_table no_names ds

  names-same : (names ds originals).spaces ≡ own.spaces
  unfolding names
  names-same = versions-same own (representations own ds) originals

  parts-spaced : 0 < length own.spaces → (old : Tables) → AreParts ds originals old → AllSpaced own old
  unfolding AreParts
  parts-spaced some old are =
      let source = are.0 in
      let spaced : AreSpaced own source.reps.now =
      subst (AreSpaced own) (sym are.1) (renamed-spaced own (all_names own ds originals) (representations own ds) originals 0 (representations own ds) (all-spaced own some 0 1 ds)) in
      subst (AllSpaced own) (sym are.4) (particles-spaced own source (built.element_numbers source) (built.group_numbers source) 0 0 source.reps.now spaced)

  pub set-spaced : (made : CompiledSet) → IsCompiled ds originals made → IsSound made.names → AllSpaced made.names made.parts
  set-spaced made is sound =
      let old = is.1 in
      let same = is.3.same in
      let spaces : made.names.spaces ≡ own.spaces = ap (λ (t : NameTable). t.spaces) is.0 ∙ names-same in
      let two = two_spaces made.names sound in
      let some : 0 < length own.spaces = let many = ap (λ (xs : List (List ℕ)). length xs) spaces in omega (arith, two, many) in
      let spaced : AllSpaced own made.parts = subst (AllSpaced own) (sym same.1.filled.filled) (filled-spaced own (with_all_ranks old same.0) same.1.filled.order (parts-spaced some old is.2)) in
      subst (λ (xs : List (List ℕ)). AllSpaced (record { spaces = xs; names = made.names.names }) made.parts) (sym spaces) spaced

-- ---- what documents come to
module _ (c : Compiled) (sound : IsSound c.names) where
  made-spaced : (made : CompiledSet) → c.names ≡ made.names → c.parts ≡ made.parts → AllSpaced made.names made.parts → HasSpacesNamed (set_of c)
  made-spaced made names_are parts_are h =
      let own : AllSpaced c.names c.parts = subst (λ (t : NameTable). AllSpaced t c.parts) (sym names_are) (subst (AllSpaced made.names) (sym parts_are) h) in
      all-at (IsPartSpaced c.names) c.parts.particles.parts own

  pub outcome-spaced : (documents : List SchemaInput) (start : ℕ) → IsOutcome documents start (Accepted c) → HasSpacesNamed (set_of c)
  outcome-spaced documents start (inl (fault, compiled, is)) = absurd (let broken : Accepted c ≡ Broken fault = is in cc broken)
  outcome-spaced documents start (inr (made, compiled, outcome)) =
      made-spaced made outcome.1.names outcome.1.parts
      (set-spaced compiled.1 compiled.2 made compiled.5.1 (subst IsSound outcome.1.names sound))
