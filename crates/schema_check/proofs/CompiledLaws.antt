-- Types of a compiled set, from what is known of its phases.
use Rattle.std.proofs.Common.{◌≡◌, ℕ, inr, List, Option, None, Ok, All, get_or, subst}
use Rattle.std.proofs.lemmas.Option.{get_or_from_slice_get, slice_get_within}
use Rattle.tree_rows.specs.Whole.{IsTree}
use Rattle.xs_codes.specs.declared.fault.Fault.{Fault}
use Rattle.xs_codes.specs.Least.{IsLeast}
use Rattle.xs_names.specs.Names.{NameTable, no_names}
use Rattle.type_derivation.specs.Within.{AreSimple}
use Rattle.redefine_names.specs.Renamed.{renamed}
use Rattle.representations.specs.declared.parts.Representation.{Representation}
use Rattle.xs_components.specs.Tables.{Tables}
use Rattle.component_references.specs.Circles.{Ranks, with_all_ranks}
use Rattle.type_derivation.specs.Cycles.{IsGrown}
use Rattle.schema_set.specs.declared.documents.SetDocument.{SetDocument}
use Rattle.representations.specs.declared.origins.Origin.{Origin}
use Rattle.representations.specs.declared.source.Source.{Source}
use Rattle.representations.specs.Names.{spaces_of}
use Rattle.set_representations.specs.Documents.{representations, origins, set_table}
use Rattle.schema_check.specs.Components.{all_names, versions}
use Rattle.reference_faults.specs.Faults.{IsBroken}
use Rattle.build_components.specs.Built.{built}
use Rattle.schema_set.specs.declared.inputs.SchemaInput.{SchemaInput}
use Rattle.schema_set.specs.Documents.{IsShapeFault}
use Rattle.schema_set.proofs.ShapedLaws.{IsShapedBy, all-shaped}
use Rattle.schema_check.specs.Compilation.{shape_phase, IsCompilation}
use Rattle.schema_check.specs.SetPhases.{name_phase, AreParts, IsSetCompiled}
use Rattle.schema_check.specs.declared.documents.CompiledSet.{CompiledSet}
use Rattle.schema_check.specs.OfTree.{IsOfTree}
use Rattle.schema_check.specs.Resolved.{AreResolved}
use Rattle.schema_check.specs.Shaped.{AreShaped}
use Rattle.schema_check.specs.Simple.{AreTypesSimple}
use Rattle.schema_check.specs.SimpleParts.{HasSimpleTypes}
use Rattle.schema_check.proofs.TypeLaws.{of-set}

module _ (documents : List SchemaInput) (start : ℕ) (trees : All (λ input. IsTree input.tree) documents) where
  no-faults : shape_phase documents start None → (f : Fault) → IsShapeFault documents start f → ⊥
  unfolding shape_phase
  no-faults none = none

  -- a document that is shaped by one of the trees
  of-tree : (d : SetDocument) → IsShapedBy documents d → IsOfTree d
  of-tree d by =
      (d.number, by.1.tree, subst (λ (input : SchemaInput). IsTree input.tree) (get_or_from_slice_get documents by.0 by.1 by.1 by.2) (trees by.0 by.1 (slice_get_within documents by.0 by.1 by.2)), by.3)

  pub shaped-set : (made : CompiledSet) → IsCompilation documents start (Ok made) → (set : List SetDocument) × (originals : List (Option ℕ)) × All IsOfTree set × IsSetCompiled set originals (Ok made)
  shaped-set made is =
      let set = is.1 in (
        set,
        is.2,
        (λ k d h. of-tree (get_or set k d) (all-shaped documents start set is.3 (no-faults is.0.0) k d h)),
        is.5,
      )

module _ (resolve : (t : NameTable) (origins : List Origin) (reps : List Representation) → IsLeast (IsBroken t origins reps) None → AreResolved reps)
    (simple : (source : Source) (t : Tables) → source.spaces.now ≡ spaces_of source.reps.now → AreResolved source.reps.now → AreShaped source.reps.now → t ≡ built source → AreSimple t)
    (types : (source : Source) (t : Tables) → source.spaces.now ≡ spaces_of source.reps.now → AreResolved source.reps.now → AreShaped source.reps.now → t ≡ built source → AreTypesSimple t)
    (shape : (t : NameTable) (ds : List SetDocument) → All IsOfTree ds → AreShaped (representations t ds))
    (apart : (t : NameTable) (reps : List Representation) (originals : List (Option ℕ)) → AreShaped reps → AreShaped (renamed t reps originals))
    (grown : (old new : Tables) (ranks : Ranks) → HasSimpleTypes old → IsGrown (with_all_ranks old ranks) new → HasSimpleTypes new)
  where
    parts-simple : (set : List SetDocument) (originals : List (Option ℕ)) (parts : Tables) → All IsOfTree set → name_phase set originals None → AreParts set originals parts → HasSimpleTypes parts
    unfolding name_phase AreParts
    parts-simple set originals parts of none are =
        let t = set_table no_names set in
        let reps = versions t set originals in
        let resolved = resolve (all_names t set originals) (origins t set) reps (λ fault broken. none fault (inr broken)) in
        let shaped = apart (all_names t set originals) (representations t set) originals (shape t set of) in
        record {
          made = of-set AreSimple simple reps are.0 parts resolved shaped are.1 are.2 are.4;
          used = of-set AreTypesSimple types reps are.0 parts resolved shaped are.1 are.2 are.4;
        }

    pub set-simple : (set : List SetDocument) (originals : List (Option ℕ)) (made : CompiledSet) → All IsOfTree set → IsSetCompiled set originals (Ok made) → HasSimpleTypes made.parts
    set-simple set originals made of is =
        let parts = is.1.1 in
        let ranked = is.1.3.same in
        grown parts made.parts ranked.0 (parts-simple set originals parts of is.0.0 is.1.2) ranked.1.filled.grown

    pub compiled-simple : (documents : List SchemaInput) (start : ℕ) (made : CompiledSet) → All (λ input. IsTree input.tree) documents → IsCompilation documents start (Ok made) → HasSimpleTypes made.parts
    compiled-simple documents start made trees is = let s = shaped-set documents start trees made is in set-simple s.0 s.1 made s.2 s.3
