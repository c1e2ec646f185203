-- Documents of the right shape, and what is built of them.
use Rattle.std.proofs.Common.{◌≡◌, ℕ, List, All, sym, ap, subst, ◌∙◌}
use Rattle.std.proofs.lemmas.List.Elements.{All-weaker}
use Rattle.std.proofs.lemmas.Option.{get_or_from_slice_get, slice_get_within}
use Rattle.xs_components.specs.Tables.{Tables}
use Rattle.component_references.specs.Circles.{Ranks, with_all_ranks}
use Rattle.type_derivation.specs.Cycles.{IsGrown}
use Rattle.schema_set.specs.declared.documents.Available.{Available}
use Rattle.schema_set.specs.declared.documents.SetDocument.{SetDocument}
use Rattle.schema_set.specs.EffectiveSet.{IsDocument, IsEffectiveSet}
use Rattle.representations.specs.declared.parts.Representation.{Representation}
use Rattle.representations.specs.declared.source.Source.{Source}
use Rattle.representations.specs.Names.{spaces_of}
use Rattle.build_components.specs.Built.{built}
use Rattle.schema_check.specs.Resolved.{AreResolved}
use Rattle.schema_check.specs.Shaped.{AreShaped}
use Rattle.schema_check.specs.OfTree.{IsDeclared, IsOfTree}
use Rattle.schema_check.specs.SimpleParts.{HasSimpleTypes}

-- the documents of a set are among those that there are
pub documents-of : (available : List Available) (start : ℕ) (ds : List SetDocument) → All (λ a. IsDeclared a.shaped) available → IsEffectiveSet available start ds → All IsOfTree ds
documents-of available start ds all set = All-weaker (IsDocument available) IsOfTree one ds set.there
  where
    one : (d : SetDocument) → IsDocument available d → IsOfTree d
    one d is =
        let declared = subst (λ (a : Available). IsDeclared a.shaped) (get_or_from_slice_get available is.0 is.1 is.1 is.3) (all is.0 is.1 (slice_get_within available is.0 is.1 is.3)) in
        subst IsDeclared (sym is.4) declared

-- what is said of sources, of the representations of a set
module _ (P : Tables → Type 0)
    (simple : (source : Source) (parts : Tables) → source.spaces.now ≡ spaces_of source.reps.now → AreResolved source.reps.now → AreShaped source.reps.now → parts ≡ built source → P parts)
  where
    pub of-set : (reps : List Representation) (source : Source) (parts : Tables) → AreResolved reps → AreShaped reps → source.reps.now ≡ reps → source.spaces.now ≡ spaces_of reps → parts ≡ built source → P parts
    of-set reps source parts resolved shaped same spaces is =
        simple source parts (spaces ∙ ap spaces_of (sym same)) (subst AreResolved (sym same) resolved) (subst AreShaped (sym same) shaped) is

-- ranks and contents change no type of a part
pub still-simple : (old new : Tables) (ranks : Ranks) → HasSimpleTypes old → IsGrown (with_all_ranks old ranks) new → HasSimpleTypes new
still-simple old new ranks is grown = subst HasSimpleTypes (sym grown.tables)
    (record { made = record { named = is.made.named }; used = record { attributes = is.used.attributes; contents = is.used.contents } })
