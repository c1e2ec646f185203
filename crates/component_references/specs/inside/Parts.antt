-- What ranks are kind by kind.
use Rattle.std.specs.Prelude.{◌≡◌, ℕ, ◌+◌, ◌⊎◌, List, All, map, length, IfSome}
use Rattle.component_references.specs.NumberedCircles.{HasCircle, IsRanking}
use Rattle.xs_codes.specs.declared.code.Code.TheVariants.{StPropsCorrect2, CtPropsCorrect3}
use Rattle.xs_codes.specs.declared.fault.Fault.{Fault}
use Rattle.xs_components.specs.declared.simple.SimpleType.{SimpleType}
use Rattle.xs_components.specs.declared.complex.ComplexType.{ComplexType}
use Rattle.xs_codes.specs.Least.{IsLeast}
use Rattle.xs_components.specs.Tables.{Tables}
use Rattle.component_references.specs.Heights.{first_height, IsLower}
use Rattle.component_references.specs.Ranked.{EachPart, IsBelow, named_types, held_particles, named_group}
use Rattle.component_references.specs.Circles.{ComesBack, with_ranks, AreBothHeights}
use Rattle.component_references.specs.References.{type_references, element_references, attr_group_references, model_references}
use Rattle.component_references.specs.declared.falling.Ranking.{Ranking}
use Rattle.component_references.specs.declared.falling.Ranking.TheVariants.{Falling, Circular}

pub record AreTypesRanked (t : Tables) : Type 0 where
  pub simples : EachPart t.simples (λ rank part. All (IsLower t (first_height + rank)) (named_types part.form))
  pub complexes : EachPart t.complexes (λ rank part. IsLower t (first_height + rank) part.base)

abbrev pub AreElementsRanked : Tables → Type 0
AreElementsRanked t = EachPart t.elements (λ rank part. IfSome part.head (IsBelow t.elements rank))

abbrev pub AreAttrGroupsRanked : Tables → Type 0
AreAttrGroupsRanked t = EachPart t.attr_groups (λ rank part. All (IsBelow t.attr_groups rank) part.groups)

pub record AreModelsRanked (t : Tables) : Type 0 where
  pub groups : EachPart t.groups (λ rank part. IfSome part.particle (IsBelow t.particles rank))
  pub particles : EachPart t.particles (λ rank part. All (IsBelow t.particles rank) (held_particles part.term))
  pub to_groups : EachPart t.particles (λ rank part. IfSome (named_group part.term) (IsBelow t.groups rank))

-- the ranks of each kind are heights
abbrev pub AreTypeHeights : Tables → Type 0
AreTypeHeights t = AreBothHeights (type_references t) (length t.simples.parts) t.simples.ranks t.complexes.ranks

abbrev pub AreElementHeights : Tables → Type 0
AreElementHeights t = IsRanking (element_references t) t.elements.ranks

abbrev pub AreAttrGroupHeights : Tables → Type 0
AreAttrGroupHeights t = IsRanking (attr_group_references t) t.attr_groups.ranks

abbrev pub AreModelHeights : Tables → Type 0
AreModelHeights t = AreBothHeights (model_references t) (length t.groups.parts) t.groups.ranks t.particles.ranks

-- the tables but for ranks of types
abbrev pub HaveTypeRanks : Tables → Tables → Type 0
HaveTypeRanks old new = (simples : List ℕ) × (complexes : List ℕ) × (new ≡ record old { simples = with_ranks old.simples simples; complexes = with_ranks old.complexes complexes })

abbrev pub HaveElementRanks : Tables → Tables → Type 0
HaveElementRanks old new = (elements : List ℕ) × (new ≡ record old { elements = with_ranks old.elements elements })

abbrev pub HaveAttrGroupRanks : Tables → Tables → Type 0
HaveAttrGroupRanks old new = (groups : List ℕ) × (new ≡ record old { attr_groups = with_ranks old.attr_groups groups })

abbrev pub HaveModelRanks : Tables → Tables → Type 0
HaveModelRanks old new = (groups : List ℕ) × (particles : List ℕ) × (new ≡ record old { groups = with_ranks old.groups groups; particles = with_ranks old.particles particles })

-- a type comes back to itself, where the simple types stand first among the references
abbrev pub AreTypesBack : List SimpleType → List ComplexType → List (List ℕ) → Fault → Type 0
AreTypesBack simples complexes refs fault =
    ComesBack (map (λ part. part.at) simples) refs 0 StPropsCorrect2 fault ⊎ ComesBack (map (λ part. part.at) complexes) refs (length simples) CtPropsCorrect3 fault

-- ranks that fall, or the least fault where some part comes back
abbrev pub IsOutcome : List (List ℕ) → (Fault → Type 0) → Ranking → Type 0
IsOutcome refs Broken (Falling ranks) = IsRanking refs ranks.items
IsOutcome refs Broken (Circular found) = HasCircle refs × IsLeast Broken found
