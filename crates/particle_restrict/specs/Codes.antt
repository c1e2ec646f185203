-- The cases of Particle Valid (Restriction) (Structures 3.9.6) and their codes.
use Rattle.std.specs.Prelude.{◌≡◌, List, ⊤, Option, None, Some, slice_get}
use Rattle.xs_codes.specs.declared.code.Code.{Code}
use Rattle.xs_codes.specs.declared.code.Code.TheVariants.{CosParticleRestrict2, RcaseNameAndTypeOk, RcaseNsCompat, RcaseRecurseAsIfGroup, RcaseNsSubset, RcaseNsRecurseCheckCardinality, RcaseRecurse, RcaseRecurseUnordered, RcaseRecurseLax, RcaseMapAndSum}
use Rattle.particle_models.specs.Trees.{Tree, leaf, group}
use Rattle.particle_models.specs.declared.part.Compositor.{Compositor}
use Rattle.particle_models.specs.declared.part.Compositor.TheVariants.{Sequence, Choice, All}
use Rattle.particle_restrict.specs.declared.cases.Case.{Case}
use Rattle.particle_restrict.specs.declared.cases.Case.TheVariants.{Forbidden, NameAndTypeOk, NsCompat, RecurseAsIfGroup, NsSubset, NsRecurseCheckCardinality, Recurse, RecurseUnordered, RecurseLax, MapAndSum}
use Rattle.particle_restrict.specs.declared.restriction.RestrictFault.{RestrictFault}
use Rattle.particle_restrict.specs.declared.restriction.RestrictFault.TheVariants.{Broken, Memory}
use Rattle.particle_restrict.specs.declared.terms.Term.{Term}
use Rattle.particle_restrict.specs.declared.terms.Term.TheVariants.{Element, Any}

-- The code of a case. cos-particle-restrict.2: the pair is forbidden.
abbrev pub code_of : Case → Code
code_of Forbidden = CosParticleRestrict2
code_of NameAndTypeOk = RcaseNameAndTypeOk
code_of NsCompat = RcaseNsCompat
code_of RecurseAsIfGroup = RcaseRecurseAsIfGroup
code_of NsSubset = RcaseNsSubset
code_of NsRecurseCheckCardinality = RcaseNsRecurseCheckCardinality
code_of Recurse = RcaseRecurse
code_of RecurseUnordered = RcaseRecurseUnordered
code_of RecurseLax = RcaseRecurseLax
code_of MapAndSum = RcaseMapAndSum

-- a row of the table of cases, by what the base is
abbrev pub leaf_case : Option Term → Option Term → Case
leaf_case (Some (Element element)) (Some (Element base)) = NameAndTypeOk
leaf_case (Some (Element element)) (Some (Any base)) = NsCompat
leaf_case (Some (Any space)) (Some (Any base)) = NsSubset
leaf_case _ _ = Forbidden

abbrev pub leaf_group_case : Option Term → Case
leaf_group_case None = Forbidden
leaf_group_case (Some (Element element)) = RecurseAsIfGroup
leaf_group_case (Some (Any space)) = Forbidden

abbrev pub group_leaf_case : Option Term → Case
group_leaf_case None = Forbidden
group_leaf_case (Some (Element element)) = Forbidden
group_leaf_case (Some (Any space)) = NsRecurseCheckCardinality

abbrev pub group_case : Compositor → Compositor → Case
group_case Sequence Sequence = Recurse
group_case Sequence Choice = MapAndSum
group_case Sequence All = RecurseUnordered
group_case Choice Choice = RecurseLax
group_case All All = Recurse
group_case _ _ = Forbidden

module _ (terms : List Term) where
  -- The case of a particle over another.
  abbrev pub case_of : Tree → Tree → Case
  case_of (leaf bounds t) (leaf base u) = leaf_case (slice_get terms t) (slice_get terms u)
  case_of (leaf bounds t) (group base compositor members) = leaf_group_case (slice_get terms t)
  case_of (group bounds compositor members) (leaf base u) = group_leaf_case (slice_get terms u)
  case_of (group bounds compositor members) (group base base_compositor base_members) = group_case compositor base_compositor

  -- the same where there may be no particle
  abbrev pub form_case : Option Tree → Option Tree → Case
  form_case (Some derived) (Some base) = case_of derived base
  form_case _ _ = Forbidden

-- the fault says that it is not so, with this code, or that memory ran out
abbrev pub IsFault : Type 0 → Code → RestrictFault → Type 0
IsFault Holds code (Broken found) = ¬ Holds × (found ≡ code)
IsFault Holds code Memory = ⊤
