-- A simple type, judged by what is in force for those that it is made of: Structures 3.14.2 and 3.14.6.
use Rattle.std.specs.Prelude.{◌≡◌, Bool, true, false, List, [], ◌∷◌, Option, None, Some, is_some}
use Rattle.xs_components.specs.Tables.{Tables}
use Rattle.xs_components.specs.declared.common.Place.{Place}
use Rattle.xs_components.specs.declared.common.TypeId.{TypeId}
use Rattle.xs_components.specs.declared.simple.FacetItem.{FacetItem}
use Rattle.xs_components.specs.declared.simple.SimpleForm.{SimpleForm}
use Rattle.xs_components.specs.declared.simple.SimpleForm.TheVariants.{Restrict, ListOf, UnionOf}
use Rattle.xs_components.specs.declared.complex.ContentForm.{ContentForm}
use Rattle.xs_components.specs.declared.complex.ContentForm.TheVariants as contents
use Rattle.facet_rules.specs.First.{first_from}
use Rattle.facets.specs.declared.facets.Facets.{Facets}
use Rattle.facets.specs.declared.known.Judged.{Judged}
use Rattle.facets.specs.declared.known.Known.{Known}
use Rattle.facets.specs.declared.known.Known.TheVariants as knowns
use Rattle.facets.specs.UnionMembers.{Members}
use Rattle.facets.specs.Facets.{IsStepJudged}
use Rattle.facets.specs.Making.{no_members, with_member}
use Rattle.facets.specs.Source.{list_of, union_of}
use Rattle.simple_types.specs.SimpleValidity.{made_from, made_from_both, list_of_any}
use Rattle.simple_types.specs.declared.judged.TypeFacets.{TypeFacets}
use Rattle.simple_types.specs.declared.judged.JudgedType.{JudgedType}
use Rattle.simple_types.specs.Lookup.{unknown}
use Rattle.simple_types.specs.TypeRules.{no_fault, base_rules, item_rules, members_rules}

-- what a step leaves in force: nothing is known behind a facet that is undefined
abbrev pub left_behind : TypeFacets → Option Facets → TypeFacets
left_behind behind None = record behind { known = knowns.Neither }
left_behind behind (Some facets) = record behind { facets = facets }

-- a step of restriction, with its first fault
abbrev pub IsStepMade : TypeFacets → List FacetItem → JudgedType → Type 0
IsStepMade behind step made =
    (judged : Judged) × IsStepJudged behind.facets behind.known step judged
    × (made ≡ record { of = left_behind behind judged.facets; fault = judged.fault })

abbrev pub list_facets : Option Facets → Known → TypeFacets
list_facets None item = record { facets = list_of_any; known = knowns.Facets }
list_facets (Some facets) item = record { facets = facets; known = made_from item }

-- a list of items for which this is in force, with its first fault
abbrev pub list_by : Tables → Place → TypeId → TypeFacets → JudgedType
list_by t at item of = record {
  of = list_facets (list_of of.facets) of.known;
  fault = first_from no_fault (item_rules t at item (is_some (list_of of.facets)));
}

module _ (look : TypeId → TypeFacets) where
  abbrev pub members_behind : Members → List TypeId → Members
  members_behind front [] = front
  members_behind front (member ∷ members) = members_behind (with_member front (look member).facets) members

  abbrev pub known_of_members : Known → List TypeId → Known
  known_of_members known [] = known
  known_of_members known (member ∷ members) = known_of_members (made_from_both known (look member).known) members

  abbrev pub union_facets : List TypeId → TypeFacets
  union_facets members = record { facets = union_of (members_behind no_members members); known = known_of_members knowns.Whole members }

module _ (t : Tables) (look : TypeId → TypeFacets) (at : Place) where
  -- a restriction: the faults of the step, and those of the base
  abbrev pub IsRestrictionMade : TypeId → List FacetItem → JudgedType → Type 0
  IsRestrictionMade base step made =
      (judged : JudgedType) × IsStepMade (look base) step judged
      × (made ≡ record { of = judged.of; fault = first_from judged.fault (base_rules t at base) })

  abbrev pub list_made : TypeId → JudgedType
  list_made item = list_by t at item (look item)

  abbrev pub union_made : List TypeId → JudgedType
  union_made members = record { of = union_facets look members; fault = first_from no_fault (members_rules t at members) }

  abbrev pub IsFormMade : SimpleForm → JudgedType → Type 0
  IsFormMade (Restrict base step) made = IsRestrictionMade base step made
  IsFormMade (ListOf item) made = made ≡ list_made item
  IsFormMade (UnionOf members) made = made ≡ union_made members

abbrev pub without_fault : TypeFacets → JudgedType
without_fault of = record { of = of; fault = no_fault }

module _ (simple content : TypeId → TypeFacets) where
  abbrev pub restricted : Option TypeId → TypeId → TypeFacets
  restricted None base = content base
  restricted (Some own) base = simple own

  -- simple content (3.4.2): that of the base, or a restriction of it or of the simple type that stands in it
  abbrev pub IsContentMade : Bool → TypeId → ContentForm → JudgedType → Type 0
  IsContentMade true base (contents.Simple own step) made = made ≡ without_fault (content base)
  IsContentMade true base (contents.Complex None mixed) made = made ≡ without_fault (content base)
  IsContentMade false base (contents.Simple own step) made = IsStepMade (restricted own base) step made
  IsContentMade _ base (contents.Complex _ mixed) made = made ≡ without_fault unknown
