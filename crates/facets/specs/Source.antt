-- What the literals of a type are, with its facets: Structures 3.14.4, Datatypes 4.1.4.
use Rattle.std.specs.Prelude.{◌≡◌, ℕ, List, Option, None, Some, Result, Ok, Err}
use Rattle.xs_codes.specs.declared.builtin.Builtin.{Builtin}
use Rattle.xs_codes.specs.declared.code.Code.{Code}
use Rattle.facet_checks.specs.declared.list.FacetList.{FacetList}
use Rattle.facet_checks.specs.List.{no_facets}
use Rattle.facet_rules.specs.declared.applicable.Family.{Family}
use Rattle.facets.specs.declared.atomic.Accepted.{Accepted}
use Rattle.facets.specs.declared.facets.Facets.{Facets}
use Rattle.facets.specs.declared.members.Choices.{Choices}
use Rattle.facets.specs.declared.members.Literals.TheVariants.{OfBuiltin, OfList}
use Rattle.facets.specs.UnionMembers.{Members}
use Rattle.facets.specs.declared.members.Source.{Source}
use Rattle.facets.specs.declared.members.Source.TheVariants as sources
use Rattle.facets.specs.Atomic.{IsJudged}
use Rattle.facets.specs.BuiltIn.{facets_of}
use Rattle.facets.specs.Making.{list_facets, choices_of}
use Rattle.facets.specs.Members.{family_of_source, builtin_of_source}
use Rattle.facets.specs.Trying.{IsLiteralRead, IsUnionRead}

abbrev pub of_builtin : Builtin → Facets
of_builtin kind = record { source = sources.Literals (OfBuiltin kind); list = facets_of kind }

abbrev pub list_by : Option Choices → Option Facets
list_by None = None
list_by (Some choices) = Some (record { source = sources.Literals (OfList choices); list = list_facets })

abbrev pub list_of : Facets → Option Facets
list_of item = list_by (choices_of item)

abbrev pub union_of : Members → Facets
union_of members = record { source = sources.Union members; list = no_facets }

abbrev pub family : Facets → Family
family facets = family_of_source facets.source

abbrev pub builtin : Facets → Builtin
builtin facets = builtin_of_source facets.source

-- 4.1.4: after a member has accepted, the facets of the union are tried, with the text that the member's white space left
abbrev pub IsUnionJudged : FacetList → Result Accepted Code → Result Accepted Code → Type 0
IsUnionJudged facets (Err code) outcome = outcome ≡ Err code
IsUnionJudged facets (Ok accepted) outcome = IsJudged facets accepted.value accepted.text outcome

abbrev pub IsSourceRead : Source → FacetList → List (List ℕ × ℕ) → List ℕ → Result Accepted Code → Type 0
IsSourceRead (sources.Literals literals) facets scope text outcome = IsLiteralRead literals facets scope text outcome
IsSourceRead (sources.Union members) facets scope text outcome =
    (first : Result Accepted Code) × IsUnionRead members scope text first × IsUnionJudged facets first outcome

-- what a text reads to as a literal of the type
abbrev pub IsRead : Facets → List (List ℕ × ℕ) → List ℕ → Result Accepted Code → Type 0
IsRead facets scope text outcome = IsSourceRead facets.source facets.list scope text outcome
