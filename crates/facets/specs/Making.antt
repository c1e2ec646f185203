-- Lists of a type, and unions of types: Structures 3.14.2 and 3.14.6.
use Rattle.std.specs.Prelude.{ℕ, false, List, [], ◌∷◌, ◌++◌, length, Option, None, Some}
use Rattle.xs_names.specs.declared.handling.WhiteSpace.TheVariants.{Collapse}
use Rattle.xs_codes.specs.declared.builtin.Builtin.{Builtin}
use Rattle.simple_values.specs.Grammar.{item_type}
use Rattle.facet_checks.specs.declared.list.FacetList.{FacetList}
use Rattle.facet_checks.specs.List.{no_facets}
use Rattle.facets.specs.declared.members.Plain.{Plain}
use Rattle.facets.specs.declared.members.Gate.{Gate}
use Rattle.facets.specs.declared.members.Choices.{Choices}
use Rattle.facets.specs.declared.members.Literals.{Literals}
use Rattle.facets.specs.declared.members.Literals.TheVariants.{OfBuiltin, OfList}
use Rattle.facets.specs.declared.members.Member.{Member}
use Rattle.facets.specs.UnionMembers.{Members}
use Rattle.facets.specs.declared.members.Source.{Source}
use Rattle.facets.specs.declared.members.Source.TheVariants as sources
use Rattle.facets.specs.declared.facets.Facets.{Facets}
use Rattle.facets.specs.Members.{moved_on}

abbrev pub no_members : Members
no_members = record { members = []; gates = [] }

abbrev pub gate : ℕ → ℕ → FacetList → Gate
gate from to facets = record { from = from; to = to; list = facets }

-- the members of a union stand in place of it, and its facets are kept beside them
abbrev pub with_union : Members → Members → FacetList → Members
with_union all others facets = record {
  members = all.members ++ others.members;
  gates = (all.gates ++ moved_on (length all.members) others.gates)
      ++ gate (length all.members) (length (all.members ++ others.members)) facets ∷ [];
}

abbrev pub with_source : Members → Source → FacetList → Members
with_source all (sources.Literals literals) facets = record all { members = all.members ++ record { literals = literals; list = facets } ∷ [] }
with_source all (sources.Union others) facets = with_union all others facets

-- 3.14.2: a member of a union behind others
abbrev pub with_member : Members → Facets → Members
with_member all member = with_source all member.source member.list

-- 4.3.6: lists collapse white space
abbrev pub list_facets : FacetList
list_facets = record no_facets { white_space = Some (record { value = Collapse; fixed = false }) }

abbrev pub atomic_if : Option Builtin → Builtin → Option Builtin
atomic_if None kind = Some kind
atomic_if (Some item) kind = None

-- the built-in type itself, unless it is a list
abbrev pub atomic : Builtin → Option Builtin
atomic kind = atomic_if (item_type kind) kind

abbrev pub atomic_kind : Literals → Option Builtin
atomic_kind (OfBuiltin kind) = atomic kind
atomic_kind (OfList items) = None

abbrev pub choice_if : Option Builtin → FacetList → Option Choices
choice_if None facets = None
choice_if (Some kind) facets = Some (record { members = record { kind = kind; list = facets } ∷ []; gates = [] })

abbrev pub choice_of_one : Literals → FacetList → Option Choices
choice_of_one literals facets = choice_if (atomic_kind literals) facets

abbrev pub plains_if : Option Builtin → FacetList → List Plain → (List Plain → Option (List Plain)) → Option (List Plain)
plains_if None facets front rest = None
plains_if (Some kind) facets front rest = rest (front ++ record { kind = kind; list = facets } ∷ [])

-- the members as atomic types, if they all are
abbrev pub plains_behind : List Plain → List Member → Option (List Plain)
plains_behind front [] = Some front
plains_behind front (member ∷ members) =
    plains_if (atomic_kind member.literals) member.list front (λ plains. plains_behind plains members)

abbrev pub union_choice : Members → FacetList → Option (List Plain) → Option Choices
union_choice members facets None = None
union_choice members facets (Some plains) =
    Some (record { members = plains; gates = ([] ++ moved_on 0 members.gates) ++ gate 0 (length plains) facets ∷ [] })

abbrev pub choice_of_union : Members → FacetList → Option Choices
choice_of_union members facets = union_choice members facets (plains_behind [] members.members)

abbrev pub choices_by : Source → FacetList → Option Choices
choices_by (sources.Literals literals) facets = choice_of_one literals facets
choices_by (sources.Union members) facets = choice_of_union members facets

-- cos-list-of-atomic (Datatypes 4.1.5): what the items of a list are; the type is no list, and no union that holds one
abbrev pub choices_of : Facets → Option Choices
choices_of item = choices_by item.source item.list
