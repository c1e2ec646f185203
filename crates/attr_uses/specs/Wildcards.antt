-- Attribute wildcards: intersections and unions of them (Structures 3.4.2, 3.10.6). The result None is that there is no form.
use Rattle.std.specs.Prelude.{ℕ, Bool, true, false, ◌||◌, ◌==◌, ◌++◌, Option, None, Some, filter, if◌then◌else◌}
use Rattle.std.specs.Option.{option_map}
use Rattle.xs_names.specs.Names.{absent_space}
use Rattle.xs_components.specs.Sets.{admits}
use Rattle.xs_components.specs.declared.namespace_constraint.NsConstraint.{NsConstraint}
use Rattle.xs_components.specs.declared.namespace_constraint.NsConstraint.TheVariants.{Any, Not, In}
use Rattle.xs_components.specs.declared.common.Wildcard.{Wildcard}

-- two negations: of one namespace, or of a namespace and the absent one
abbrev pub both_excluded : ℕ → ℕ → Option NsConstraint
both_excluded x y =
    if (x == y) || (y == absent_space) then Some (Not x)
    else if x == absent_space then Some (Not y)
    else None

-- Attribute Wildcard Intersection (Structures 3.10.6)
abbrev pub intersection : NsConstraint → NsConstraint → Option NsConstraint
intersection Any b = Some b
intersection (Not x) Any = Some (Not x)
intersection (Not x) (Not y) = both_excluded x y
intersection (Not x) (In listed) = Some (In (filter (admits (Not x)) listed))
intersection (In listed) b = Some (In (filter (admits b) listed))

-- all but one namespace, and a set that has the one and the absent one, or not
abbrev pub union_of_negation : ℕ → Bool → Bool → Option NsConstraint
union_of_negation x true true = Some Any
union_of_negation x true false = Some (Not absent_space)
union_of_negation x false true = None
union_of_negation x false false = Some (Not x)

abbrev pub with_all_but : ℕ → NsConstraint → Option NsConstraint
with_all_but x b = union_of_negation x (admits b x) (admits b absent_space)

-- Attribute Wildcard Union (Structures 3.10.6)
abbrev pub union : NsConstraint → NsConstraint → Option NsConstraint
union Any b = Some Any
union (Not x) b = with_all_but x b
union (In listed) Any = Some Any
union (In listed) (Not x) = with_all_but x (In listed)
union (In listed) (In more) = Some (In (listed ++ more))

-- the wildcard with other namespaces
abbrev pub admitting : Wildcard → NsConstraint → Wildcard
admitting w namespaces = record w { namespaces = namespaces }

-- two wildcards, either of which may be absent, made one; the processContents is that of the first where it is there
module _ (join : NsConstraint → NsConstraint → Option NsConstraint) where
  abbrev pub joined_wildcard : Option Wildcard → Option Wildcard → Option (Option Wildcard)
  joined_wildcard None b = Some b
  joined_wildcard (Some a) None = Some (Some a)
  joined_wildcard (Some a) (Some b) = option_map (λ namespaces. Some (admitting a namespaces)) (join a.namespaces b.namespaces)
