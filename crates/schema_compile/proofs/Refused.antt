-- Where attribute uses are refused, that is a fault of phase 6 (Structures 3.4.3, 3.6.3).
use Rattle.std.proofs.Common.{◌≡◌, ℕ, zero, suc, Bool, true, false, List, [], ◌∷◌, Option, None, Some, Result, Ok, Err, map, refl, subst}
use Rattle.std.specs.Prelude.{⊤, IfSome, slice_get, slice_index, if◌then◌else◌}
use Rattle.xs_codes.specs.declared.code.Code.TheVariants.{SrcCt5}
use Rattle.xs_codes.specs.declared.fault.Fault.{Fault}
use Rattle.xs_components.specs.Tables.{Tables}
use Rattle.xs_components.specs.declared.attr_group.AttrGroupDef.{AttrGroupDef}
use Rattle.xs_components.specs.declared.common.TypeId.{TypeId}
use Rattle.xs_components.specs.declared.common.TypeId.TheVariants.{AnyType, Builtin, Simple, Complex}
use Rattle.xs_components.specs.declared.complex.ComplexType.{ComplexType}
use Rattle.component_references.specs.Descent.{after_turns}
use Rattle.component_references.specs.Heights.{type_height}
use Rattle.attr_uses.specs.declared.entry.UseHolder.{UseHolder}
use Rattle.attr_uses.specs.declared.entry.UseHolder.TheVariants.{Complex as OfType, AttrGroup as OfGroup}
use Rattle.attr_uses.specs.Written.{OwnParts, fault_at, own_of_type, own_of_group, own_parts}
use Rattle.attr_uses.specs.Uses.{AttrUses, no_uses, own_uses, with_groups, or_fault, first_refusal, accepted_groups, refused_or, uses_with_groups, group_step, group_uses, extended_uses, restricted_uses, with_base_of, with_own, type_part, type_step, uses_of}

-- a fault, if there is one, is of phase 6
abbrev IsOfPhase : Result AttrUses Fault → Type 0
IsOfPhase (Ok uses) = ⊤
IsOfPhase (Err fault) = fault.phase ≡ 6

or-of : (fault : Fault) (uses : Option AttrUses) → fault.phase ≡ 6 → IsOfPhase (or_fault fault uses)
or-of fault None p = p
or-of fault (Some uses) p = tt

refused-of : (refusal : Option Fault) (uses : Result AttrUses Fault) → IfSome refusal (λ f. f.phase ≡ 6) → IsOfPhase uses → IsOfPhase (refused_or refusal uses)
refused-of None uses p q = q
refused-of (Some fault) uses p q = p

first-of : (one : Result AttrUses Fault) (rest : List (Result AttrUses Fault)) → IsOfPhase one → IfSome (first_refusal rest) (λ f. f.phase ≡ 6) → IfSome (first_refusal (one ∷ rest)) (λ f. f.phase ≡ 6)
first-of (Ok uses) rest p q = q
first-of (Err fault) rest p q = p

module _ (group : ℕ → Result AttrUses Fault) (each : (n : ℕ) → IsOfPhase (group n)) where
  refusal-of : (groups : List ℕ) → IfSome (first_refusal (map group groups)) (λ f. f.phase ≡ 6)
  refusal-of [] = tt
  refusal-of (n ∷ groups) = first-of (group n) (map group groups) (each n) (refusal-of groups)

  with-groups-of : (holder : UseHolder) (own : OwnParts) → own.no_form.phase ≡ 6 → IsOfPhase (uses_with_groups group holder own)
  with-groups-of holder own p =
      refused-of (first_refusal (map group own.groups)) (or_fault own.no_form (with_groups (own_uses holder own) (accepted_groups (map group own.groups))))
      (refusal-of own.groups) (or-of own.no_form (with_groups (own_uses holder own) (accepted_groups (map group own.groups))) p)

type-form : (part : Option ComplexType) → (own_of_type part).no_form.phase ≡ 6
type-form None = refl
type-form (Some part) = refl

group-form : (part : Option AttrGroupDef) → (own_of_group part).no_form.phase ≡ 6
group-form None = refl
group-form (Some part) = refl

module _ (t : Tables) where
  group-turns : (turns n : ℕ) → IsOfPhase (after_turns (slice_index t.attr_groups.ranks) (Ok no_uses) (group_step t) turns n)
  group-turns zero n = tt
  group-turns (suc turns) n =
      with-groups-of (after_turns (slice_index t.attr_groups.ranks) (Ok no_uses) (group_step t) turns) (group-turns turns) (OfGroup n) (own_parts t (OfGroup n))
      (group-form (slice_get t.attr_groups.parts n))

  group-of : (n : ℕ) → IsOfPhase (group_uses t n)
  unfolding group_uses
  group-of n = group-turns (suc (slice_index t.attr_groups.ranks n)) n

  base-by : (extends : Bool) (part : ComplexType) (own base : AttrUses) → IsOfPhase (if extends then or_fault (fault_at part.at SrcCt5) (extended_uses own base) else Ok (restricted_uses t own base))
  base-by true part own base = or-of (fault_at part.at SrcCt5) (extended_uses own base) refl
  base-by false part own base = tt

  base-of : (part : ComplexType) (own : AttrUses) (base : Result AttrUses Fault) → IsOfPhase base → IsOfPhase (with_base_of t part own base)
  base-of part own (Err fault) p = p
  base-of part own (Ok base) p = base-by part.by_extension part own base

  own-of : (part : ComplexType) (own base : Result AttrUses Fault) → IsOfPhase own → IsOfPhase base → IsOfPhase (with_own t part own base)
  own-of part (Err fault) base p q = p
  own-of part (Ok own) base p q = base-of part own base q

  part-of : (uses : TypeId → Result AttrUses Fault) → ((of : TypeId) → IsOfPhase (uses of)) → (n : ℕ) (part : Option ComplexType) → IsOfPhase (type_part t uses n part)
  part-of uses each n None = tt
  part-of uses each n (Some part) =
      own-of part (uses_with_groups (group_uses t) (OfType n) (own_of_type (Some part))) (uses part.base)
      (with-groups-of (group_uses t) group-of (OfType n) (own_of_type (Some part)) (type-form (Some part))) (each part.base)

  step-of : (uses : TypeId → Result AttrUses Fault) → ((of : TypeId) → IsOfPhase (uses of)) → (of : TypeId) → IsOfPhase (type_step t uses of)
  step-of uses each AnyType = tt
  step-of uses each (Builtin kind) = tt
  step-of uses each (Simple id) = tt
  step-of uses each (Complex id) = part-of uses each id (slice_get t.complexes.parts id)

  type-turns : (turns : ℕ) (of : TypeId) → IsOfPhase (after_turns (type_height t) (Ok no_uses) (type_step t) turns of)
  type-turns zero of = tt
  type-turns (suc turns) of = step-of (after_turns (type_height t) (Ok no_uses) (type_step t) turns) (type-turns turns) of

  type-of : (of : TypeId) → IsOfPhase (uses_of t of)
  unfolding uses_of
  type-of of = type-turns (suc (type_height t of)) of

  pub group-refused : (n : ℕ) (fault : Fault) → group_uses t n ≡ Err fault → fault.phase ≡ 6
  group-refused n fault e = subst IsOfPhase e (group-of n)

  pub type-refused : (of : TypeId) (fault : Fault) → uses_of t of ≡ Err fault → fault.phase ≡ 6
  type-refused of fault e = subst IsOfPhase e (type-of of)
