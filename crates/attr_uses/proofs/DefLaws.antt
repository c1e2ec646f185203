-- The definitions are their steps.
use Rattle.std.proofs.Common.{◌≡◌, ℕ, ◌≤◌, Option, None, Some, Ok, length, slice_get, slice_index, refl, ap}
use Rattle.std.specs.Prelude.{⊤}
use Rattle.std.proofs.lemmas.Option.{slice_get_past}
use Rattle.xs_components.specs.Tables.{Tables}
use Rattle.xs_components.specs.declared.common.TypeId.{TypeId}
use Rattle.xs_components.specs.declared.common.TypeId.TheVariants.{AnyType, Builtin, Simple, Complex}
use Rattle.xs_components.specs.declared.complex.ComplexType.{ComplexType}
use Rattle.xs_components.specs.declared.attr_group.AttrGroupDef.{AttrGroupDef}
use Rattle.component_references.specs.Descent.{after_turns, AsksLower}
use Rattle.component_references.specs.Heights.{type_height, IsType}
use Rattle.component_references.specs.Ranked.{IsBelow, IsRanked}
use Rattle.component_references.proofs.DescentLaws.{along-is}
use Rattle.component_references.proofs.ListLaws.{map-same}
use Rattle.attr_uses.specs.declared.entry.UseHolder.TheVariants.{Complex as OfType, AttrGroup as OfGroup}
use Rattle.attr_uses.specs.Written.{own_of_group, own_of_type}
use Rattle.attr_uses.specs.Uses.{no_uses, own_uses, with_groups, or_fault, first_refusal, accepted_groups, refused_or, group_step, group_uses, uses_with_groups, with_own, type_part, type_step, any_type_uses, uses_of}

module _ (t : Tables) (ranked : IsRanked t) where
  group-asks : AsksLower (slice_index t.attr_groups.ranks) (Ok no_uses) (group_step t) (λ x. ⊤)
  group-asks x f g is same = of (slice_get t.attr_groups.parts x) refl
    where
      of : (o : Option AttrGroupDef) → slice_get t.attr_groups.parts x ≡ o → uses_with_groups f (OfGroup x) (own_of_group o) ≡ uses_with_groups g (OfGroup x) (own_of_group o)
      of None e = refl
      of (Some part) e =
          ap (λ rs. refused_or (first_refusal rs) (or_fault (own_of_group (Some part)).no_form (with_groups (own_uses (OfGroup x) (own_of_group (Some part))) (accepted_groups rs))))
          (map-same (IsBelow t.attr_groups (slice_index t.attr_groups.ranks x)) f g (λ y low. same y tt low.lower) part.groups (ranked.attr_groups x part e))

  pub group_uses_is : (n : ℕ) → group_uses t n ≡ group_step t (group_uses t) n
  unfolding group_uses
  group_uses_is n = along-is (slice_index t.attr_groups.ranks) (Ok no_uses) (group_step t) (λ x. ⊤) group-asks n tt

  type-asks : AsksLower (type_height t) (Ok no_uses) (type_step t) (IsType t)
  type-asks AnyType f g is same = refl
  type-asks (Builtin b) f g is same = refl
  type-asks (Simple id) f g is same = refl
  type-asks (Complex id) f g is same = of (slice_get t.complexes.parts id) refl
    where
      of : (o : Option ComplexType) → slice_get t.complexes.parts id ≡ o → type_part t f id o ≡ type_part t g id o
      of None e = refl
      of (Some part) e =
          let low = ranked.complexes id part e in
          ap (with_own t part (uses_with_groups (group_uses t) (OfType id) (own_of_type (Some part)))) (same part.base low.there low.lower)

  pub uses_of_is : (of : TypeId) → IsType t of → uses_of t of ≡ type_step t (uses_of t) of
  unfolding uses_of
  uses_of_is of is = along-is (type_height t) (Ok no_uses) (type_step t) (IsType t) type-asks of is

pub any_type_is : (t : Tables) → uses_of t AnyType ≡ Ok any_type_uses
unfolding uses_of
any_type_is t = refl

pub builtin_is : (t : Tables) (b : _) → uses_of t (Builtin b) ≡ Ok no_uses
unfolding uses_of
builtin_is t b = refl

pub simple_is : (t : Tables) (id : ℕ) → uses_of t (Simple id) ≡ Ok no_uses
unfolding uses_of
simple_is t id = refl

-- past the last there is no group
pub group-past : (t : Tables) (n : ℕ) → length t.attr_groups.parts ≤ n → group_uses t n ≡ Ok no_uses
unfolding group_uses
group-past t n l = ap (λ o. uses_with_groups (after_turns (slice_index t.attr_groups.ranks) (Ok no_uses) (group_step t) (slice_index t.attr_groups.ranks n)) (OfGroup n) (own_of_group o)) (slice_get_past t.attr_groups.parts n l)
