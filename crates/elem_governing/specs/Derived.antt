-- Type Derivation OK (Structures 3.4.6 and 3.14.6) as a test, by recursion on both types.
use Rattle.std.specs.Prelude.{ℕ, ◌+◌, ◌==◌, ◌&&◌, ◌||◌, not, Bool, true, false, Option, None, Some, bytes_eq}
use Rattle.std.specs.List.{list_any}
use Rattle.simple_values.specs.Builtins.{name_of}
use Rattle.xs_codes.specs.declared.builtin.Builtin.{Builtin as Built}
use Rattle.xs_components.specs.Tables.{Tables}
use Rattle.xs_components.specs.declared.common.Methods.{Methods}
use Rattle.xs_components.specs.declared.common.TypeId.{TypeId}
use Rattle.xs_components.specs.declared.common.TypeId.TheVariants.{AnyType, Builtin, Simple, Complex}
use Rattle.component_references.specs.Descent.{along}
use Rattle.component_references.specs.Heights.{type_height}
use Rattle.type_derivation.specs.Derives.{above, members_of, is_simple}

-- built-in types are the same where their names are
abbrev pub same_builtin : Built → Built → Bool
same_builtin a b = bytes_eq (name_of a) (name_of b)

abbrev pub same_type : TypeId → TypeId → Bool
same_type AnyType AnyType = true
same_type (Builtin a) (Builtin b) = same_builtin a b
same_type (Simple a) (Simple b) = a == b
same_type (Complex a) (Complex b) = a == b
same_type _ _ = false

module _ (t : Tables) (excluded : Methods) where
  -- the base of a type, where it has one by none of these methods, derives from another
  abbrev pub base_derives : (TypeId × TypeId → Bool) → Option TypeId → TypeId → Bool
  base_derives derives None base = false
  base_derives derives (Some next) base = derives (next, base)

  -- a type derives from one of the members of another
  abbrev pub member_derives : (TypeId × TypeId → Bool) → TypeId → TypeId → Bool
  member_derives derives sub base = list_any (λ member. derives (sub, member)) (members_of t base)

  abbrev pub derives_step : (TypeId × TypeId → Bool) → TypeId × TypeId → Bool
  derives_step derives pair =
      same_type pair.0 pair.1 || (base_derives derives (above t excluded pair.0) pair.1 ||
      ((is_simple pair.0 && not excluded.restriction) && member_derives derives pair.0 pair.1))

-- each step goes to a type that is lower
abbrev pub pair_height : Tables → TypeId × TypeId → ℕ
pair_height t pair = type_height t pair.0 + type_height t pair.1

-- A type derives from another without any of some methods: they are the same; or its own method is none of them, and its base
-- derives so from the other; or it is simple, restriction is none of them, and it derives so from a member of the other, a union.
unfoldable pub derives : Tables → Methods → TypeId → TypeId → Bool
derives t excluded sub base = along (pair_height t) false (derives_step t excluded) (sub, base)
