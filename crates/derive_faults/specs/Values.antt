-- Value constraints of attributes, and which fixed values are kept (Structures 3.4.6).
use Rattle.std.specs.Prelude.{◌≡◌, ◌⊎◌, Bool, true, false, not, ⊤, Option, None, Some, Result, Ok, Err}
use Rattle.std.specs.Option.{option_or}
use Rattle.xs_codes.specs.declared.code.Code.{Code}
use Rattle.xs_components.specs.Tables.{Tables}
use Rattle.xs_components.specs.declared.attribute.AttributeDecl.{AttributeDecl}
use Rattle.xs_components.specs.declared.attribute.AttrUse.{AttrUse}
use Rattle.xs_components.specs.declared.common.TypeId.{TypeId}
use Rattle.xs_components.specs.declared.common.ValueConstraint.{ValueConstraint}
use Rattle.simple_values.specs.Same.{same}
use Rattle.simple_values.specs.declared.value.Value.{Value}
use Rattle.simple_types.specs.Trees.{type_tree}
use Rattle.simple_types.specs.SimpleTypes.{IsValueOf}

-- both texts have values, which are not the same; a text that is not valid has none
abbrev pub other_values : Result Value Code → Result Value Code → Bool
other_values (Ok a) (Ok b) = not (same a b)
other_values (Ok a) (Err code) = false
other_values (Err code) b = false

-- the effective value constraint of an attribute use: its own, if there is one, else that of its declaration
abbrev pub effective : AttrUse → AttributeDecl → Option ValueConstraint
effective part decl = option_or part.value decl.value

module _ (t : Tables) (of base_of : TypeId) where
  -- The text of a constraint is read by the type of its attribute, in the scope of the schema element that carries it.
  abbrev pub HasOtherValue : ValueConstraint → ValueConstraint → Type 0
  HasOtherValue own base =
      (a b : Result Value Code) × IsValueOf (type_tree t of) own.scope own.text a × IsValueOf (type_tree t base_of) base.scope base.text b × (other_values a b ≡ true)

  -- a value constraint, if there is one, does not fix the value of another
  abbrev pub IsLost : Option ValueConstraint → ValueConstraint → Type 0
  IsLost None base = ⊤
  IsLost (Some own) base = (own.fixed ≡ false) ⊎ HasOtherValue own base

  -- the base fixes a value, which is not kept
  abbrev pub LosesFixed : Option ValueConstraint → Option ValueConstraint → Type 0
  LosesFixed own None = ⊥
  LosesFixed own (Some base) = (base.fixed ≡ true) × IsLost own base
