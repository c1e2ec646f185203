-- Numbers of types.
use Rattle.std.specs.Prelude.{◌≡◌, ℕ, true}
use Rattle.std.specs.Hash as fed
use mathlib.Core.Path.{refl, ap}
use Rattle.std.proofs.lemmas.Bool.{false≢true, eqb-true}
use Rattle.xs_components.specs.declared.common.TypeId.{TypeId}
use Rattle.xs_components.specs.declared.common.TypeId.TheVariants.{AnyType, Builtin, Simple, Complex}
use Rattle.xs_components.specs.contracts.common.TypeIdPartialEq.TheImpl as types

-- the number of a type of the tables
abbrev pub type_number : TypeId → ℕ
type_number AnyType = 0
type_number (Builtin kind) = 0
type_number (Simple id) = id
type_number (Complex id) = id

-- types that `==` finds the same are hashed alike
pub types_alike : (a b : TypeId) → types.eq-value.it a b ≡ true → fed.u32 (type_number a) ≡ fed.u32 (type_number b)
types_alike AnyType AnyType e = refl
types_alike (Builtin j) (Builtin k) e = refl
types_alike (Simple j) (Simple k) e = ap fed.u32 (eqb-true j k e)
types_alike (Complex j) (Complex k) e = ap fed.u32 (eqb-true j k e)
types_alike a b e = absurd (false≢true e)
