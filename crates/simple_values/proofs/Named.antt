-- The names of the built-in types differ.
use Rattle.std.proofs.Common.{◌≡◌, ◌↔◌, ℕ, Bool, true, false, cond, List, [], ◌∷◌, Option, Some, bytes_eq, refl, sym, ap, ◌∙◌}
use Rattle.std.specs.Prelude.{find}
use Rattle.std.proofs.lemmas.Slice.Eq.{bytes_eq-Decides}
use Rattle.xs_codes.specs.declared.builtin.Builtin.{Builtin}
use Rattle.xs_codes.specs.declared.builtin.Builtin.TheVariants as types
use Rattle.simple_values.specs.Builtins.{name_of, named, every}

-- by its own name each type is found
own_name : (kind : Builtin) → named (name_of kind) ≡ Some kind
own_name types.String = refl
own_name types.NormalizedString = refl
own_name types.Token = refl
own_name types.AnyUri = refl
own_name types.AnySimpleType = refl
own_name types.Language = refl
own_name types.Name = refl
own_name types.NmToken = refl
own_name types.NcName = refl
own_name types.Id = refl
own_name types.IdRef = refl
own_name types.NmTokens = refl
own_name types.IdRefs = refl
own_name types.QName = refl
own_name types.Boolean = refl
own_name types.Decimal = refl
own_name types.Integer = refl
own_name types.Byte = refl
own_name types.Short = refl
own_name types.Int = refl
own_name types.Long = refl
own_name types.UnsignedByte = refl
own_name types.UnsignedShort = refl
own_name types.UnsignedInt = refl
own_name types.UnsignedLong = refl
own_name types.NonPositiveInteger = refl
own_name types.NegativeInteger = refl
own_name types.NonNegativeInteger = refl
own_name types.PositiveInteger = refl
own_name types.HexBinary = refl
own_name types.Base64Binary = refl
own_name types.DateTime = refl
own_name types.Date = refl
own_name types.Time = refl
own_name types.GYearMonth = refl
own_name types.GYear = refl
own_name types.GMonthDay = refl
own_name types.GDay = refl
own_name types.GMonth = refl
own_name types.Duration = refl

found_first : (p : Builtin → Bool) (first : Builtin) (kinds : List Builtin) (kind : Builtin) (t : Bool) → p first ≡ t → cond t (Some first) (find p kinds) ≡ Some kind
    → (find p kinds ≡ Some kind → p kind ≡ true) → p kind ≡ true
found_first p first kinds kind true q e f = let h : first ≡ kind = cc in rw (← h) q
found_first p first kinds kind false q e f = f e

-- what is found has the name
found : (p : Builtin → Bool) (kinds : List Builtin) (kind : Builtin) → find p kinds ≡ Some kind → p kind ≡ true
found p [] kind e = cc
found p (first ∷ kinds) kind e = found_first p first kinds kind (p first) refl e (found p kinds kind)

pub named_is : (name : List ℕ) (kind : Builtin) → (named name ≡ Some kind) ↔ (name ≡ name_of kind)
named_is name kind = (
  λ e. sym ((bytes_eq-Decides (name_of kind) name).0 (found (λ k. bytes_eq (name_of k) name) every kind e)),
  λ e. ap named e ∙ own_name kind,
)

pub named_as : (name : List ℕ) (result : Option Builtin) → result ≡ named name → (kind : Builtin) → (result ≡ Some kind) ↔ (name ≡ name_of kind)
named_as name result e kind = (λ h. (named_is name kind).0 (sym e ∙ h), λ h. e ∙ (named_is name kind).1 h)
