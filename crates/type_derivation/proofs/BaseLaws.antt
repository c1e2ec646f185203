-- Steps of derivation go lower; what is simple is derived from what is simple, or from anyType.
use Rattle.std.proofs.Common.{◌≡◌, ℕ, ◌<◌, ◌⊎◌, inl, inr, [], Bool, true, false, Option, None, Some, slice_get, refl, sym, arith}
use Rattle.std.specs.Prelude.{All, IfSome, if◌then◌else◌}
use Rattle.std.specs.Option.{option_and_then}
use Rattle.std.proofs.lemmas.Bool.{true≢false}
use Rattle.std.proofs.lemmas.List.Elements.{All-head}
use Rattle.xs_codes.specs.declared.builtin.Builtin.{Builtin as Built}
use Rattle.xs_codes.specs.declared.builtin.Builtin.TheVariants as built
use Rattle.xs_components.specs.Tables.{Tables}
use Rattle.xs_components.specs.declared.common.Methods.{Methods}
use Rattle.xs_components.specs.declared.common.TypeId.{TypeId}
use Rattle.xs_components.specs.declared.common.TypeId.TheVariants.{AnyType, Builtin, Simple, Complex}
use Rattle.xs_components.specs.declared.complex.ComplexType.{ComplexType}
use Rattle.xs_components.specs.declared.simple.SimpleForm.{SimpleForm}
use Rattle.xs_components.specs.declared.simple.SimpleForm.TheVariants.{Restrict, ListOf, UnionOf}
use Rattle.xs_components.specs.declared.simple.SimpleType.{SimpleType}
use Rattle.component_references.specs.Heights.{builtin_height, type_height, IsLower}
use Rattle.component_references.specs.Ranked.{named_types, IsRanked}
use Rattle.type_derivation.specs.Derives.{above, above_complex, unless, builtin_base, simple_base, is_simple}
use Rattle.type_derivation.specs.Within.{AreSimple}

module _ (t : Tables) where
  -- the base of a built-in type
  builtin-lower : (b : Built) → IsLower t (builtin_height b) (builtin_base b)
  builtin-lower built.String = record { there = tt; lower = omega arith }
  builtin-lower built.NormalizedString = record { there = tt; lower = omega arith }
  builtin-lower built.Token = record { there = tt; lower = omega arith }
  builtin-lower built.AnyUri = record { there = tt; lower = omega arith }
  builtin-lower built.AnySimpleType = record { there = tt; lower = omega arith }
  builtin-lower built.Language = record { there = tt; lower = omega arith }
  builtin-lower built.Name = record { there = tt; lower = omega arith }
  builtin-lower built.NmToken = record { there = tt; lower = omega arith }
  builtin-lower built.NcName = record { there = tt; lower = omega arith }
  builtin-lower built.Id = record { there = tt; lower = omega arith }
  builtin-lower built.IdRef = record { there = tt; lower = omega arith }
  builtin-lower built.NmTokens = record { there = tt; lower = omega arith }
  builtin-lower built.IdRefs = record { there = tt; lower = omega arith }
  builtin-lower built.QName = record { there = tt; lower = omega arith }
  builtin-lower built.Boolean = record { there = tt; lower = omega arith }
  builtin-lower built.Decimal = record { there = tt; lower = omega arith }
  builtin-lower built.Integer = record { there = tt; lower = omega arith }
  builtin-lower built.Byte = record { there = tt; lower = omega arith }
  builtin-lower built.Short = record { there = tt; lower = omega arith }
  builtin-lower built.Int = record { there = tt; lower = omega arith }
  builtin-lower built.Long = record { there = tt; lower = omega arith }
  builtin-lower built.UnsignedByte = record { there = tt; lower = omega arith }
  builtin-lower built.UnsignedShort = record { there = tt; lower = omega arith }
  builtin-lower built.UnsignedInt = record { there = tt; lower = omega arith }
  builtin-lower built.UnsignedLong = record { there = tt; lower = omega arith }
  builtin-lower built.NonPositiveInteger = record { there = tt; lower = omega arith }
  builtin-lower built.NegativeInteger = record { there = tt; lower = omega arith }
  builtin-lower built.NonNegativeInteger = record { there = tt; lower = omega arith }
  builtin-lower built.PositiveInteger = record { there = tt; lower = omega arith }
  builtin-lower built.HexBinary = record { there = tt; lower = omega arith }
  builtin-lower built.Base64Binary = record { there = tt; lower = omega arith }
  builtin-lower built.DateTime = record { there = tt; lower = omega arith }
  builtin-lower built.Date = record { there = tt; lower = omega arith }
  builtin-lower built.Time = record { there = tt; lower = omega arith }
  builtin-lower built.GYearMonth = record { there = tt; lower = omega arith }
  builtin-lower built.GYear = record { there = tt; lower = omega arith }
  builtin-lower built.GMonthDay = record { there = tt; lower = omega arith }
  builtin-lower built.GDay = record { there = tt; lower = omega arith }
  builtin-lower built.GMonth = record { there = tt; lower = omega arith }
  builtin-lower built.Duration = record { there = tt; lower = omega arith }

  form-lower : (height : ℕ) (form : SimpleForm) → 1 < height → All (IsLower t height) (named_types form) → IsLower t height (simple_base form)
  form-lower height (Restrict base step) h all = All-head (IsLower t height) base [] all
  form-lower height (ListOf item) h all = record { there = tt; lower = h }
  form-lower height (UnionOf members) h all = record { there = tt; lower = h }

  unless-lower : (excluded : Bool) (height : ℕ) (x : TypeId) → IsLower t height x → IfSome (unless excluded x) (IsLower t height)
  unless-lower true height x low = tt
  unless-lower false height x low = low

  complex-lower : (excluded : Methods) (height : ℕ) (part : ComplexType) → IsLower t height part.base → IfSome (above_complex excluded part) (IsLower t height)
  complex-lower excluded height part low = of part.by_extension
    where
      of : (b : Bool) → IfSome (if b then unless excluded.extension part.base else unless excluded.restriction part.base) (IsLower t height)
      of true = unless-lower excluded.extension height part.base low
      of false = unless-lower excluded.restriction height part.base low

  -- a base is lower
  pub above-lower : IsRanked t → (excluded : Methods) (x : TypeId) → IfSome (above t excluded x) (IsLower t (type_height t x))
  above-lower ranked excluded AnyType = tt
  above-lower ranked excluded (Builtin b) = unless-lower excluded.restriction (builtin_height b) (builtin_base b) (builtin-lower b)
  above-lower ranked excluded (Simple id) = of (slice_get t.simples.parts id) refl
    where
      of : (o : Option SimpleType) → slice_get t.simples.parts id ≡ o → IfSome (option_and_then (λ part. unless excluded.restriction (simple_base part.form)) o) (IsLower t (type_height t (Simple id)))
      of None e = tt
      of (Some part) e = unless-lower excluded.restriction (type_height t (Simple id)) (simple_base part.form) (form-lower (type_height t (Simple id)) part.form (omega arith) (ranked.simples id part e))
  above-lower ranked excluded (Complex id) = of (slice_get t.complexes.parts id) refl
    where
      of : (o : Option ComplexType) → slice_get t.complexes.parts id ≡ o → IfSome (option_and_then (above_complex excluded) o) (IsLower t (type_height t (Complex id)))
      of None e = tt
      of (Some part) e = complex-lower excluded (type_height t (Complex id)) part (ranked.complexes id part e)

  -- a type is simple, or anyType
  abbrev pub Plain : TypeId → Type 0
  Plain x = (is_simple x ≡ true) ⊎ (x ≡ AnyType)

  form-simple : (form : SimpleForm) → All (λ x. is_simple x ≡ true) (named_types form) → Plain (simple_base form)
  form-simple (Restrict base step) h = inl (All-head (λ x. is_simple x ≡ true) base [] h)
  form-simple (ListOf item) h = inl refl
  form-simple (UnionOf members) h = inl refl

  builtin-simple : (b : Built) → Plain (builtin_base b)
  builtin-simple built.AnySimpleType = inr refl
  builtin-simple built.String = inl refl
  builtin-simple built.NormalizedString = inl refl
  builtin-simple built.Token = inl refl
  builtin-simple built.AnyUri = inl refl
  builtin-simple built.Language = inl refl
  builtin-simple built.Name = inl refl
  builtin-simple built.NmToken = inl refl
  builtin-simple built.NcName = inl refl
  builtin-simple built.Id = inl refl
  builtin-simple built.IdRef = inl refl
  builtin-simple built.NmTokens = inl refl
  builtin-simple built.IdRefs = inl refl
  builtin-simple built.QName = inl refl
  builtin-simple built.Boolean = inl refl
  builtin-simple built.Decimal = inl refl
  builtin-simple built.Integer = inl refl
  builtin-simple built.Byte = inl refl
  builtin-simple built.Short = inl refl
  builtin-simple built.Int = inl refl
  builtin-simple built.Long = inl refl
  builtin-simple built.UnsignedByte = inl refl
  builtin-simple built.UnsignedShort = inl refl
  builtin-simple built.UnsignedInt = inl refl
  builtin-simple built.UnsignedLong = inl refl
  builtin-simple built.NonPositiveInteger = inl refl
  builtin-simple built.NegativeInteger = inl refl
  builtin-simple built.NonNegativeInteger = inl refl
  builtin-simple built.PositiveInteger = inl refl
  builtin-simple built.HexBinary = inl refl
  builtin-simple built.Base64Binary = inl refl
  builtin-simple built.DateTime = inl refl
  builtin-simple built.Date = inl refl
  builtin-simple built.Time = inl refl
  builtin-simple built.GYearMonth = inl refl
  builtin-simple built.GYear = inl refl
  builtin-simple built.GMonthDay = inl refl
  builtin-simple built.GDay = inl refl
  builtin-simple built.GMonth = inl refl
  builtin-simple built.Duration = inl refl

  unless-simple : (excluded : Bool) (x : TypeId) → Plain x → IfSome (unless excluded x) Plain
  unless-simple true x plain = tt
  unless-simple false x plain = plain

  -- the base of a simple type
  pub above-simple : AreSimple t → (excluded : Methods) (x : TypeId) → is_simple x ≡ true → IfSome (above t excluded x) Plain
  above-simple simple excluded AnyType plain = absurd (true≢false (sym plain))
  above-simple simple excluded (Complex id) plain = absurd (true≢false (sym plain))
  above-simple simple excluded (Builtin b) plain = unless-simple excluded.restriction (builtin_base b) (builtin-simple b)
  above-simple simple excluded (Simple id) plain = of (slice_get t.simples.parts id) refl
    where
      of : (o : Option SimpleType) → slice_get t.simples.parts id ≡ o → IfSome (option_and_then (λ part. unless excluded.restriction (simple_base part.form)) o) Plain
      of None e = tt
      of (Some part) e = unless-simple excluded.restriction (simple_base part.form) (form-simple part.form (simple.named id part e))
