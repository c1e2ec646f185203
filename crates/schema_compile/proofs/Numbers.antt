-- The faults of each phase have its number.
use Rattle.std.proofs.Common.{◌≡◌, inl, inr, ℕ, Bool, List, ap}
use Rattle.xs_codes.specs.declared.fault.Fault.{Fault}
use Rattle.xs_names.specs.Names.{NameTable}
use Rattle.xs_components.specs.Tables.{Tables}
use Rattle.xs_components.specs.declared.common.TypeId.TheVariants.{Complex}
use Rattle.schema_models.specs.AllLimits.{IsUnlimitedAt, IsUnlimited}
use Rattle.derive_faults.specs.AttrFaults.{IsTypeAt, IsGroupAt, IsAttrFault}
use Rattle.derive_restriction.specs.DerivationFaults.{IsDerivationFault}
use Rattle.redefine_names.specs.declared.pairs.RedefinedPair.{RedefinedPair}
use Rattle.schema_models.specs.SetModels.{IsBroken}
use Rattle.derive_faults.specs.ValueFaults.{IsValueFault}
use Rattle.xpath_subset.specs.Faults.{IsIdentityFault}
use Rattle.schema_compile.specs.Outcomes.{IsPropertyFault}
use Rattle.schema_compile.proofs.Refused.{group-refused, type-refused}

by-record : (f g : Fault) → f ≡ g → f.phase ≡ g.phase
by-record f g e = ap (λ (h : Fault). h.phase) e

-- ---- phase 6, of attributes and value constraints
module _ (t : Tables) where
  value-six : (f : Fault) → IsValueFault t f → f.phase ≡ 6
  value-six f (inl (inl h)) = by-record f _ h.1.2.2
  value-six f (inl (inr (inl h))) = by-record f _ h.1.2.1.2.2
  value-six f (inl (inr (inr h))) = by-record f _ h.1.2.1.2.2
  value-six f (inr h) = by-record f _ h.1.2.2

  module _ (ids : List Bool) where
    type-six : (n : ℕ) (f : Fault) → IsTypeAt t ids n f → f.phase ≡ 6
    type-six n f (l, inl e) = type-refused t (Complex n) f e
    type-six n f (l, inr h) = by-record f _ h.4

    group-six : (n : ℕ) (f : Fault) → IsGroupAt t ids n f → f.phase ≡ 6
    group-six n f (l, inl e) = group-refused t n f e
    group-six n f (l, inr h) = by-record f _ h.4

    attr-six : (f : Fault) → IsAttrFault t ids f → f.phase ≡ 6
    attr-six f (inl h) = type-six h.0 f h.1
    attr-six f (inr h) = group-six h.0 f h.1

    pub property-six : (f : Fault) → IsPropertyFault t ids f → f.phase ≡ 6
    property-six f (inl h) = attr-six f h
    property-six f (inr h) = value-six f h

-- ---- phase 7, of derivation
module _ (t : Tables) where
  unlimited-at-seven : (p : ℕ) (f : Fault) → IsUnlimitedAt t p f → f.phase ≡ 7
  unlimited-at-seven p f (inl (inl h)) = by-record f _ h.3
  unlimited-at-seven p f (inl (inr h)) = by-record f _ h.3
  unlimited-at-seven p f (inr (inl h)) = by-record f _ h.2.2
  unlimited-at-seven p f (inr (inr h)) = by-record f _ h.4.1

  unlimited-seven : (f : Fault) → IsUnlimited t f → f.phase ≡ 7
  unlimited-seven f (p, l, inl (stands, h)) = unlimited-at-seven p f h
  unlimited-seven f (p, l, inr h) = by-record f _ h.2

  pub derivation-seven : (names : NameTable) (pairs : List RedefinedPair) (f : Fault) → IsDerivationFault t names pairs f → f.phase ≡ 7
  derivation-seven names pairs f (inl h) = by-record f _ h.1.4
  derivation-seven names pairs f (inr (inl (inl h))) = by-record f _ h.1.4
  derivation-seven names pairs f (inr (inl (inr h))) = by-record f _ h.2.6
  derivation-seven names pairs f (inr (inr (inl h))) = by-record f _ h.1.5
  derivation-seven names pairs f (inr (inr (inr h))) = unlimited-seven f h

-- ---- phase 8, of content models
pub model-eight : (names : NameTable) (t : Tables) (members : List (List ℕ)) (classes : List ℕ) (f : Fault) → IsBroken names t members classes f → f.phase ≡ 8
model-eight names t members classes f h = by-record f _ h.2.4

-- ---- phase 10, of identity constraints
pub identity-ten : (t : Tables) (f : Fault) → IsIdentityFault t f → f.phase ≡ 10
identity-ten t f (i, c, within, is, inl h) = by-record f _ h.1
identity-ten t f (i, c, within, is, inr (inl h)) = by-record f _ h.4.1
identity-ten t f (i, c, within, is, inr (inr h)) = by-record f _ h.fault_is
