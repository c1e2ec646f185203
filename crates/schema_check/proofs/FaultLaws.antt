-- Where no fault is found, names stand once and references resolve.
use Rattle.std.proofs.Common.{◌≡◌, inl, ℕ, zero, suc, Bool, true, false, not, List, None, Some, Contains, slice_get, refl, arith}
use Rattle.xs_codes.specs.declared.code.Code.{Code}
use Rattle.xs_codes.specs.declared.code.Code.TheVariants.{SchPropsCorrect2, NoXmlns, NoXsi, SrcResolve}
use Rattle.xs_names.specs.Names.{NameTable}
use Rattle.xs_codes.specs.Least.{IsLeast}
use Rattle.representations.specs.declared.parts.Representation.{Representation}
use Rattle.representations.specs.Names.{spaces_of}
use Rattle.representations.specs.declared.origins.Origin.{Origin}
use Rattle.reference_faults.specs.Attributes.{attribute_name, is_xmlns, is_xsi}
use Rattle.reference_faults.specs.Doubles.{is_double}
use Rattle.reference_faults.specs.Faults.{IsBroken, name_fault, code_if, codes_of, is_lost}
use Rattle.reference_faults.specs.Imports.{origin_at}
use Rattle.reference_faults.specs.Resolution.{kinds_of}
use Rattle.schema_check.specs.Resolved.{AreResolved, are_found}

-- a code that is broken is among the codes
code-now : (broken : Bool) (code : Code) (others : List Code) → broken ≡ true → Contains (code_if broken code others) code
code-now true code others is = (zero, omega arith, refl)
code-now false code others is = absurd (cc)

code-later : (broken : Bool) (code other : Code) (others : List Code) → Contains others other → Contains (code_if broken code others) other
code-later true code other others at = (suc at.0, omega (arith, at.1), at.2)
code-later false code other others at = at

-- what is not true is false
false-from : (b : Bool) → (b ≡ true → ⊥) → b ≡ false
false-from true never = absurd (never refl)
false-from false never = refl

true-from : (b : Bool) → (not b ≡ true → ⊥) → b ≡ true
true-from true never = refl
true-from false never = absurd (never refl)

module _ (t : NameTable) (origins : List Origin) (reps : List Representation) (none : IsLeast (IsBroken t origins reps) None) where
  module _ (place : ℕ) (rep : Representation) (at : slice_get reps place ≡ Some rep) where
    abbrev codes : List Code
    codes = codes_of t (spaces_of reps) (kinds_of reps) (origin_at origins place) place rep.form

    not-among : (code : Code) → Contains codes code → ⊥
    not-among code among = none (name_fault rep.at code) (inl (place, rep, code, at, among, refl))

    stands-once : is_double (spaces_of reps) place ≡ false
    stands-once = false-from (is_double (spaces_of reps) place)
        (λ twice. not-among SchPropsCorrect2 (code-now (is_double (spaces_of reps) place) SchPropsCorrect2 _ twice))

    all-found : are_found reps rep.form ≡ true
    all-found = true-from (are_found reps rep.form)
        (λ lost. not-among SrcResolve
        (code-later (is_double (spaces_of reps) place) SchPropsCorrect2 SrcResolve _
        (code-later (is_xmlns t (attribute_name rep.form)) NoXmlns SrcResolve _
        (code-later (is_xsi t (attribute_name rep.form)) NoXsi SrcResolve _
        (code-now (is_lost t (spaces_of reps) (kinds_of reps) rep.form) SrcResolve _ lost)))))

  pub are-resolved : AreResolved reps
  are-resolved = record { once = stands-once; found = all-found }
