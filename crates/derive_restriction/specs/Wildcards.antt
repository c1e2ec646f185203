-- The attribute wildcard of a restriction against that of its base (Structures 3.4.6, Derivation Valid (Restriction, Complex), 4).
use Rattle.std.specs.Prelude.{◌≡◌, ◌⊎◌, Bool, true, false, ◌&&◌, not, Option, None, Some}
use Rattle.xs_codes.specs.declared.code.Code.{Code}
use Rattle.xs_codes.specs.declared.code.Code.TheVariants.{DerivationOkRestriction4_1, DerivationOkRestriction4_2, DerivationOkRestriction4_3}
use Rattle.xs_components.specs.Sets.{IsSubset}
use Rattle.xs_components.specs.declared.common.Process.{Process}
use Rattle.xs_components.specs.declared.common.Process.TheVariants.{Strict, Lax, Skip}
use Rattle.xs_components.specs.declared.common.Wildcard.{Wildcard}

-- strict is stronger than lax, and lax than skip
abbrev pub is_weaker : Process → Process → Bool
is_weaker Strict base = false
is_weaker Lax Strict = true
is_weaker Lax Lax = false
is_weaker Lax Skip = false
is_weaker Skip Strict = true
is_weaker Skip Lax = true
is_weaker Skip Skip = false

-- derivation-ok-restriction.4.2: what the wildcard admits is no subset of what that of the base admits.
abbrev pub IsNoSubset : Wildcard → Wildcard → Code → Type 0
IsNoSubset own base code = (IsSubset own.namespaces base.namespaces → ⊥) × (code ≡ DerivationOkRestriction4_2)

-- derivation-ok-restriction.4.3: its processContents is weaker, and the base is not anyType.
abbrev pub IsWeaker : Bool → Wildcard → Wildcard → Code → Type 0
IsWeaker of_any_type own base code = ((is_weaker own.process base.process && not of_any_type) ≡ true) × (code ≡ DerivationOkRestriction4_3)

-- derivation-ok-restriction.4.1: the type has a wildcard, and the base none.
abbrev pub BreaksWildcard : Bool → Option Wildcard → Option Wildcard → Code → Type 0
BreaksWildcard of_any_type None base code = ⊥
BreaksWildcard of_any_type (Some own) None code = code ≡ DerivationOkRestriction4_1
BreaksWildcard of_any_type (Some own) (Some base) code = IsNoSubset own base code ⊎ IsWeaker of_any_type own base code
