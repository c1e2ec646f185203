-- The first of some faults: the least by document, then item, then the place of the code in the phase.
use Rattle.std.specs.Prelude.{◌≡◌, ℕ, ◌+◌, ◌*◌, ◌==◌, nat_lt, Bool, true, false, if◌then◌else◌, Option, None, Some}
use Rattle.xs_codes.specs.declared.code.Code.{Code}
use Rattle.xs_codes.specs.declared.code.Code.TheVariants.{XLimitValue, XLimitPattern}
use Rattle.xs_codes.specs.declared.fault.Fault.{Fault}
use Rattle.xs_codes.specs.Codes.{order_of}

-- the place of a code among those of phase 5, which tries x-limit.value behind x-limit.pattern
abbrev pub type_place : Code → ℕ
type_place code = if order_of code == order_of XLimitValue then 2 * order_of XLimitPattern + 1 else 2 * order_of code

-- The place of a code among those of a phase. The list of all has each code once, in the phase that tries it first; x-limit.value is
-- tried in phases 1, 5 and 6, and in phase 6 it stands before all others of an element or attribute.
abbrev pub place_in : ℕ → Code → ℕ
place_in phase code = if phase == 5 then type_place code else order_of code

abbrev pub is_before : Fault → Fault → Bool
is_before a b =
    if a.document == b.document
    then (if a.item == b.item then nat_lt (place_in a.phase a.code) (place_in b.phase b.code) else nat_lt a.item b.item)
    else nat_lt a.document b.document

-- the first of two, as far as there are any
abbrev pub sooner : Option Fault → Option Fault → Option Fault
sooner None b = b
sooner (Some first) None = Some first
sooner (Some first) (Some other) = if is_before other first then Some other else Some first

-- one of the faults that there are, before which none of them is; or there are none
abbrev pub IsLeast : (Fault → Type 0) → Option Fault → Type 0
IsLeast Broken None = (f : Fault) → Broken f → ⊥
IsLeast Broken (Some f) = Broken f × ((g : Fault) → Broken g → is_before g f ≡ false)

-- the fault comes before the first that is known, if one is
abbrev pub comes_first : Fault → Option Fault → Bool
comes_first fault None = true
comes_first fault (Some best) = is_before fault best
