-- Faults of complex types: which constraints each breaks, and the first of these.
use Rattle.std.specs.Prelude.{◌≡◌, ℕ, ◌<◌, nat_lt, Bool, true, false, if◌then◌else◌, Option, None, Some, slice_get}
use Rattle.xs_codes.specs.declared.code.Code.{Code}
use Rattle.xs_codes.specs.declared.fault.Fault.{Fault}
use Rattle.xs_codes.specs.Codes.{order_of}
use Rattle.xs_components.specs.Tables.{Tables}
use Rattle.xs_components.specs.declared.common.Place.{Place}
use Rattle.xs_components.specs.declared.complex.ComplexType.{ComplexType}

-- the fault of a code, of a component that is represented there
abbrev pub type_fault : ℕ → Place → Code → Fault
type_fault phase at code = record { phase = phase; document = at.document; item = at.item; code = code }

-- a phase, and the codes of the constraints that the complex type of a number breaks in it
module _ (phase : ℕ) (t : Tables) (Breaks : ℕ → ComplexType → Code → Type 0) where
  -- a fault of the complex type of this number
  abbrev pub IsFaultAt : ℕ → Fault → Type 0
  IsFaultAt n fault = (part : ComplexType) × (code : Code) × (slice_get t.complexes.parts n ≡ Some part) × Breaks n part code × (fault ≡ type_fault phase part.at code)

  -- a fault of some complex type
  abbrev pub IsTypeFault : Fault → Type 0
  IsTypeFault fault = (n : ℕ) × IsFaultAt n fault

-- a code stands before another in the list of all
abbrev pub stands_before : Code → Code → Bool
stands_before code other = nat_lt (order_of code) (order_of other)

-- one of the codes that are broken, before which none of them stands; or none is broken
abbrev pub IsFirstCode : (Code → Type 0) → Option Code → Type 0
IsFirstCode Broken None = (code : Code) → Broken code → ⊥
IsFirstCode Broken (Some code) = Broken code × ((other : Code) → Broken other → stands_before other code ≡ false)

-- ---- for proofs

-- the code of a constraint, if it is broken
abbrev pub when : Bool → Code → Option Code
when broken code = if broken then Some code else None

-- the first of two, as far as there are any
abbrev pub earlier : Option Code → Option Code → Option Code
earlier None b = b
earlier (Some first) None = Some first
earlier (Some first) (Some other) = if stands_before other first then Some other else Some first

-- a fault of one of the first components of a kind
abbrev pub IsBelow : (ℕ → Fault → Type 0) → ℕ → Fault → Type 0
IsBelow Is count fault = (n : ℕ) × (n < count) × Is n fault

-- a fault of one of the first complex types
abbrev pub IsFaultBelow : ℕ → Tables → (ℕ → ComplexType → Code → Type 0) → ℕ → Fault → Type 0
IsFaultBelow phase t Breaks count fault = IsBelow (IsFaultAt phase t Breaks) count fault
