-- What in a pattern is to be refused.
use Rattle.std.specs.Prelude.{ℕ, Bool, ◌||◌, nat_lt, if◌then◌else◌, List, Option, Some, None}
use Rattle.pattern_syntax.specs.declared.fault.PatternFault.{PatternFault}
use Rattle.pattern_syntax.specs.declared.fault.PatternFault.TheVariants.{UnsupportedBlock, UnknownClass}
use Rattle.pattern_syntax.specs.declared.fault.Notes.{Notes}
use Rattle.pattern_syntax.specs.declared.set.CharSet.{CharSet}
use Rattle.pattern_syntax.specs.Names.{set_named, begins_is}

abbrev pub first_of : {A : Type 0} → Option A → Option A → Option A
first_of None b = b
first_of (Some a) b = Some a

-- the fault of a class name of these characters, where it is not accepted
abbrev pub fault_of : Option CharSet → Bool → Option PatternFault
fault_of (Some set) is_block = None
fault_of None is_block = if is_block then Some UnsupportedBlock else Some UnknownClass

abbrev pub name_fault : List ℕ → Option PatternFault
name_fault name = fault_of (set_named name) (begins_is name)

abbrev pub is_large : ℕ → Bool
is_large n = nat_lt 4096 n

abbrev pub with_name : Notes → List ℕ → Notes
with_name noted name = record noted { bad_name = first_of noted.bad_name (name_fault name) }

abbrev pub with_number : Notes → ℕ → Notes
with_number noted n = record noted { too_large = noted.too_large || is_large n }
