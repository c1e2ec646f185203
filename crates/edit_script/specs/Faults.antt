-- The faults of lines.
use Rattle.std.specs.Prelude.{◌≡◌, ℕ, List, Result, Ok, Err, codes}
use Rattle.edit_script.specs.declared.command.ScriptFault.{ScriptFault}
use Rattle.edit_script.specs.declared.command.ScriptFault.TheVariants as faults
use Rattle.edit_script.specs.declared.script.ScriptError.{ScriptError}
use Rattle.edit_script.specs.declared.script.ScriptError.TheVariants as errors

abbrev pub number_of : ScriptFault → ℕ
number_of faults.UnknownCommand = 20
number_of faults.WrongFields = 21
number_of faults.BadNumber = 22
number_of faults.BadEscape = 23
number_of faults.BadBlock = 24

-- as it is printed
abbrev pub name_of : ScriptFault → List ℕ
name_of faults.UnknownCommand = codes "UnknownCommand"
name_of faults.WrongFields = codes "WrongFields"
name_of faults.BadNumber = codes "BadNumber"
name_of faults.BadEscape = codes "BadEscape"
name_of faults.BadBlock = codes "BadBlock"

-- what a function returned is what reading gives, unless memory ran out
abbrev pub Fails : {X : Type 0} → ScriptError → Result X ScriptFault → Type 0
Fails errors.Memory read = Unit {0}
Fails (errors.Refused fault) read = read ≡ Err fault

abbrev pub Gives : {X : Type 0} → Result X ScriptError → Result X ScriptFault → Type 0
Gives (Ok x) read = read ≡ Ok x
Gives (Err e) read = Fails e read
