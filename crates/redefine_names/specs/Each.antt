-- Faults of some one of a list.
use Rattle.std.specs.Prelude.{List, Contains}
use Rattle.xs_codes.specs.declared.fault.Fault.{Fault}

abbrev pub IsOfSome : {X : Type 0} → (X → Fault → Type 0) → List X → Fault → Type 0
IsOfSome {X} Is xs f = (x : X) × Contains xs x × Is x f
