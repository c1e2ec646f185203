-- The line that tells of the first broken constraint of a schema set.
use Rattle.std.specs.Prelude.{ℕ, List, [], ◌∷◌, ◌++◌, Bool, nat_eq, codes, if◌then◌else◌}
use Rattle.std.specs.Fmt.{decimal}
use Rattle.std.specs.List.{starts_with}
use Rattle.xs_codes.specs.Codes.{text_of}
use Rattle.xs_codes.specs.declared.code.Code.{Code}
use Rattle.xs_codes.specs.declared.fault.Fault.{Fault}
use Rattle.told.specs.declared.ending.Ending.{Ending}
use Rattle.told.specs.declared.ending.Ending.TheVariants.{SchemaRefused, Limit, Unsupported}

-- the code says that a limit is passed
abbrev pub is_limit_code : Code → Bool
is_limit_code code = starts_with nat_eq (text_of code) (codes "x-limit.")

-- the code says that something is not supported
abbrev pub is_unsupported_code : Code → Bool
is_unsupported_code code = starts_with nat_eq (text_of code) (codes "x-unsupported.")

-- one of three, by the code
abbrev pub by_code : {X : Type 0} → Code → X → X → X → X
by_code code limit unsupported broken = if is_limit_code code then limit else (if is_unsupported_code code then unsupported else broken)

abbrev pub fault_ending : Fault → Ending
fault_ending fault = by_code fault.code Limit Unsupported SchemaRefused

-- the number of the schema section, that of the element in it, and the code
abbrev pub fault_line : Fault → List ℕ
fault_line fault =
    codes "schema " ++ by_code fault.code (codes "limit ") (codes "unsupported ") (codes "refused ")
    ++ decimal fault.document ++ codes " " ++ decimal fault.item ++ codes " " ++ text_of fault.code ++ 10 ∷ []
