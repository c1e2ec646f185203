-- The refusals of edits.
use Rattle.std.specs.Prelude.{◌≡◌, ℕ, List, Result, Err, codes}
use Rattle.tree_rows.specs.Forest.{Document}
use Rattle.tag_names.specs.declared.fault.NameReason.{NameReason}
use Rattle.tag_names.specs.declared.fault.NameReason.TheVariants as reasons
use Rattle.tree_edits.specs.declared.edit.EditError.{EditError}
use Rattle.tree_edits.specs.declared.edit.EditError.TheVariants as errors

abbrev pub number_of : EditError → ℕ
number_of errors.UnknownNode = 1
number_of errors.NotElement = 2
number_of errors.NotText = 3
number_of errors.RootFixed = 4
number_of errors.BadIndex = 5
number_of errors.BadName = 6
number_of errors.UnboundPrefix = 7
number_of errors.ReservedName = 8
number_of errors.NoSuchAttribute = 9
number_of errors.TooManyNodes = 10
number_of errors.TooDeep = 11
number_of errors.TooManyAttributes = 12
number_of errors.Memory = 13
number_of errors.DoubleAttribute = 15

-- the refusal of an edit by what stands against a name
abbrev pub refusal_of : NameReason → EditError
refusal_of reasons.BadName = errors.BadName
refusal_of reasons.ReservedName = errors.ReservedName
refusal_of reasons.UnboundPrefix = errors.UnboundPrefix
refusal_of reasons.DoubleAttribute = errors.DoubleAttribute
refusal_of reasons.TooManyAttributes = errors.TooManyAttributes

-- as it is printed
abbrev pub name_of : EditError → List ℕ
name_of errors.UnknownNode = codes "UnknownNode"
name_of errors.NotElement = codes "NotElement"
name_of errors.NotText = codes "NotText"
name_of errors.RootFixed = codes "RootFixed"
name_of errors.BadIndex = codes "BadIndex"
name_of errors.BadName = codes "BadName"
name_of errors.UnboundPrefix = codes "UnboundPrefix"
name_of errors.ReservedName = codes "ReservedName"
name_of errors.NoSuchAttribute = codes "NoSuchAttribute"
name_of errors.TooManyNodes = codes "TooManyNodes"
name_of errors.TooDeep = codes "TooDeep"
name_of errors.TooManyAttributes = codes "TooManyAttributes"
name_of errors.Memory = codes "Memory"
name_of errors.DoubleAttribute = codes "DoubleAttribute"

-- an error is want of memory, or the refusal that the edit has
abbrev pub IsWhy : Result Document EditError → EditError → Type 0
IsWhy end errors.UnknownNode = end ≡ Err errors.UnknownNode
IsWhy end errors.NotElement = end ≡ Err errors.NotElement
IsWhy end errors.NotText = end ≡ Err errors.NotText
IsWhy end errors.RootFixed = end ≡ Err errors.RootFixed
IsWhy end errors.BadIndex = end ≡ Err errors.BadIndex
IsWhy end errors.BadName = end ≡ Err errors.BadName
IsWhy end errors.UnboundPrefix = end ≡ Err errors.UnboundPrefix
IsWhy end errors.ReservedName = end ≡ Err errors.ReservedName
IsWhy end errors.NoSuchAttribute = end ≡ Err errors.NoSuchAttribute
IsWhy end errors.TooManyNodes = end ≡ Err errors.TooManyNodes
IsWhy end errors.TooDeep = end ≡ Err errors.TooDeep
IsWhy end errors.TooManyAttributes = end ≡ Err errors.TooManyAttributes
IsWhy end errors.Memory = Unit {0}
IsWhy end errors.DoubleAttribute = end ≡ Err errors.DoubleAttribute
