-- What is asked of a session.
use Rattle.std.specs.Prelude.{ℕ, ◌+◌, List, [], ◌∷◌, ◌==◌, Option, Some, None, if◌then◌else◌, length}
use Rattle.assess_records.specs.declared.outcome.Validity.{Validity}
use Rattle.assess_records.specs.declared.outcome.Validity.TheVariants.{NotKnown}
use Rattle.assess_records.specs.declared.record.AttrRecord.{AttrRecord}
use Rattle.assessment.specs.Assessment.{Entry}

-- the entry of a number
abbrev pub entry_at : ℕ → List Entry → Option Entry
entry_at key [] = None
entry_at key (e ∷ more) = if e.number == key then Some e else entry_at key more

-- the number of the first entry
abbrev pub first_number : List Entry → Option ℕ
first_number [] = None
first_number (e ∷ more) = Some e.number

-- the element that comes next in document order after the one of a number; none where that is the last, or no element has the number
abbrev pub number_after : ℕ → List Entry → Option ℕ
number_after key [] = None
number_after key (e ∷ more) = if e.number == key then first_number more else number_after key more

-- how many codes the records of attributes have
abbrev pub attr_total : List AttrRecord → ℕ
attr_total [] = 0
attr_total (r ∷ more) = length r.codes + attr_total more

-- how many codes the records of an element and of its attributes have
abbrev pub entry_total : Entry → ℕ
entry_total e = length e.element.codes + attr_total e.attrs

-- how many codes all records have
abbrev pub code_total : List Entry → ℕ
code_total [] = 0
code_total (e ∷ more) = entry_total e + code_total more

-- [validity] of the root, which is the first element
abbrev pub root_validity : List Entry → Validity
root_validity [] = NotKnown
root_validity (e ∷ more) = e.element.validity
