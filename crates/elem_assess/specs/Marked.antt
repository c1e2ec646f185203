-- Codes of IDs of the validation root, behind the others of its record: Structures 3.3.4, 3.3.5.
use Rattle.std.specs.Prelude.{List, [], ◌∷◌, ◌++◌}
use Rattle.xs_codes.specs.declared.fault.Found.{Found}
use Rattle.assess_records.specs.declared.outcome.Validity.{Validity}
use Rattle.assess_records.specs.declared.outcome.Validity.TheVariants.{Invalid}
use Rattle.assess_records.specs.declared.record.ElementRecord.{ElementRecord}
use Rattle.assess_records.specs.declared.shape.ElementShape.{ElementShape}
use Rattle.elem_assess.specs.declared.records.Judged.{Judged}

-- an element with these codes of IDs
abbrev pub with_ids : List Found → ElementShape → ElementShape
with_ids codes shape = record shape { ids = codes }

-- Structures 3.3.5: an element with a code is invalid
abbrev pub validity_with : List Found → Validity → Validity
validity_with [] validity = validity
validity_with (code ∷ codes) validity = Invalid

abbrev pub marked_record : List Found → ElementRecord → ElementRecord
marked_record codes r = record r { validity = validity_with codes r.validity; codes = r.codes ++ codes }

abbrev pub marked_judged : List Found → Judged → Judged
marked_judged codes judged = record judged { element = marked_record codes judged.element }
