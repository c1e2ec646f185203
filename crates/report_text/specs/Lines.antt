-- The record lines of an element and of its attributes.
use Rattle.std.specs.Prelude.{ℕ, List, [], ◌∷◌, ◌++◌, Option, codes}
use Rattle.std.specs.Fmt.{decimal}
use Rattle.xs_codes.specs.declared.fault.Found.{Found}
use Rattle.xs_names.specs.Names.{NameTable}
use Rattle.xs_components.specs.Tables.{Tables}
use Rattle.xs_components.specs.declared.common.TypeId.{TypeId}
use Rattle.assess_records.specs.declared.outcome.Validity.{Validity}
use Rattle.assess_records.specs.declared.outcome.Attempted.{Attempted}
use Rattle.assess_records.specs.declared.outcome.ValueSource.{ValueSource}
use Rattle.assess_records.specs.declared.record.AttrRecord.{AttrRecord}
use Rattle.assess_records.specs.declared.record.ElementRecord.{ElementRecord}
use Rattle.report_text.specs.Words.{validity_word, attempted_word, source_word, codes_text, name_text, type_text}

-- validity, how far assessed, where the text comes from, codes
abbrev pub known_text : Validity → Attempted → ValueSource → List Found → List ℕ
known_text validity attempted source found =
    codes " " ++ validity_word validity ++ codes " " ++ attempted_word attempted ++ codes " " ++ source_word source ++ codes " " ++ codes_text found ++ 10 ∷ []

module _ (names : NameTable) (t : Tables) where
  -- name, type, and what is known
  abbrev pub record_text : ℕ → Option TypeId → Validity → Attempted → ValueSource → List Found → List ℕ
  record_text name of validity attempted source found = name_text names name ++ codes " " ++ type_text names t of ++ known_text validity attempted source found

  -- the record line of the element of a number
  abbrev pub element_line : ℕ → ElementRecord → List ℕ
  element_line number r = codes "e " ++ decimal number ++ codes " " ++ record_text r.name r.of r.validity r.attempted r.source r.codes

  -- the record line of an attribute of the element of a number
  abbrev pub attr_line : ℕ → AttrRecord → List ℕ
  attr_line number r = codes "a " ++ decimal number ++ codes " " ++ record_text r.name r.of r.validity r.attempted r.source r.codes

  abbrev pub attr_lines : ℕ → List AttrRecord → List ℕ
  attr_lines number [] = []
  attr_lines number (r ∷ more) = attr_line number r ++ attr_lines number more

  -- the record line of an element, and those of its attributes
  abbrev pub records_text : ℕ → ElementRecord → List AttrRecord → List ℕ
  records_text number r attrs = element_line number r ++ attr_lines number attrs
