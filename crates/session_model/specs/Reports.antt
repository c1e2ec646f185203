-- The record lines of the elements of a document.
use Rattle.std.specs.Prelude.{◌==◌, ℕ, List, [], ◌∷◌, ◌++◌, Bool, not, map, take, filter, length, Option, Some, None}
use Rattle.xs_codes.specs.declared.fault.Found.{Found}
use Rattle.assess_records.specs.declared.record.AttrRecord.{AttrRecord}
use Rattle.assessment.specs.Attribution.{SchemaSet}
use Rattle.assessment.specs.Assessment.{Entry}
use Rattle.report_text.specs.Lines.{element_line, attr_line, records_text}
use Rattle.report_text.specs.Named.{IsNamed, AreNamed as AreAttrsNamed}
use Rattle.session_model.specs.State.{State}

-- a record line, and the codes in it
pub record Line : Type 0 where
  pub text : List ℕ
  pub codes : List Found

abbrev pub has_code : Line → Bool
has_code l = not (length l.codes == 0)

-- one line behind another
abbrev pub lines_text : List Line → List ℕ
lines_text [] = []
lines_text (l ∷ more) = l.text ++ lines_text more

-- of some lines those that are told: each of them; or those that have a code, so many at most
abbrev pub told_lines : Option ℕ → List Line → List Line
told_lines None lines = lines
told_lines (Some most) lines = take most (filter has_code lines)

-- by a schema set
module _ (s : SchemaSet) where
  abbrev pub attr_line_of : ℕ → AttrRecord → Line
  attr_line_of number r = record { text = attr_line s.names s.parts number r; codes = r.codes }

  -- the record line of an element, and those of its attributes
  abbrev pub entry_lines : Entry → List Line
  entry_lines e = record { text = element_line s.names s.parts e.number e.element; codes = e.element.codes } ∷ map (attr_line_of e.number) e.attrs

  -- those of all elements, in document order
  abbrev pub record_lines : List Entry → List Line
  record_lines [] = []
  record_lines (e ∷ more) = entry_lines e ++ record_lines more

  -- the lines of one element and its attributes as one text
  abbrev pub entry_text : Entry → List ℕ
  entry_text e = records_text s.names s.parts e.number e.element e.attrs

  -- the names and types of the records of an element and its attributes are those of the set
  pub record IsEntryNamed (e : Entry) : Type 0 where
    pub element_named : IsNamed s.names s.parts e.element.name e.element.of
    pub attrs_named : AreAttrsNamed s.names s.parts e.attrs

-- the report on the present document: its record lines, or so many at most of those that have a code
abbrev pub report : Option ℕ → State → List ℕ
report most s = lines_text (told_lines most (record_lines s.set s.found))
