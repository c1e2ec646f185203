-- How the lines of a report are told, one after another.
use Rattle.std.specs.Prelude.{◌==◌, ◌&&◌, ◌-◌, ℕ, List, [], ◌∷◌, Bool, true, not, length, map, Option, Some, None, if◌then◌else◌}
use Rattle.xs_codes.specs.declared.fault.Found.{Found}
use Rattle.assess_records.specs.declared.record.AttrRecord.{AttrRecord}
use Rattle.assess_records.specs.declared.record.ElementRecord.{ElementRecord}
use Rattle.assessment.specs.Attribution.{SchemaSet}
use Rattle.report_text.specs.Lines.{element_line}
use Rattle.session_model.specs.Reports.{Line, lines_text, told_lines, attr_line_of}

-- whether a line with these codes is told, where so many more may be
abbrev pub is_told : Option ℕ → List Found → Bool
is_told None codes = true
is_told (Some most) codes = not (length codes == 0) && not (most == 0)

abbrev pub told_text : Option ℕ → Line → List ℕ
told_text left l = if is_told left l.codes then l.text else []

-- how many more may be behind it
abbrev pub left_behind : Option ℕ → List Found → Option ℕ
left_behind None codes = None
left_behind (Some most) codes = if not (length codes == 0) && not (most == 0) then Some (most - 1) else Some most

-- behind some lines
abbrev pub left_all : Option ℕ → List Line → Option ℕ
left_all left [] = left
left_all left (l ∷ more) = left_all (left_behind left l.codes) more

-- what is told of lines
abbrev pub text_of : Option ℕ → List Line → List ℕ
text_of left lines = lines_text (told_lines left lines)

module _ (s : SchemaSet) where
  abbrev pub element_line_of : ℕ → ElementRecord → Line
  element_line_of number r = record { text = element_line s.names s.parts number r; codes = r.codes }

  -- the lines of an element and its attributes
  abbrev pub lines_of : ℕ → ElementRecord → List AttrRecord → List Line
  lines_of number r attrs = element_line_of number r ∷ map (attr_line_of s number) attrs
