-- What stands against attribute lines, found line by line.
use Rattle.std.specs.Prelude.{List, [], ◌∷◌, ◌++◌, Bool, false, ◌||◌, map}
use Rattle.std.specs.List.{list_any}
use Rattle.tree_rows.specs.Naming.{same_name}
use Rattle.tree_rows.specs.declared.name.Expanded.{Expanded}
use Rattle.tree_rows.specs.declared.row.Binding.{Binding}
use Rattle.tag_names.specs.Faults.{line_is_unbound, repeats_name}
use Rattle.tag_names.specs.Keys.{name_of}
use Rattle.tag_names.specs.Resolving.{is_bad}
use Rattle.tag_names.specs.Tags.{attributes_in}
use Rattle.tag_names.specs.declared.lines.AttributeLine.{AttributeLine}
use Rattle.tag_names.specs.declared.seen.LineFaults.{LineFaults}
use Rattle.tag_names.specs.declared.seen.SeenLines.{SeenLines}

-- a name is among those seen, or comes twice
abbrev pub repeats_after : List Expanded → List Expanded → Bool
repeats_after seen [] = false
repeats_after seen (name ∷ names) = list_any (same_name name) seen || repeats_after (seen ++ name ∷ []) names

-- the names of the attributes among lines
abbrev pub names_from : List Binding → List AttributeLine → List Expanded
names_from scope lines = map (λ a. a.name) (attributes_in scope lines)

-- what stands against the names of lines
abbrev pub line_faults : List Binding → List AttributeLine → LineFaults
line_faults scope lines = record {
  bad = list_any is_bad lines;
  unbound = list_any (line_is_unbound scope) lines;
  double = repeats_name (attributes_in scope lines);
}

-- what stands against those that were seen and those that are left
abbrev pub faults_with : List Binding → SeenLines → List AttributeLine → LineFaults
faults_with scope seen more = record {
  bad = seen.faults.bad || list_any is_bad more;
  unbound = seen.faults.unbound || list_any (line_is_unbound scope) more;
  double = seen.faults.double || repeats_after (map name_of seen.names.keys) (names_from scope more);
}
