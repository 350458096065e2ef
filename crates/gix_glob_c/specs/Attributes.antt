-- Lists of attribute lines that C hands over, and the state that it is told.
use Rattle.std.specs.Prelude.{ℕ, List, [], All, length, map, None, Some, if◌then◌else◌}
use Rattle.std.specs.List.{flat_map, sum_by}
use Rattle.gix_glob.specs.Entries.{Entry}
use Rattle.gix_glob.specs.EntryLists.{EntryList}
use Rattle.glob_lists.specs.declared.rules.Reading.{Reading}
use Rattle.glob_lists.specs.Paths.{Path}
use Rattle.glob_attributes.specs.declared.assignment.State.{State}
use Rattle.glob_attributes.specs.declared.assignment.State.TheVariants.{Set, Unset, Unspecified, Value}
use Rattle.glob_attributes.specs.Borrowed.{assigned_by}
use Rattle.glob_attributes.specs.States.{Assigned}
use Rattle.gix_glob_c.specs.declared.attribute_file.GlobAttributeLine.{GlobAttributeLine}
use Rattle.gix_glob_c.specs.declared.attributes.GlobAttributeList.{GlobAttributeList}
use Rattle.gix_glob_c.specs.declared.paths.GlobPath.{GlobPath}
use Rattle.gix_glob_c.specs.Lists.{names_folder}
use Rattle.gix_glob_c.specs.Parsed.{IsLawful, first_of, mode_of, reading_of_all}

-- the line as an entry, whose value is what its words assign
abbrev pub entry_of_line : GlobAttributeLine → Entry (List Assigned)
entry_of_line line = record {
  text = line.pattern.text.now;
  mode = mode_of line.pattern;
  place = first_of line.pattern;
  value = assigned_by line.words.now;
  number = 0;
}

-- the lines of a list that say something: none where the base is that of no folder
abbrev pub lines_of : GlobAttributeList → List GlobAttributeLine
lines_of list = if names_folder list.base.now then list.lines.now else []

-- the list as plain data
abbrev pub attribute_list : GlobAttributeList → EntryList (List Assigned)
attribute_list list = record { entries = map entry_of_line (lines_of list); source = None; base = Some list.base.now }

-- the parts of each line's pattern make one
abbrev pub IsLawfulAttributes : GlobAttributeList → Type 0
IsLawfulAttributes list = All (λ (line : GlobAttributeLine). IsLawful line.pattern) list.lines.now

-- whose reading counts for the lines of a call: that of the first
abbrev pub reading_of_lines : List GlobAttributeList → Reading
reading_of_lines lists = reading_of_all (flat_map (λ list. map (λ (line : GlobAttributeLine). line.pattern) list.lines.now) lists)

-- how many lines the lists have
abbrev pub line_count : List GlobAttributeList → ℕ
line_count lists = sum_by (λ list. length list.lines.now) lists

abbrev pub path_asked : GlobPath → Path
path_asked path = record { bytes = path.bytes.now; is_dir = path.is_dir }

-- what C is told of a state: its number, and the bytes of a value
abbrev pub told_of : State (List ℕ) → ℕ × List ℕ
told_of Unspecified = (0, [])
told_of Set = (1, [])
told_of Unset = (2, [])
told_of (Value value) = (3, value)
