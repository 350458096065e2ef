-- The labelled entries of bytes by equation.
use Rattle.std.specs.Prelude.{◌==◌, ℕ, Bool, List, Option, Some}
use Rattle.std.specs.List.{after_first, before_first}
use Rattle.glob_lines.specs.Label.{LabelEntry, tab}
use Rattle.glob_lines.specs.Equations.Entries.{LineContent, entries_of, line_reading}

-- whether a byte is a tab
abbrev pub is_tab : ℕ → Bool
is_tab b = b == tab

-- what a line gives: what stands before its first tab, and what stands after it
abbrev pub label_content : List ℕ → Option (LineContent (List ℕ))
label_content line = Some (record { text = before_first is_tab line; value = after_first is_tab line })

-- the labelled entries of the bytes
abbrev pub label_of : List ℕ → List LabelEntry
label_of bytes = entries_of line_reading label_content bytes
