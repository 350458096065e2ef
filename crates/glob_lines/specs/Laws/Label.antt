-- What plain entries are as labelled ones.
use Rattle.std.specs.Prelude.{[]}
use Rattle.glob_lines.specs.Label.{LabelEntry}
use Rattle.glob_lines.specs.Plain.{PlainEntry}

-- the plain entry, with an empty label
abbrev pub entry_with_empty_label : PlainEntry → LabelEntry
entry_with_empty_label entry = record { text = entry.text; mode = entry.mode; place = entry.place; value = []; number = entry.number }
