-- Sections that entries share, and entries by their places in a text.
use Rattle.std.specs.Prelude.{◌≤◌, ◌==◌, ℕ, ◌+◌, if◌then◌else◌, List, length, Option, Some, None, Vec, option_map, slice_range}
use Rattle.std.specs.declared.alloc.Global.{Global}
use Rattle.git_config.specs.declared.entry_place.EntryPlace.{EntryPlace}
use Rattle.git_config.specs.declared.item.Entry.{Entry}
use Rattle.git_config.specs.declared.section.Section.{Section}
use Rattle.git_config.specs.Configuration.{Seen}
use Rattle.git_config.specs.Items.{seen_entry}

-- the path of its file
abbrev pub file_seen : Section → Option (List ℕ)
file_seen section = option_map (λ path. path.value.items) section.file

-- an entry of a section
abbrev pub seen_in : Section → Entry (Vec ℕ Global) → Seen
seen_in section entry = record { file = file_seen section; section = section.keys.items; entry = seen_entry entry }

-- the value that lies behind a name which ends there
abbrev pub value_placed : List ℕ → ℕ → ℕ → Option (List ℕ)
value_placed text name_end end = if name_end == end then None else Some (slice_range text (name_end + 1) end)

-- the entry that lies at a place
abbrev pub placed : List ℕ → EntryPlace → Seen
placed text p =
    record { file = file_seen p.section.value; section = p.section.value.keys.items; entry = record { name = slice_range text p.start p.name_end; value = value_placed text p.name_end p.end; line = p.line } }

abbrev pub LiesIn : List ℕ → EntryPlace → Type 0
LiesIn text p = (p.start ≤ p.name_end) × (p.name_end ≤ p.end) × (p.end ≤ length text)
