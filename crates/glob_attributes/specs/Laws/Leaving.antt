-- Lines that are left out, and lists without their entries.
use Rattle.std.specs.Prelude.{◌≡◌, ◌⊎◌, ℕ, true, List, []}
use Rattle.gix_glob.specs.EntryLists.{EntryList}
use Rattle.glob_attributes.specs.declared.line.Silence.{Silence}
use Rattle.glob_attributes.specs.Equations.Files.{AttributeEntry}
use Rattle.glob_attributes.specs.Readings.{line_gives, nothing, silent}
use Rattle.glob_attributes.specs.States.{Assigned}

-- the line says nothing, for a reason or for none
abbrev pub SaysNothing : List ℕ → Type 0
SaysNothing line = (line_gives true line ≡ nothing) ⊎ ((silence : Silence) × (line_gives true line ≡ silent silence))

-- an entry without the number of its line
abbrev pub unnumbered : AttributeEntry → AttributeEntry
unnumbered entry = record { text = entry.text; mode = entry.mode; place = entry.place; value = entry.value; number = 0 }

-- a list without its entries
abbrev pub emptied : EntryList (List Assigned) → EntryList (List Assigned)
emptied list = record { entries = []; source = list.source; base = list.base }
