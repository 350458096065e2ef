-- What is seen of the code's values: the same with lists of bytes in place of vectors.
use Rattle.std.specs.Prelude.{ℕ, List, option_map, Vec}
use Rattle.std.specs.Vec.{vec_items}
use Rattle.std.specs.declared.alloc.Global.{Global}
use Rattle.git_config.specs.declared.files.FoundFile.{FoundFile}
use Rattle.git_config.specs.declared.item.Entry.{Entry}
use Rattle.git_config.specs.declared.item.Item.{Item}
use Rattle.git_config.specs.declared.item.Item.TheVariants.{Section, Sets}

-- the same entry, item or file with other bytes
abbrev pub entry_with : {A B : Type 0} → (A → B) → Entry A → Entry B
entry_with see entry = record { name = see entry.name; value = option_map see entry.value; line = entry.line }

abbrev pub item_with : {A B : Type 0} → (A → B) → Item A → Item B
item_with see (Section prefix) = Section (see prefix)
item_with see (Sets entry) = Sets (entry_with see entry)

abbrev pub seen_entry : Entry (Vec ℕ Global) → Entry (List ℕ)
seen_entry entry = entry_with vec_items entry

abbrev pub found_with : {A B : Type 0} → (A → B) → FoundFile A → FoundFile B
found_with see found = record { bytes = see found.bytes; real_path = see found.real_path }
