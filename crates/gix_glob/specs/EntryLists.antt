-- Lists of patterns as plain data.
use Rattle.std.specs.Prelude.{ℕ, List, map, Option, option_map}
use Rattle.std.specs.String.{string_bytes}
use Rattle.std.specs.Vec.{vec_items}
use Rattle.gix_glob.specs.declared.search.pattern.list.List as patterns
use Rattle.gix_glob.specs.Entries.{Entry, entry_of}

-- what a list of patterns holds: its entries, its source and its base
pub record EntryList (V : Type 0) : Type 0 where
  pub entries : List (Entry V)
  pub source : Option (List ℕ)
  pub base : Option (List ℕ)

-- the list of patterns as plain data, where `seen` is what is seen of a value
abbrev pub entry_list_of : {T X V : Type 0} → (X → V) → patterns.List T X → EntryList V
entry_list_of seen list = record {
  entries = map (entry_of seen) list.patterns.items;
  source = option_map string_bytes list.source;
  base = option_map vec_items list.base;
}
