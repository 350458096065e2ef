-- Lists as plain data.
use Rattle.std.specs.Prelude.{List, map}
use Rattle.gix_glob.specs.declared.search.pattern.list.List as patterns
use Rattle.gix_glob.specs.EntryLists.{EntryList, entry_list_of}

-- no value stands beside their lines
abbrev pub seen : {T X : Type 0} → List (patterns.List T X) → List (EntryList (Unit {0}))
seen lists = map (entry_list_of (λ _. tt)) lists
