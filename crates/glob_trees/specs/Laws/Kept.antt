-- A source that always shows the same.
use Rattle.std.specs.Prelude.{◌≡◌}
use Rattle.gix_glob.specs.EntryLists.{EntryList}
use Rattle.glob_trees.specs.Ways.{Folder}

-- of each folder at most one list is shown
abbrev pub ShowsOne : {V : Type 0} → (Folder → EntryList V → Type 0) → Type 0
ShowsOne {V} shows = (folder : Folder) (list other : EntryList V) → shows folder list → shows folder other → list ≡ other
