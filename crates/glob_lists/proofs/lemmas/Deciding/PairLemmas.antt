-- The list that stands at a place, and the mapping at a pair of places.
use Rattle.std.proofs.Common.{◌≡◌, ℕ, ◌<◌, List, length, get_or, map, Some, sym, subst, ◌∙◌}
use Rattle.std.specs.Prelude.{slice_get}
use Rattle.std.proofs.lemmas.List.{get_or_default}
use Rattle.std.proofs.lemmas.Option.{same_Some}
use Rattle.gix_glob.specs.declared.search.pattern.list.List as patterns
use Rattle.gix_glob.specs.Entries.{Entry, entry_of}
use Rattle.gix_glob.specs.EntryLists.{EntryList, entry_list_of}
use Rattle.gix_glob.proofs.lemmas.Elements.{All-map_at, slice_get-map_at, slice_get-map_within}
use Rattle.glob_lists.specs.Deciding.{BasesAreFolders, HasFolder, IsEntryAt}

module _ {T X V : Type 0} (seen : X → V) (lists : List (patterns.List T X)) (i : ℕ) (held : patterns.List T X) (within : i < length lists) where
  -- it is the one of the entries there
  pub held_there : slice_get (map (entry_list_of seen) lists) i ≡ Some (entry_list_of seen (get_or lists i held))
  held_there = slice_get-map_at (entry_list_of seen) lists i (get_or lists i held) within (get_or_default lists i held (get_or lists i held) within)

  pub held_folder : BasesAreFolders (map (entry_list_of seen) lists) → HasFolder (entry_list_of seen (get_or lists i held))
  held_folder folders = All-map_at (entry_list_of seen) HasFolder lists i (get_or lists i held) folders within (get_or_default lists i held (get_or lists i held) within)

module _ {T X V : Type 0} (seen : X → V) (lists : List (patterns.List T X)) (pair : ℕ × ℕ) (entry : Entry V) (h : IsEntryAt (map (entry_list_of seen) lists) pair entry) where
  pub list_within : pair.0 < length lists
  list_within = slice_get-map_within (entry_list_of seen) lists pair.0 h.list h.of_lists

  module _ (held : patterns.List T X) (is : held ≡ get_or lists pair.0 held) where
    -- the entry is of the list that is held there
    pub held_entry : slice_get (map (entry_of seen) held.patterns.items) pair.1 ≡ Some entry
    held_entry =
        let there = slice_get-map_at (entry_list_of seen) lists pair.0 held list_within is in
        subst (λ (l : EntryList V). slice_get l.entries pair.1 ≡ Some entry) (same_Some h.list (entry_list_of seen held) (sym h.of_lists ∙ there)) h.of_list
