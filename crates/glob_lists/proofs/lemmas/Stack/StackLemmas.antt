-- The rows of the list that is held at a place, and what is decided for the lists of a stack.
use Rattle.std.proofs.Common.{◌≡◌, ℕ, ◌<◌, List, get_or, length, map, Option, refl, subst, arith}
use Rattle.std.proofs.lemmas.List.{length-map}
use Rattle.std.proofs.lemmas.Option.{slice_get_read}
use Rattle.glob_lists.specs.declared.rules.Rules.{Rules}
use Rattle.gix_glob.specs.declared.search.pattern.list.List as patterns
use Rattle.gix_glob.specs.EntryLists.{entry_list_of}
use Rattle.glob_lists.specs.declared.list.rows.ListRows.{ListRows}
use Rattle.glob_lists.specs.Deciding.{Decides}
use Rattle.glob_lists.specs.Matches.{RuledLists}
use Rattle.glob_lists.specs.Paths.{Path}
use Rattle.glob_lists.specs.Private.Lists.Prepared.{AreAllPrepared, AreRowsOf}
use Rattle.glob_lists.proofs.lemmas.Deciding.PairLemmas.{held_there}

module _ {T X V : Type 0} (seen : X → V) (lists : List (patterns.List T X)) (i : ℕ) (held : patterns.List T X) (within : i < length lists) where
  -- the rows of the list that is held at a place
  pub held_rows : (rows : List ListRows) → AreAllPrepared (map (entry_list_of seen) lists) rows → (its : ListRows) → its ≡ get_or rows i its → AreRowsOf (entry_list_of seen (get_or lists i held)) its
  held_rows rows are its read =
      let long = length-map lists (entry_list_of seen) in
      let many = are.many in
      are.each i (entry_list_of seen (get_or lists i held)) its (held_there seen lists i held within) (slice_get_read rows (length rows) i its refl (omega arith) read)

-- what is decided for the lists and the rules that a stack holds is decided for those that contracts see
pub Decides-asked : {T X V : Type 0} (seen : X → V) (held value : RuledLists T X) → held ≡ value → (asked path : Path) (rules : Rules) (pair : Option (ℕ × ℕ)) → asked ≡ path → rules ≡ value.rules
    → Decides (map (entry_list_of seen) held.lists) asked.bytes asked.is_dir rules pair → Decides (map (entry_list_of seen) value.lists) path.bytes path.is_dir value.rules pair
Decides-asked {T} {X} {V} seen held value is asked path rules pair path_is case_is h =
    subst (λ (c : Rules). Decides (map (entry_list_of seen) value.lists) path.bytes path.is_dir c pair) case_is
    (subst (λ (p : Path). Decides (map (entry_list_of seen) value.lists) p.bytes p.is_dir rules pair) path_is
    (subst (λ (stack : RuledLists _ _). Decides (map (entry_list_of seen) stack.lists) asked.bytes asked.is_dir rules pair) is h))
