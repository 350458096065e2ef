-- Lists of which one keeps the entries that are asked for, and which stand only where they have entries: what is told stays.
use Rattle.std.proofs.Common.{◌≡◌, ℕ, suc, List, [], ◌∷◌, ◌++◌, map, Bor, refl, sym, subst, ap, ◌∙◌, append_assoc, arith}
use Rattle.std.specs.Prelude.{All, filter}
use Rattle.std.specs.List.{flat_map}
use Rattle.std.proofs.lemmas.List.Folds.{flat_map-map}
use Rattle.glob_lists.specs.declared.rules.Reading.TheVariants.{Git}
use Rattle.glob_lists.specs.declared.rules.Rules.{Rules}
use Rattle.gix_glob.specs.Entries.{Entry}
use Rattle.gix_glob.specs.EntryLists.{EntryList}
use Rattle.glob_lists.specs.Paths.{Path}
use Rattle.glob_trees.specs.Ways.{Folder, if_any, unless_empty}
use Rattle.glob_attributes.specs.Equations.Files.{attributes_of}
use Rattle.glob_attributes.specs.Macros.{Definition}
use Rattle.glob_attributes.specs.Narrowing.{concerns}
use Rattle.glob_attributes.specs.States.{Assigned, IsAssigned, IsRow, Lists, state_in}
use Rattle.glob_attributes.proofs.lemmas.GivenLemmas.{EntriesGive, ListsGive, given-row, row-given}
use Rattle.glob_attributes.proofs.lemmas.KeptLemmas.{concerns-named, filter-alike, needed, states_kept}
use Rattle.glob_attributes.proofs.lemmas.OneRowLemmas.{assigned-one}
use Rattle.tree_commands.specs.CheckAttr.{Asked, FolderFile, Files, all, files_of, list_in, lists_for_top, lists_to, named, names_alone, told_states}
use Rattle.tree_commands.specs.Private.AttributeWays.{front_lists, kept_list, top_list, top_lists}

-- ---- lists without entries

module _ (path : Path) (rules : Rules) where
  drop_one : (list : EntryList (List Assigned)) (rest : Lists) (own more given : List Assigned) → given ≡ own ++ more → EntriesGive path rules list.base list.entries own → ListsGive path rules rest more
      → (entries : List (Entry (List Assigned))) → list.entries ≡ entries → ListsGive path rules (if_any entries list ++ rest) given
  drop_one list rest own more given is gives after [] none =
      subst (ListsGive path rules rest) (sym (is ∙ ap (λ l. l ++ more) (subst (λ es. EntriesGive path rules list.base es own) none gives))) after
  drop_one list rest own more given is gives after (entry ∷ entries) some = (own, more, is, gives, after)

  dropped : (lists after : Lists) (given : List Assigned) → ListsGive path rules (lists ++ after) given → ListsGive path rules (flat_map unless_empty lists ++ after) given
  dropped [] after given h = h
  dropped (list ∷ lists) after given h =
      subst (λ ls. ListsGive path rules ls given) (sym (append_assoc (unless_empty list) (flat_map unless_empty lists) after))
      (drop_one list (flat_map unless_empty lists ++ after) h.0 h.1 given h.2 h.3 (dropped lists after h.1 h.4) list.entries refl)

  dropped_behind : (front lists after : Lists) (given : List Assigned) → ListsGive path rules (front ++ (lists ++ after)) given → ListsGive path rules (front ++ (flat_map unless_empty lists ++ after)) given
  dropped_behind [] lists after given h = dropped lists after given h
  dropped_behind (list ∷ front) lists after given h = (h.0, h.1, h.2, h.3, dropped_behind front lists after h.1 h.4)

  pub assigned_dropped : (macros : List Definition) (front lists after : Lists) (filled : List Assigned) → IsAssigned (front ++ (lists ++ after)) macros path rules filled
      → IsAssigned (front ++ (flat_map unless_empty lists ++ after)) macros path rules filled
  assigned_dropped macros front lists after filled h =
      let given = given-row (front ++ (lists ++ after)) path rules h.0 h.1 in (
        h.0,
        subst (λ row. IsRow (front ++ (flat_map unless_empty lists ++ after)) path rules row) (sym given.1) (row-given (front ++ (flat_map unless_empty lists ++ after)) path rules given.0 (dropped_behind front lists after given.0 given.2)),
        h.2,
      )

-- ---- lists of which one keeps what some names need

module _ (names : List (Bor (List ℕ))) (macros : List Definition) where
  abbrev narrowed : EntryList (List Assigned) → EntryList (List Assigned)
  narrowed list = record { entries = filter (needed names macros) list.entries; source = list.source; base = list.base }

  abbrev Alike : List Assigned → List Assigned → Type 0
  Alike kept filled = All (λ (name : Bor (List ℕ)). state_in kept name.now ≡ state_in filled name.now) names

  module _ (path : Path) (rules : Rules) where
    assigned_narrowed : (front lists : Lists) (filled : List Assigned) → IsAssigned (front ++ lists) macros path rules filled
        → (kept : List Assigned) × IsAssigned (front ++ map narrowed lists) macros path rules kept × Alike kept filled
    assigned_narrowed front [] filled h = (filled, h, λ k d within. refl)
    assigned_narrowed front (list ∷ lists) filled h =
        let one = states_kept names macros list (filter (needed names macros) list.entries) refl front lists path rules filled h in
        let more = assigned_narrowed (front ++ narrowed list ∷ []) lists one.0 (subst (λ ls. IsAssigned ls macros path rules one.0) (sym (append_assoc front (narrowed list ∷ []) lists)) one.1) in (
          more.0,
          subst (λ ls. IsAssigned ls macros path rules more.0) (append_assoc front (narrowed list ∷ []) (map narrowed lists)) more.1,
          λ k d within. more.2 k d within ∙ one.2 k d within,
        )

  states_alike : (some : List (Bor (List ℕ))) (kept filled : List Assigned) → All (λ (name : Bor (List ℕ)). state_in kept name.now ≡ state_in filled name.now) some
      → (read : List (List ℕ)) → told_states (named (map (λ (name : Bor (List ℕ)). name.now) some)) read kept ≡ told_states (named (map (λ (name : Bor (List ℕ)). name.now) some)) read filled
  states_alike [] kept filled alike read = refl
  states_alike (name ∷ some) kept filled alike read =
      let rest : List Assigned = told_states (named (map (λ (name : Bor (List ℕ)). name.now) some)) read kept in
      let here : Assigned → List Assigned = λ assigned. assigned ∷ rest in
      ap (λ state. here (record { name = name.now; state = state })) (alike 0 name (omega arith))
      ∙ ap (λ states. record { name = name.now; state = state_in filled name.now } ∷ states) (states_alike some kept filled (λ k d within. alike (suc k) d (omega (arith, within))) read)

  -- a file's list keeps the same, whether by the one test or by the other
  narrowed_is_kept : (folder : Folder) (bytes : List ℕ) → narrowed (list_in folder bytes) ≡ kept_list (named (map (λ (name : Bor (List ℕ)). name.now) names)) macros folder bytes
  narrowed_is_kept folder bytes =
      ap (λ entries. record (list_in folder bytes) { entries = entries })
      (filter-alike (needed names macros) (λ entry. concerns (map (λ (name : Bor (List ℕ)). name.now) names) macros entry.value) (λ entry. concerns-named names macros entry.value) (attributes_of Git bytes))

  -- and so does the one for the top
  narrowed_is_top : (bytes : List ℕ) → narrowed (names_alone (list_in [] bytes)) ≡ top_list (named (map (λ (name : Bor (List ℕ)). name.now) names)) macros bytes
  narrowed_is_top bytes =
      ap (λ entries. record (list_in [] bytes) { entries = entries })
      (filter-alike (needed names macros) (λ entry. concerns (map (λ (name : Bor (List ℕ)). name.now) names) macros entry.value) (λ entry. concerns-named names macros entry.value) (names_alone (list_in [] bytes)).entries)

-- ---- the lists to a path

module _ (macros : List Definition) (files : Files) (path : Path) (rules : Rules) where
  abbrev fronts : (Folder → List ℕ → EntryList (List Assigned)) → Lists
  fronts list = list [] files.system ∷ list [] files.user ∷ list [] files.top ∷ []

  abbrev lists_by : (Folder → List ℕ → EntryList (List Assigned)) → List FolderFile → Lists
  lists_by list way = fronts list ++ (map (λ at. list at.0 at.1) way ++ list [] files.info ∷ [])

  -- the same lists, those of folders only where they have entries
  abbrev pub lists_if_any : Asked → List FolderFile → Lists
  lists_if_any asked way = front_lists asked macros files ++ (flat_map (λ at. unless_empty (kept_list asked macros at.0 at.1)) way ++ kept_list asked macros [] files.info ∷ [])

  if_any_behind : (asked : Asked) (way : List FolderFile) (filled : List Assigned) → IsAssigned (lists_by (kept_list asked macros) way) macros path rules filled
      → IsAssigned (lists_if_any asked way) macros path rules filled
  if_any_behind asked way filled h =
      let kept : FolderFile → EntryList (List Assigned) = λ at. kept_list asked macros at.0 at.1 in
      subst (λ ls. IsAssigned (fronts (kept_list asked macros) ++ (ls ++ kept_list asked macros [] files.info ∷ [])) macros path rules filled) (flat_map-map unless_empty kept way)
      (assigned_dropped path rules macros (fronts (kept_list asked macros)) (map kept way) (kept_list asked macros [] files.info ∷ []) filled h)

  module _ (names : List (Bor (List ℕ))) where
    abbrev asked_names : Asked
    asked_names = named (map (λ (name : Bor (List ℕ)). name.now) names)

    abbrev kept : Folder → List ℕ → EntryList (List Assigned)
    kept = kept_list asked_names macros

    way_narrowed : (way : List FolderFile) (after : Lists) → map (narrowed names macros) (map (λ at. list_in at.0 at.1) way ++ after) ≡ map (λ at. kept at.0 at.1) way ++ map (narrowed names macros) after
    way_narrowed [] after = refl
    way_narrowed (at ∷ way) after =
        ap (λ l. l ∷ map (narrowed names macros) (map (λ at. list_in at.0 at.1) way ++ after)) (narrowed_is_kept names macros at.0 at.1)
        ∙ ap (λ ls. kept at.0 at.1 ∷ ls) (way_narrowed way after)

    all_narrowed : (way : List FolderFile) → map (narrowed names macros) (lists_by list_in way) ≡ lists_by kept way
    all_narrowed way =
        let more : Lists = map (narrowed names macros) (map (λ at. list_in at.0 at.1) way ++ list_in [] files.info ∷ []) in
        let n : EntryList (List Assigned) → EntryList (List Assigned) = narrowed names macros in
        ap (λ l. l ∷ n (list_in [] files.user) ∷ n (list_in [] files.top) ∷ more) (narrowed_is_kept names macros [] files.system)
        ∙ ap (λ l. kept [] files.system ∷ l ∷ n (list_in [] files.top) ∷ more) (narrowed_is_kept names macros [] files.user)
        ∙ ap (λ l. kept [] files.system ∷ kept [] files.user ∷ l ∷ more) (narrowed_is_kept names macros [] files.top)
        ∙ ap (λ ls. kept [] files.system ∷ kept [] files.user ∷ kept [] files.top ∷ ls)
        (way_narrowed way (list_in [] files.info ∷ []) ∙ ap (λ l. map (λ at. kept at.0 at.1) way ++ l ∷ []) (narrowed_is_kept names macros [] files.info))

    pub told_same_named : (way : List FolderFile) (filled other : List Assigned) (read : List (List ℕ)) → IsAssigned (lists_to files way) macros path rules filled → IsAssigned (lists_if_any asked_names way) macros path rules other
        → told_states asked_names read other ≡ told_states asked_names read filled
    told_same_named way filled other read full some =
        let one = assigned_narrowed names macros path rules [] (lists_by list_in way) filled full in
        let left = if_any_behind asked_names way one.0 (subst (λ ls. IsAssigned ls macros path rules one.0) (all_narrowed way) one.1) in
        let same = assigned-one (lists_if_any asked_names way) macros path rules other one.0 some left in
        ap (told_states asked_names read) same ∙ states_alike names macros names one.0 filled one.2 read

  pub told_same_all : (way : List FolderFile) (filled other : List Assigned) (read : List (List ℕ)) → IsAssigned (lists_to files way) macros path rules filled → IsAssigned (lists_if_any all way) macros path rules other
      → told_states all read other ≡ told_states all read filled
  told_same_all way filled other read full some =
      ap (told_states all read) (assigned-one (lists_if_any all way) macros path rules other filled some (if_any_behind all way filled full))

  -- ---- the lists for the top

  module _ (names : List (Bor (List ℕ))) where
    abbrev top_names : Asked
    top_names = named (map (λ (name : Bor (List ℕ)). name.now) names)

    tops_narrowed : (bytes : List (List ℕ)) → map (narrowed names macros) (map (λ each. names_alone (list_in [] each)) bytes) ≡ map (top_list top_names macros) bytes
    tops_narrowed [] = refl
    tops_narrowed (each ∷ bytes) =
        ap (λ l. l ∷ map (narrowed names macros) (map (λ each. names_alone (list_in [] each)) bytes)) (narrowed_is_top names macros each)
        ∙ ap (λ ls. top_list top_names macros each ∷ ls) (tops_narrowed bytes)

    pub told_same_top_named : (filled other : List Assigned) (read : List (List ℕ)) → IsAssigned (lists_for_top files) macros path rules filled → IsAssigned (top_lists top_names macros files) macros path rules other
        → told_states top_names read other ≡ told_states top_names read filled
    told_same_top_named filled other read full some =
        let one = assigned_narrowed names macros path rules [] (lists_for_top files) filled full in
        let left = subst (λ ls. IsAssigned ls macros path rules one.0) (tops_narrowed (files_of files)) one.1 in
        let same = assigned-one (top_lists top_names macros files) macros path rules other one.0 some left in
        ap (told_states top_names read) same ∙ states_alike names macros names one.0 filled one.2 read

  pub told_same_top_all : (filled other : List Assigned) (read : List (List ℕ)) → IsAssigned (lists_for_top files) macros path rules filled → IsAssigned (top_lists all macros files) macros path rules other
      → told_states all read other ≡ told_states all read filled
  told_same_top_all filled other read full some = ap (told_states all read) (assigned-one (lists_for_top files) macros path rules other filled some full)
