-- A known folder is entered: its list, where it has one, is put before the last one.
use Rattle.std.proofs.Common.{◌≡◌, ⊎_elim, ℕ, true, false, List, [], ◌∷◌, ◌++◌, length, map, Option, None, Some, refl, sym, ap, subst, ◌∙◌, append_assoc, length-append, arith}
use Rattle.std.specs.Prelude.{is_some, slice_get, slice_set}
use Rattle.std.specs.List.{flat_map}
use Rattle.std.specs.Option.{option_to_list}
use Rattle.std.proofs.lemmas.Bool.{false≢true}
use Rattle.std.proofs.lemmas.List.{map-append}
use Rattle.gix_glob.specs.EntryLists.{EntryList, entry_list_of}
use Rattle.glob_attributes.specs.Macros.{Definition}
use Rattle.glob_attributes.specs.States.{Assigned, Lists}
use Rattle.glob_attributes.specs.Views.{seen_assignments}
use Rattle.glob_trees.specs.declared.on_way.FolderOnWay.{FolderOnWay}
use Rattle.glob_trees.specs.Known.{FolderNames}
use Rattle.glob_trees.specs.Ways.{Folder, folders_to, start_of}
use Rattle.glob_trees.proofs.lemmas.WayLemmas.{last_same}
use Rattle.tree_commands.specs.declared.check_attr.walk.FoundFolder.{FoundFolder}
use Rattle.tree_commands.specs.CheckAttr.{Asked}
use Rattle.tree_commands.specs.Private.AttributeWays.{AreEntered, IsPlaceOf, PatternList, PutsList, own_lists}
use Rattle.tree_commands.proofs.lemmas.AttributeEntries.{enters_list, enters_none, held_own}
use Rattle.tree_commands.proofs.lemmas.AttributeWalks.{last_cases}

some_file : (file : Option (List ℕ)) → true ≡ is_some file → (bytes : List ℕ) × (file ≡ Some bytes)
some_file None is = absurd (false≢true (sym is))
some_file (Some bytes) is = (bytes, refl)

-- what stands before the last list, and behind it, as plain data
put_lists : (front : List PatternList) (last : PatternList) (more : Lists) (info : EntryList (List Assigned)) (list : PatternList) → map (entry_list_of seen_assignments) (front ++ last ∷ []) ≡ more ++ info ∷ []
    → map (entry_list_of seen_assignments) (front ++ (list ∷ last ∷ [])) ≡ (more ++ entry_list_of seen_assignments list ∷ []) ++ info ∷ []
put_lists front last more info list is =
    let en : PatternList → EntryList (List Assigned) = entry_list_of seen_assignments in
    let same = last_same (map en front) more (en last) info (sym (map-append en front (last ∷ [])) ∙ is) in
    map-append en front (list ∷ last ∷ [])
    ∙ ap (λ ls. ls ++ en list ∷ en last ∷ []) same.0
    ∙ ap (λ l. more ++ en list ∷ l ∷ []) same.1
    ∙ sym (append_assoc more (en list ∷ []) (info ∷ []))

module _ (asked : Asked) (macros : List Definition) (shows : Folder → Option (List ℕ) → Type 0) (info : EntryList (List Assigned)) (lists : List PatternList) (folder : List ℕ) (way : List FolderOnWay) (names : FolderNames) (held : List FoundFolder) (read : List (List ℕ)) (e : AreEntered asked macros shows info (map (entry_list_of seen_assignments) lists) folder way names held read) (place : ℕ) (found : FoundFolder) (is : slice_get held place ≡ Some found) (stands : found.is_there ≡ true) (there : FolderOnWay) (its : there.place ≡ place) where
  file_at : (x : ℕ) (xs : List ℕ) (p : IsPlaceOf e.sights (x ∷ xs) place) → (bytes : List ℕ) × (p.at.file ≡ Some bytes)
  file_at x xs p = let h = e.known.kept place found p.at is p.there in some_file p.at.file (sym stands ∙ h.is_there)

  pub puts_none : (t : Folder) → ¬ (t ≡ []) → IsPlaceOf e.sights t place → folders_to t ≡ folders_to folder → there.length ≡ length (start_of t) → there.has_list ≡ false → found.list ≡ None
      → AreEntered asked macros shows info (map (entry_list_of seen_assignments) lists) (start_of t) (way ++ there ∷ []) names held read
  puts_none [] deep p level long unlisted none = absurd (deep refl)
  puts_none (x ∷ xs) deep p level long unlisted none =
      let file = file_at x xs p in
      enters_none asked macros shows info (map (entry_list_of seen_assignments) lists) folder way names held read e x xs place p level there its long unlisted file.0 file.1
      (sym (held_own asked macros shows info (map (entry_list_of seen_assignments) lists) folder way names held read e x xs place p level found is)
      ∙ ap (λ o. map (entry_list_of seen_assignments) (option_to_list o)) none)

  module _ (more : List PatternList) (now : List FoundFolder) (puts : PutsList place lists more held now) where
    old_is : puts.old ≡ found
    old_is = let same : Some puts.old ≡ Some found = sym puts.there ∙ is in cc

    more_lists : (list : PatternList) → found.list ≡ Some list → map (entry_list_of seen_assignments) more ≡ (flat_map (own_lists asked macros) e.on_way ++ entry_list_of seen_assignments list ∷ []) ++ info ∷ []
    more_lists list some = ⊎_elim
        (λ (none : lists ≡ []). absurd (omega (arith, ap length (sym (ap (map (entry_list_of seen_assignments)) none) ∙ e.standing), length-append (flat_map (own_lists asked macros) e.on_way) (info ∷ []))))
        (λ (any : (init : List PatternList) × (last : PatternList) × (lists ≡ init ++ last ∷ [])).
        ap (map (entry_list_of seen_assignments))
        (puts.put any.0 any.1 any.2 ∙ ap (λ (f : FoundFolder). any.0 ++ (option_to_list f.list ++ any.1 ∷ [])) old_is ∙ ap (λ o. any.0 ++ (option_to_list o ++ any.1 ∷ [])) some)
        ∙ put_lists any.0 any.1 (flat_map (own_lists asked macros) e.on_way) info list (sym (ap (map (entry_list_of seen_assignments)) any.2) ∙ e.standing))
        (last_cases lists)

    pub puts_list : (t : Folder) → ¬ (t ≡ []) → IsPlaceOf e.sights t place → folders_to t ≡ folders_to folder → there.length ≡ length (start_of t) → there.has_list ≡ true → (list : PatternList) → found.list ≡ Some list
        → AreEntered asked macros shows info (map (entry_list_of seen_assignments) more) (start_of t) (way ++ there ∷ []) names now read
    puts_list [] deep p level long listed list some = absurd (deep refl)
    puts_list (x ∷ xs) deep p level long listed list some =
        let file = file_at x xs p in
        let own = own_lists asked macros p.at in
        let holds : own ≡ entry_list_of seen_assignments list ∷ [] =
        sym (held_own asked macros shows info (map (entry_list_of seen_assignments) lists) folder way names held read e x xs place p level found is)
        ∙ ap (λ o. map (entry_list_of seen_assignments) (option_to_list o)) some in
        let here : now ≡ slice_set held place (record { is_there = found.is_there; list = None }) = puts.here ∙ ap (λ (f : FoundFolder). slice_set held place (record { is_there = f.is_there; list = None })) old_is in
        subst (λ h. AreEntered asked macros shows info (map (entry_list_of seen_assignments) more) (start_of (x ∷ xs)) (way ++ there ∷ []) names h read) (sym here)
        (enters_list asked macros shows info (map (entry_list_of seen_assignments) lists) folder way names held read e x xs place p level found is (map (entry_list_of seen_assignments) more) there (entry_list_of seen_assignments list) its long listed file.0 file.1 holds
        (more_lists list some ∙ ap (λ ls. (flat_map (own_lists asked macros) e.on_way ++ ls) ++ info ∷ []) (sym holds)))
