-- The lists that decide about the entries of a folder, and those whose bases are folders.
use Rattle.std.proofs.Common.{◌≡◌, ◌≢◌, ⊎_elim, inr, ℕ, List, [], ◌∷◌, ◌++◌, length, take, None, Some, map, refl, sym, ap, subst, ◌∙◌, append_assoc, append-nil}
use Rattle.std.proofs.lemmas.List.{length-map, map-append, take-map}
use Rattle.std.proofs.lemmas.List.Elements.{All-append, All-cons, All-nil, All-take}
use Rattle.std.proofs.lemmas.Option.{same_Some}
use Rattle.gix_glob.specs.Bytes.{slash}
use Rattle.gix_glob.specs.declared.search.pattern.list.List as patterns
use Rattle.gix_glob.specs.EntryLists.{EntryList, entry_list_of}
use Rattle.byte_streams.specs.Records.{HasNo}
use Rattle.glob_lists.specs.Deciding.{BasesAreFolders, HasFolder}
use Rattle.glob_trees.specs.Ways.{Folder, base_of_folder, folders_to, start_of, unless_empty, with_entries}
use Rattle.glob_trees.proofs.lemmas.WayLemmas.{folders_other, folders_slash}
use Rattle.glob_trees.proofs.lemmas.WithEntries.{empty_or_not, with_entries_more}
use Rattle.tree_commands.specs.FileTrees.{FileTree}
use Rattle.tree_commands.specs.Files.{Basis, lists_to}
use Rattle.tree_commands.specs.Private.Listing.{seen_lists}

-- ---- the folders on the way

-- the lists before the folder's own: those before all folders, and for another folder than the top those to its path
abbrev pub lists_before : Basis → FileTree → Folder → List (EntryList (Unit {0}))
lists_before basis tree [] = basis.fronts
lists_before basis tree (b ∷ folder) = lists_to basis tree (b ∷ folder)

-- a name adds no folder
pub folders_name : (front name : List ℕ) → HasNo slash name → folders_to (front ++ name) ≡ folders_to front
folders_name front [] none = ap folders_to (append-nil front)
folders_name front (b ∷ name) none =
    ap folders_to (sym (append_assoc front (b ∷ []) name)) ∙ folders_name (front ++ b ∷ []) name none.1 ∙ folders_other front b none.0

module _ (basis : Basis) (tree : FileTree) where
  -- the entries of a folder have the same lists as its start
  pub lists_of_entry : (start name : List ℕ) → HasNo slash name → lists_to basis tree (start ++ name) ≡ lists_to basis tree start
  lists_of_entry start name none = ap (λ (folders : List Folder). basis.fronts ++ with_entries (map tree.list folders)) (folders_name start name none)

  -- behind the lists to a folder stands its own
  pub lists_in : (folder : Folder) → lists_to basis tree (start_of folder) ≡ lists_before basis tree folder ++ unless_empty (tree.list folder)
  lists_in [] = ap (λ (lists : List (EntryList (Unit {0}))). basis.fronts ++ lists) (append-nil (unless_empty (tree.list [])))
  lists_in (b ∷ folder) =
      ap (λ (folders : List Folder). basis.fronts ++ with_entries (map tree.list folders)) (folders_slash b folder)
      ∙ ap (λ (lists : List (EntryList (Unit {0}))). basis.fronts ++ with_entries lists) (map-append tree.list (folders_to (b ∷ folder)) ((b ∷ folder) ∷ []))
      ∙ ap (λ (lists : List (EntryList (Unit {0}))). basis.fronts ++ lists) (with_entries_more (map tree.list (folders_to (b ∷ folder))) (tree.list (b ∷ folder)))
      ∙ sym (append_assoc basis.fronts (with_entries (map tree.list (folders_to (b ∷ folder)))) (unless_empty (tree.list (b ∷ folder))))

  pub lists_before_some : (folder : Folder) → folder ≢ [] → lists_before basis tree folder ≡ lists_to basis tree folder
  lists_before_some [] some = absurd (some refl)
  lists_before_some (b ∷ folder) some = refl

-- ---- bases

none_is_some : {L : Type 0} (list : L) → ¬ (None ≡ Some list)
none_is_some list is = absurd (cc)

module _ {V : Type 0} where
  -- the base of a folder's list is a folder
  pub of_folder : (list : EntryList V) (folder : Folder) → list.base ≡ base_of_folder folder → HasFolder list
  of_folder list [] of = λ base is. absurd (none_is_some base (sym of ∙ is))
  of_folder list (x ∷ xs) of = λ base is. inr (record { front = x ∷ xs; joined = same_Some base ((x ∷ xs) ++ slash ∷ []) (sym is ∙ of) })

  pub bases_taken : (n : ℕ) (lists : List (EntryList V)) → BasesAreFolders lists → BasesAreFolders (take n lists)
  bases_taken n lists folders = All-take HasFolder n lists folders

  pub bases_one : (list : EntryList V) → HasFolder list → BasesAreFolders (list ∷ [])
  bases_one list folder = All-cons HasFolder list [] folder (All-nil HasFolder)

  pub bases_joined : (lists more : List (EntryList V)) → BasesAreFolders lists → BasesAreFolders more → BasesAreFolders (lists ++ more)
  bases_joined lists more left right = All-append HasFolder lists more left right

  -- the list of a folder more, where it has entries
  pub bases_pushed : (lists : List (EntryList V)) (list : EntryList V) (folder : Folder) → BasesAreFolders lists → list.base ≡ base_of_folder folder → BasesAreFolders (lists ++ unless_empty list)
  bases_pushed lists list folder bases of = ⊎_elim
      (λ (none : unless_empty list ≡ []). subst (λ own. BasesAreFolders (lists ++ own)) (sym none) (bases_joined lists [] bases (All-nil HasFolder)))
      (λ (some : unless_empty list ≡ list ∷ []). subst (λ own. BasesAreFolders (lists ++ own)) (sym some) (bases_joined lists (list ∷ []) bases (bases_one list (of_folder list folder of))))
      (empty_or_not list)

-- ---- the list of a folder that was found to have none

pub seen_taken : {T X : Type 0} (n : ℕ) (lists : List (patterns.List T X)) → take n (seen_lists lists) ≡ seen_lists (take n lists)
seen_taken n lists = take-map (entry_list_of (λ _. tt)) n lists

pub seen_length : {T X : Type 0} (lists : List (patterns.List T X)) → length (seen_lists lists) ≡ length lists
seen_length lists = length-map lists (entry_list_of (λ _. tt))

-- lists that were cut are seen cut, and lists that are seen alike are as many
pub seen_cut : {T X : Type 0} (n : ℕ) (lists cut : List (patterns.List T X)) → cut ≡ take n lists → seen_lists cut ≡ take n (seen_lists lists)
seen_cut n lists cut is = ap seen_lists is ∙ sym (seen_taken n lists)

pub seen_as_many : {T X : Type 0} (lists more : List (patterns.List T X)) → seen_lists more ≡ seen_lists lists → length lists ≡ length more
seen_as_many lists more same = sym (seen_length lists) ∙ sym (ap length same) ∙ seen_length more
