-- Ignore files, one after the other.
use Rattle.std.proofs.Common.{◌≡◌, ◌↔◌, inl, inr, ⊎_elim, ℕ, ◌<◌, Bool, true, false, eqb, List, [], ◌∷◌, ◌++◌, length, get_or, map, Option, Some, refl, sym, ap, subst, ◌∙◌}
use Rattle.std.specs.Prelude.{MatchBool}
use Rattle.std.specs.List.{list_all}
use Rattle.std.proofs.lemmas.List.{get_or-map, length-map, map_push}
use Rattle.std.proofs.lemmas.List.Elements.{All-cons, All-nil}
use Rattle.std.proofs.lemmas.List.Folds.{list_all-map}
use Rattle.std.proofs.lemmas.List.Sums.{AllPass-from_list_all}
use Rattle.gix_glob.specs.Bytes.{EndsInSlash}
use Rattle.glob_lists.specs.Deciding.{BasesAreFolders, HasFolder}
use Rattle.gix_glob.specs.declared.search.pattern.list.List as patterns
use Rattle.gix_glob.specs.EntryLists.{EntryList, entry_list_of}
use Rattle.gix_glob.specs.Loading.{AddsLoadedList, IsLoaded}
use Rattle.gix_glob.specs.Paths.{Base, has_file_part}
use Rattle.glob_lines.specs.Ignore.{Ignore}
use Rattle.glob_lines.specs.Equations.Ignore.{ignore_of}
use Rattle.glob_lines.specs.Plain.{PlainEntry}
use Rattle.globline.specs.Words.{AreIgnoreLists, IsIgnoreList, are_files}

abbrev pub IgnoreList : Type 0
IgnoreList = EntryList (Unit {0})

-- ---- what the laws say

-- the law `bases_end_in_a_slash`, restated: a lemma can't cite a clause
abbrev pub BasesEndInASlash : Type 0
BasesEndInASlash = (source : List ℕ) (root : Option (List ℕ)) (base : List ℕ) → Base source root (Some base) → EndsInSlash base

-- the law `ignore_entries_are_these`, restated: a lemma can't cite a clause
abbrev pub IgnoreEntriesAreThese : Type 0
IgnoreEntriesAreThese = (bytes : List ℕ) (entries : List PlainEntry) → Ignore bytes entries ↔ (entries ≡ ignore_of bytes)

-- what was loaded by the parser of ignore lines is what its bytes mean
pub is_ignore_list : (law : IgnoreEntriesAreThese) (bytes file source : List ℕ) (root : Option (List ℕ)) (list : IgnoreList) → source ≡ file
    → IsLoaded (λ bytes _. ignore_of bytes) bytes source root list → IsIgnoreList bytes file root list
is_ignore_list law bytes file source root list same loaded = record {
  means = (law bytes list.entries).1 loaded.means;
  named = loaded.named ∙ ap Some same;
  based = subst (λ s. Base s root list.base) same loaded.based;
}

-- the base of an ignore list is that of a folder
has_folder : (law : BasesEndInASlash) (bytes file : List ℕ) (root : Option (List ℕ)) (list : IgnoreList) → IsIgnoreList bytes file root list → HasFolder list
has_folder law bytes file root list is base named = inr (law file root base (subst (Base file root) named is.based))

pub bases_are_folders : (law : BasesEndInASlash) (root : Option (List ℕ)) (files : List (List ℕ)) (lists : List IgnoreList) → AreIgnoreLists root files lists → BasesAreFolders lists
bases_are_folders law root [] lists none = subst (λ (l : List IgnoreList). BasesAreFolders l) (sym none) (All-nil HasFolder)
bases_are_folders law root (file ∷ files) lists are =
    ⊎_elim (λ (passed : AreIgnoreLists root files lists). bases_are_folders law root files lists passed)
    (λ (given : (bytes : List ℕ) × (list : IgnoreList) × (more : List IgnoreList) × (lists ≡ list ∷ more) × IsIgnoreList bytes file root list × AreIgnoreLists root files more).
    subst (λ (l : List IgnoreList). BasesAreFolders l) (sym given.3)
    (All-cons HasFolder given.1 given.2 (has_folder law given.0 file root given.1 given.4) (bases_are_folders law root files given.2 given.5)))
    are

-- ---- one file more

module _ (root : Option (List ℕ)) (file : List ℕ) where
  -- which gave no list
  pub one_more_missing : (files : List (List ℕ)) (lists : List IgnoreList) → AreIgnoreLists root files lists → AreIgnoreLists root (files ++ file ∷ []) lists
  one_more_missing [] lists none = inl none
  one_more_missing (first ∷ files) lists are =
      ⊎_elim (λ (passed : AreIgnoreLists root files lists). inl (one_more_missing files lists passed))
      (λ (given : (bytes : List ℕ) × (list : IgnoreList) × (more : List IgnoreList) × (lists ≡ list ∷ more) × IsIgnoreList bytes first root list × AreIgnoreLists root files more).
      inr (given.0, given.1, given.2, given.3, given.4, one_more_missing files given.2 given.5))
      are

  -- which gave a list
  pub one_more_list : (files : List (List ℕ)) (lists : List IgnoreList) (bytes : List ℕ) (list : IgnoreList) → AreIgnoreLists root files lists → IsIgnoreList bytes file root list
      → AreIgnoreLists root (files ++ file ∷ []) (lists ++ list ∷ [])
  one_more_list [] lists bytes list none is = inr (bytes, list, [], ap (λ l. l ++ list ∷ []) none, is, refl)
  one_more_list (first ∷ files) lists bytes list are is =
      ⊎_elim (λ (passed : AreIgnoreLists root files lists). inl (one_more_list files lists bytes list passed is))
      (λ (given : (bytes : List ℕ) × (list : IgnoreList) × (more : List IgnoreList) × (lists ≡ list ∷ more) × IsIgnoreList bytes first root list × AreIgnoreLists root files more).
      inr (given.0, given.1, given.2 ++ list ∷ [], ap (λ l. l ++ list ∷ []) given.3, given.4, one_more_list files given.2 bytes list given.5 is))
      are

-- what a file that was asked for did to the lists
pub one_more_file : {T X : Type 0} (law : IgnoreEntriesAreThese) (seen : X → Unit {0}) (is_added : Bool) (bytes file source : List ℕ) (root : Option (List ℕ)) (files : List (List ℕ)) (old new : List (patterns.List T X))
    → source ≡ file → AreIgnoreLists root files (map (entry_list_of seen) old)
    → MatchBool is_added (AddsLoadedList seen (λ bytes _. ignore_of bytes) bytes source root old new) (new ≡ old) → AreIgnoreLists root (files ++ file ∷ []) (map (entry_list_of seen) new)
one_more_file law seen true bytes file source root files old new same are adds =
    subst (AreIgnoreLists root (files ++ file ∷ [])) (sym (ap (map (entry_list_of seen)) adds.grown ∙ map_push (entry_list_of seen) old adds.list))
    (one_more_list root file files (map (entry_list_of seen) old) bytes (entry_list_of seen adds.list) are (is_ignore_list law bytes file source root (entry_list_of seen adds.list) same adds.loaded))
one_more_file law seen false bytes file source root files old new same are kept =
    subst (AreIgnoreLists root (files ++ file ∷ [])) (sym (ap (map (entry_list_of seen)) kept)) (one_more_missing root file files (map (entry_list_of seen) old) are)

-- ---- each of the files can be one

all_of_files : (files : List (List ℕ)) → are_files files ≡ true → list_all has_file_part files ≡ true
all_of_files [] are = absurd (cc)
all_of_files (file ∷ files) are = are

pub file_at : {X : Type 0} (text : X → List ℕ) (files : List X) (i : ℕ) (file : X) → are_files (map text files) ≡ true → i < length files → file ≡ get_or files i file → has_file_part (text file) ≡ true
file_at text files i file are within is =
    subst (λ t. has_file_part t ≡ true) (get_or-map text files i file (text file) within ∙ ap text (sym is))
    (AllPass-from_list_all has_file_part (map text files) (all_of_files (map text files) are) i (text file) (subst (λ n. i < n) (sym (length-map files text)) within))

pub are_files_is : {X : Type 0} (text : X → List ℕ) (files : List X) (empty : Bool) → empty ≡ eqb (length files) 0 → empty ≡ false
    → list_all (λ file. has_file_part (text file)) files ≡ are_files (map text files)
are_files_is text [] empty is some = absurd (cc)
are_files_is text (file ∷ files) empty is some = sym (list_all-map has_file_part text (file ∷ files))
