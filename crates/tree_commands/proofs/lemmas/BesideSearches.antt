-- Searches that say whether all is ignored in a folder.
use Rattle.std.proofs.Common.{◌≡◌, ◌≢◌, inl, inr, ⊎_elim, ℕ, Bool, true, false, List, [], refl, sym, ap, subst, ◌∙◌}
use Rattle.std.specs.Prelude.{◌↔◌, IsTrue, not}
use Rattle.std.proofs.lemmas.Bool.{false≢true}
use Rattle.gix_glob.specs.EntryLists.{EntryList}
use Rattle.glob_trees.specs.Ways.{Folder, GivesOnly, start_of}
use Rattle.tree_commands.specs.declared.files.choosing.Chosen.{Chosen}
use Rattle.tree_commands.specs.declared.files.choosing.Chosen.TheVariants.{Ignored, Unignored}
use Rattle.tree_commands.specs.declared.files.choosing.Folders.{Folders}
use Rattle.tree_commands.specs.declared.files.choosing.Folders.TheVariants.{Entered, EnteredUnlessFilled, NamedIfAllIgnored, NamedIfEmpty}
use Rattle.tree_commands.specs.declared.files.pending.Pending.{Pending}
use Rattle.tree_commands.specs.FileTrees.{FileTree}
use Rattle.tree_commands.specs.Files.{Basis, HasListedBy, IsAllIgnored, IsEmpty, IsEntryOf, IsIgnoredAt, IsMet, IsSearched, IsShut, ShutsItself, Terms, begins, entering, lies, search_of}
use Rattle.tree_commands.specs.Private.Filling.{MayBeAllIgnored, OfStanding}
use Rattle.tree_commands.specs.Private.Listing.{IsIgnoredNext, MayVisit, Stands, path_of}
use Rattle.tree_commands.proofs.lemmas.FillingLemmas.{stands_ignored}

-- ---- what is met by a search is met by one that goes into all folders

entered_is_not_in_place : Entered ≢ EnteredUnlessFilled
entered_is_not_in_place is = absurd (cc)

entered_is_not_empty : Entered ≢ NamedIfEmpty
entered_is_not_empty is = absurd (cc)

module _ (folders : Folders) (chosen : Chosen) (basis : Basis) (tree : FileTree) where
  entered_shut : (folder : Folder) (A B : Type 0) → IsShut (entering chosen basis).terms tree folder A → IsShut (search_of folders chosen basis).terms tree folder B
  entered_shut folder A B shut = record {
    below = shut.below;
    free = shut.free;
    why = ⊎_elim
        (λ (itself : ShutsItself (entering chosen basis).terms tree folder). ⊎_elim
        (λ (git : tree.has_git folder ≡ true). inl (inl git))
        (λ (empty : (Entered ≡ NamedIfEmpty) × IsEmpty basis.terms.case tree folder). absurd (entered_is_not_empty empty.0))
        itself)
        (λ (never : ⊥). absurd never)
        shut.why;
  }

  entry_entering : (folder : Folder) (found : List ℕ) → IsEntryOf (search_of folders chosen basis) tree folder found → IsEntryOf (entering chosen basis) tree folder found
  entry_entering folder found entry = record {
    name = entry.name;
    among = entry.among;
    may = entry.may;
    here = record {
      kind = entry.here.kind;
      there = entry.here.there;
      kept = record { unignored = entry.here.kept.unignored; shown = entry.here.kept.shown };
      joined = entry.here.joined;
    };
  }

  pub met_entering : {start path : List ℕ} → IsMet (search_of folders chosen basis) tree start path → IsMet (entering chosen basis) tree start path
  met_entering begins = begins
  met_entering (lies {folder} {found} met may kept entry) = lies (met_entering met)
      (λ shut. may (entered_shut folder (IsIgnoredAt (entering chosen basis) tree folder true) (IsIgnoredAt (search_of folders chosen basis) tree folder true) shut))
      (λ replaced. absurd (entered_is_not_in_place replaced.asks))
      (entry_entering folder found entry)

-- ---- what is known before a search

module _ (basis : Basis) (tree : FileTree) (lists : List (EntryList (Unit {0}))) (place : Pending) (stands : Stands basis tree lists place) (may : MayVisit basis.terms.case (path_of place)) (folder : Folder) (is : path_of place ≡ start_of folder) where
  same_ignored : basis.terms.chosen ≡ Ignored → folder ≢ [] → IsIgnoredNext basis.terms lists place folder true ↔ IsIgnoredAt basis tree folder true
  same_ignored told below = stands_ignored basis tree lists place stands told folder is below (let both = may.folder folder is below in both.1)

  pub may_be : IsAllIgnored basis tree folder → MayBeAllIgnored basis.terms lists place folder
  may_be it = record {
    asks = it.asks;
    below = it.below;
    free = it.free;
    name = it.name;
    unignored = λ known. (let same = same_ignored it.asks.1 it.below in it.unignored (same.0 known));
  }

  pub all_ignored : MayBeAllIgnored basis.terms lists place folder → ¬ HasListedBy NamedIfEmpty Unignored basis tree folder → IsAllIgnored basis tree folder
  all_ignored it none = record {
    asks = it.asks;
    below = it.below;
    free = it.free;
    name = it.name;
    unignored = λ ignored. (let same = same_ignored it.asks.1 it.below in it.unignored (same.1 ignored));
    none = none;
  }

-- no folder above is ignored
pub outside : (terms : Terms) (lists : List (EntryList (Unit {0}))) (place : Pending) (folder : Folder) → MayBeAllIgnored terms lists place folder → place.is_below ≡ false
outside terms lists place folder may = at place.is_below refl
  where
    at : (b : Bool) → place.is_below ≡ b → place.is_below ≡ false
    at true is = absurd (may.unignored (inl is))
    at false is = is

-- ---- what a search says

module _ (Known : FileTree → Type 0) (terms : Terms) (lists : List (EntryList (Unit {0}))) (place : Pending) (may : MayVisit terms.case (path_of place)) where
  abbrev pub SaysAllIgnored : Bool → Type 0
  SaysAllIgnored says = OfStanding Known terms lists place (λ basis tree. (folder : Folder) → path_of place ≡ start_of folder → IsTrue says ↔ IsAllIgnored basis tree folder)

  may_at : (basis : Basis) → basis.terms ≡ terms → MayVisit basis.terms.case (path_of place)
  may_at basis same = subst (λ (t : Terms). MayVisit t.case (path_of place)) (sym same) may

  may_be_here : (tree : FileTree) (basis : Basis) → basis.terms ≡ terms → Stands basis tree lists place → (folder : Folder) → path_of place ≡ start_of folder → IsAllIgnored basis tree folder → MayBeAllIgnored terms lists place folder
  may_be_here tree basis same stands folder is it = subst (λ (t : Terms). MayBeAllIgnored t lists place folder) same (may_be basis tree lists place stands (may_at basis same) folder is it)

  pub says_other : ((folder : Folder) → path_of place ≡ start_of folder → ¬ MayBeAllIgnored terms lists place folder) → SaysAllIgnored false
  says_other other tree known basis same stands folder is =
      ((λ yes. absurd (false≢true yes)), (λ it. absurd (other folder is (may_be_here tree basis same stands folder is it))))

  module _ (may_all : (folder : Folder) → path_of place ≡ start_of folder → MayBeAllIgnored terms lists place folder) where
    pub says_searched : (other : Bool) → OfStanding Known terms lists place (λ basis tree. (folder : Folder) → path_of place ≡ start_of folder → IsTrue other ↔ HasListedBy NamedIfEmpty Unignored basis tree folder) → SaysAllIgnored (not other)
    says_searched other says tree known basis same stands folder is =
        let it = says tree known basis same stands folder is in
        let here = subst (λ (t : Terms). MayBeAllIgnored t lists place folder) (sym same) (may_all folder is) in (
          (λ yes. all_ignored basis tree lists place stands (may_at basis same) folder is here (λ listed. not_both other (it.1 listed) yes)),
          (λ ignored. not_by other (λ yes. ignored.none (it.0 yes))),
        )
      where
        not_both : (b : Bool) → IsTrue b → ¬ IsTrue (not b)
        not_both true is out = false≢true out
        not_both false is out = false≢true is

        not_by : (b : Bool) → ¬ IsTrue b → IsTrue (not b)
        not_by true out = absurd (out refl)
        not_by false out = refl

-- the folders that a search asks for are searched
pub asked_beside : (Known : FileTree → Type 0) (terms : Terms) (lists : List (EntryList (Unit {0}))) (place : Pending) (folders : Folders) (chosen : Chosen) → terms.folders ≡ NamedIfAllIgnored → (old new : Folder → Type 0)
    → GivesOnly (λ folder. OfStanding Known terms lists place (λ basis tree. IsMet (search_of folders chosen basis) tree (path_of place) (start_of folder))) old new
    → GivesOnly (λ folder. OfStanding Known terms lists place (λ basis tree. IsSearched basis tree (path_of place) folder)) old new
asked_beside Known terms lists place folders chosen asks old new asked folder given = ⊎_elim
    (λ (before : old folder). inl before)
    (λ (here : OfStanding Known terms lists place (λ basis tree. IsMet (search_of folders chosen basis) tree (path_of place) (start_of folder))).
    inr (λ tree known basis same stands. record {
      asks = inr (inr (ap (λ (t : Terms). t.folders) same ∙ asks));
      chosen = chosen;
      met = met_entering folders chosen basis tree (here tree known basis same stands);
    }))
    (asked folder given)
