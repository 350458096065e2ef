-- The paths that are met from one on.
use Rattle.std.proofs.Common.{◌≡◌, ◌⊎◌, inl, inr, ⊎_elim, ℕ, true, List, refl, sym, subst, ◌∙◌}
use Rattle.gix_glob.specs.Bytes.{EndsInSlash}
use Rattle.glob_trees.specs.Ways.{Folder, start_of}
use Rattle.tree_commands.specs.FileTrees.{FileTree}
use Rattle.tree_commands.specs.Files.{Basis, IsEntryOf, IsIgnoredAt, IsListed, IsMet, IsReplaced, IsShut, begins, lies}
use Rattle.tree_commands.specs.Private.Listing.{IsEnd}
use Rattle.tree_commands.proofs.lemmas.PathLemmas.{one_folder, start_ends}

module _ (basis : Basis) (tree : FileTree) where
  abbrev pub IsOpen : Folder → Type 0
  IsOpen folder = (¬ IsShut basis.terms tree folder (IsIgnoredAt basis tree folder true)) × (¬ IsReplaced basis tree folder)

  -- no path is met from this one but itself
  abbrev pub IsEndOf : List ℕ → Type 0
  IsEndOf path = IsEnd basis.terms tree (IsIgnoredAt basis tree) path ⊎ ((folder : Folder) × (path ≡ start_of folder) × IsReplaced basis tree folder)

  pub ends_listed : (path : List ℕ) → IsListed basis tree path → IsEndOf path
  ends_listed path (inl file) = inl (inl (file.some, file.whole))
  ends_listed path (inr folder) = inl (inr (folder.folder, folder.start, folder.shut))

  -- a path that is met from another one lies below an entry of that
  pub record MeetsFirst (start path : List ℕ) : Type 0 where
    pub folder : Folder
    pub is_start : start ≡ start_of folder
    pub may : IsOpen folder
    pub found : List ℕ
    pub entry : IsEntryOf basis tree folder found
    pub rest : IsMet basis tree found path

  pub meets_first : {start path : List ℕ} → IsMet basis tree start path → (path ≡ start) ⊎ MeetsFirst start path
  meets_first begins = inl refl
  meets_first {start} (lies {folder} {found} met may kept entry) = ⊎_elim
      (λ (here : start_of folder ≡ start). inr (record { folder = folder; is_start = sym here; may = (may, kept); found = found; entry = entry; rest = begins }))
      (λ (first : MeetsFirst start (start_of folder)). inr (record {
        folder = first.folder;
        is_start = first.is_start;
        may = first.may;
        found = first.found;
        entry = first.entry;
        rest = lies first.rest may kept entry;
      }))
      (meets_first met)

  -- an end isn't entered
  pub end_is_shut : (path : List ℕ) (folder : Folder) → IsEndOf path → path ≡ start_of folder → ¬ IsOpen folder
  end_is_shut path folder (inl (inl file)) is may = file.1 (subst EndsInSlash (sym is) (start_ends folder (λ none. file.0 (is ∙ none))))
  end_is_shut path folder (inl (inr at)) is may =
      may.0 (subst (λ f. IsShut basis.terms tree f (IsIgnoredAt basis tree f true)) (one_folder at.0 folder (sym at.1 ∙ is)) at.2)
  end_is_shut path folder (inr at) is may =
      may.1 (subst (IsReplaced basis tree) (one_folder at.0 folder (sym at.1 ∙ is)) at.2)

  pub end_meets_itself : {start path : List ℕ} → IsMet basis tree start path → IsEndOf start → path ≡ start
  end_meets_itself {start} {path} met ends = ⊎_elim
      (λ (is : path ≡ start). is)
      (λ (first : MeetsFirst start path). absurd (end_is_shut start first.folder ends first.is_start first.may))
      (meets_first met)

  -- from a folder its own path is met, and another one through one of its entries
  pub meets_entry : (folder : Folder) (path : List ℕ) → IsMet basis tree (start_of folder) path → (path ≡ start_of folder) ⊎ ((found : List ℕ) × IsEntryOf basis tree folder found × IsMet basis tree found path)
  meets_entry folder path met = ⊎_elim
      (λ (is : path ≡ start_of folder). inl is)
      (λ (first : MeetsFirst (start_of folder) path).
      let same : first.folder ≡ folder = one_folder first.folder folder (sym first.is_start) in
      inr (first.found, subst (λ at. IsEntryOf basis tree at first.found) same first.entry, first.rest))
      (meets_first met)
