-- Folders in which nothing lies, by their names, one after the other.
use Rattle.std.proofs.Common.{◌≡◌, ◌⊎◌, inl, ⊎_elim, ℕ, Bool, false, List, [], ◌∷◌, ◌++◌, refl, sym, subst, ◌∙◌, append_assoc, append-nil}
use Rattle.std.specs.Prelude.{IsSome, IsTrue, None, Option, Some}
use Rattle.std.proofs.lemmas.Bool.{false≢true}
use Rattle.gix_glob.specs.declared.pattern.Case.{Case}
use Rattle.glob_trees.specs.Ways.{Folder, start_of}
use Rattle.tree_commands.specs.FileTrees.{FileTree}
use Rattle.tree_commands.specs.Files.{IsEmpty, IsEntryName}
use Rattle.tree_commands.specs.Private.Listing.{Among, IsNoneAmong, LiesThere}
use Rattle.tree_commands.proofs.lemmas.AmongLemmas.{among_cases, among_contained, among_right, contains_among}

-- nothing stands behind the names which aren't left
pub record IsNoneSoFar (Known : FileTree → Type 0) (case : Case) (start : List ℕ) (names left : List (List ℕ)) : Type 0 where
  pub passed : List (List ℕ)
  pub joined : names ≡ passed ++ left
  pub none : (tree : FileTree) → Known tree → IsNoneAmong case tree start passed

none_by : {X : Type 0} (found : Option X) → ¬ IsSome found → found ≡ None
none_by None other = refl
none_by (Some x) other = absurd (other refl)

some_by : {X : Type 0} (found : Option X) → IsSome found → ¬ (found ≡ None)
some_by None some none = false≢true some
some_by (Some x) some none = absurd (cc)

module _ (Known : FileTree → Type 0) (case : Case) (start : List ℕ) (names : List (List ℕ)) where
  pub none_starts : IsNoneSoFar Known case start names names
  none_starts = record { passed = []; joined = refl; none = λ tree known name never. absurd never }

  pub none_ends : IsNoneSoFar Known case start names [] → (tree : FileTree) → Known tree → IsNoneAmong case tree start names
  none_ends it tree known = subst (IsNoneAmong case tree start) (sym (it.joined ∙ append-nil it.passed)) (it.none tree known)

  module _ (name : List ℕ) (left : List (List ℕ)) (it : IsNoneSoFar Known case start names (name ∷ left)) (Now : FileTree → Type 0) (stays : (tree : FileTree) → Known tree → Now tree) (is_there : Bool)
      (says : (tree : FileTree) → Now tree → LiesThere case tree start name is_there) where
    none_here : is_there ≡ false → (tree : FileTree) → Known tree → IsEntryName case name → tree.kind (start ++ name) ≡ None
    none_here is tree known may = none_by (tree.kind (start ++ name)) (λ some. (let it = says tree (stays tree known) in false≢true (sym is ∙ it.1 (may, some))))

    pub none_on : is_there ≡ false → IsNoneSoFar Known case start names left
    none_on is = record {
      passed = it.passed ++ name ∷ [];
      joined = it.joined ∙ sym (append_assoc it.passed (name ∷ []) left);
      none = λ tree known other among may. ⊎_elim
          (λ (before : Among it.passed other). it.none tree known other before may)
          (λ (last : Among (name ∷ []) other). ⊎_elim
          (λ (is_name : name ≡ other). subst (λ n. tree.kind (start ++ n) ≡ None) is_name (none_here is tree known (subst (IsEntryName case) (sym is_name) may)))
          (λ (never : ⊥). absurd never)
          last)
          (among_cases it.passed (name ∷ []) other among);
    }

    pub some_lies : IsTrue is_there → (tree : FileTree) → Known tree → ¬ IsNoneAmong case tree start names
    some_lies is tree known none =
        let there = says tree (stays tree known) in
        let both = there.0 is in
        some_by (tree.kind (start ++ name)) both.1 (none name (subst (λ ns. Among ns name) (sym it.joined) (among_right it.passed (name ∷ left) name (inl refl))) both.0)

-- no entry lies in a folder whose names are these
module _ (case : Case) (tree : FileTree) (folder : Folder) (start : List ℕ) (names : List (List ℕ)) (as_start : start ≡ start_of folder) (as_names : names ≡ tree.names folder) where
  at_folder : IsNoneAmong case tree start names → IsNoneAmong case tree (start_of folder) (tree.names folder)
  at_folder none = subst (λ s. IsNoneAmong case tree s (tree.names folder)) as_start (subst (λ ns. IsNoneAmong case tree start ns) as_names none)

  pub empty_by_none : IsNoneAmong case tree start names → IsEmpty case tree folder
  empty_by_none none = let here = at_folder none in λ name there may. here name (among_contained (tree.names folder) name there) may

  pub none_by_empty : IsEmpty case tree folder → IsNoneAmong case tree start names
  none_by_empty empty =
      subst (λ ns. IsNoneAmong case tree start ns) (sym as_names)
      (subst (λ s. IsNoneAmong case tree s (tree.names folder)) (sym as_start) (λ name among may. empty name (contains_among (tree.names folder) name among) may))
