-- Folders that are shut, on the way to one.
use Rattle.std.proofs.Common.{◌≡◌, ℕ, ◌+◌, ◌≤◌, ◌==◌, Bool, true, false, IsTrue, if◌then◌else◌, List, [], ◌∷◌, length, refl, sym, ap, subst, ◌∙◌, arith}
use Rattle.std.specs.List.{list_any}
use Rattle.std.proofs.lemmas.Bool.{eqb-false, eqb-true, false≢true}
use Rattle.git_paths.specs.Paths.{folder_of, is_slash}
use Rattle.glob_trees.specs.Ways.{Folder}
use Rattle.tree_files.specs.Closed.{HasShut, IsOnTheWay, here, above, is_shut}
use Rattle.tree_files.specs.declared.closed_folders.ClosedFolders.{ClosedFolders}

shorter_by : (b : ℕ) (path : List ℕ) (is : Bool) → (list_any is_slash path ≡ true → length (folder_of path) + 1 ≤ length path) → list_any is_slash path ≡ is → length (if is then b ∷ folder_of path else []) ≤ length path
shorter_by b path false later none = omega arith
shorter_by b path true later some = omega (arith, later some)

-- a folder is shorter than what lies in it
pub folder_shorter : (b : ℕ) (path : List ℕ) → length (folder_of (b ∷ path)) ≤ length path
folder_shorter b [] = omega arith
folder_shorter b (c ∷ path) = let later = folder_shorter c path in shorter_by b (c ∷ path) (list_any is_slash (c ∷ path)) (λ _. omega (arith, later)) refl

pub some_shorter : (path : List ℕ) → ¬ (path ≡ []) → length (folder_of path) + 1 ≤ length path
some_shorter [] some = absurd (some refl)
some_shorter (b ∷ path) some = omega (arith, folder_shorter b path)

module _ (closed : ClosedFolders) where
  pub shut_above : (front : Folder) → HasShut closed (folder_of front) → HasShut closed front
  shut_above front (folder, way, shut) = (folder, above way, shut)

  pub shut_below : (front : Folder) → is_shut closed front ≡ false → HasShut closed front → HasShut closed (folder_of front)
  shut_below front none (folder, way, shut) = by_way folder front way none shut
    where
      by_way : (folder front : Folder) → IsOnTheWay folder front → is_shut closed front ≡ false → IsTrue (is_shut closed folder) → HasShut closed (folder_of front)
      by_way folder front here none shut = absurd (false≢true (sym none ∙ shut))
      by_way folder front (above way) none shut = (folder, way, shut)

  pub none_at_top : is_shut closed [] ≡ false → ¬ HasShut closed []
  none_at_top none (folder, way, shut) = by_way folder [] way refl shut
    where
      by_way : (folder front : Folder) → IsOnTheWay folder front → front ≡ [] → IsTrue (is_shut closed folder) → ⊥
      by_way folder front here top shut = false≢true (sym none ∙ subst (λ f. IsTrue (is_shut closed f)) top shut)
      by_way folder front (above way) top shut = by_way folder (folder_of front) way (ap folder_of top) shut

pub empty_by : (path : List ℕ) → true ≡ (length path == 0) → path ≡ []
empty_by path is = by_length path (eqb-true _ _ (sym is))
  where
    by_length : (path : List ℕ) → length path ≡ 0 → path ≡ []
    by_length [] none = refl
    by_length (b ∷ path) none = absurd (omega (arith, none))

pub some_by : (path : List ℕ) → false ≡ (length path == 0) → ¬ (path ≡ [])
some_by path is none = eqb-false _ _ (sym is) (ap length none)
