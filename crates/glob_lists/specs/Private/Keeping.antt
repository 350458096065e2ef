-- What a path of a repository keeps of its bytes.
use Rattle.std.specs.Prelude.{◌≡◌, ◌⊎◌, ℕ, List, [], Option}
use Rattle.gix_glob.specs.RepositoryPaths.{IsBasenameStart}
use Rattle.glob_lists.specs.Paths.{IsPlainPath}

-- the bytes are a path, or a base left nothing of one, and their last part begins at the place
pub record IsKept (bytes : List ℕ) (basename_start : Option ℕ) : Type 0 where
  pub plain : (bytes ≡ []) ⊎ IsPlainPath bytes
  pub basename : IsBasenameStart bytes basename_start
