-- Paths of a repository: which texts are paths, and what a line says of one.
use Rattle.std.specs.Prelude.{◌≡◌, ◌≢◌, ℕ, ◌+◌, Bool, nat_eq, if◌then◌else◌, List, [], ◌++◌, codes}
use Rattle.std.specs.List.{ends_with}
use Rattle.gix_glob.specs.Bytes.{HasByte, slash}

-- a path as repositories have them: not empty, with no leading slash and no two slashes in a row
pub record IsPlainPath (path : List ℕ) : Type 0 where
  pub some : path ≢ []
  pub relative : ¬ HasByte path 0 slash
  pub single : (i : ℕ) → HasByte path i slash → ¬ HasByte path (i + 1) slash

-- one trailing slash of the line marks a directory, and isn't of the path
pub record MarksDirectory (line path : List ℕ) (is_dir : Bool) : Type 0 where
  pub marked : is_dir ≡ ends_with nat_eq line (codes "/")
  pub joined : line ≡ path ++ (if is_dir then codes "/" else [])

-- what is known of a path: its bytes, and whether it is a directory's
pub record Path : Type 0 where
  pub bytes : List ℕ
  pub is_dir : Bool
