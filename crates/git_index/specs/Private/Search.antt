-- Where a search among entries in order ends.
use Rattle.std.specs.Prelude.{◌≡◌, ℕ, zero, suc, ◌<◌, ◌≤◌, true, false, List, [], ◌∷◌, ◌++◌, length}
use Rattle.std.specs.Ordering.{is_lt, nat_cmp}
use Rattle.std.specs.Cmp.Lexicographic.{slice_cmp}
use Rattle.git_index.specs.Entries.{Tracked}

-- the path of the entry at a place
abbrev pub path_at : List Tracked → ℕ → List ℕ
path_at [] k = []
path_at (e ∷ entries) zero = e.path
path_at (e ∷ entries) (suc k) = path_at entries k

-- the entries below this place have paths before the one that is looked for, and the others haven't
pub record IsFirstFrom (entries : List Tracked) (sought : List ℕ) (first : ℕ) : Type 0 where
  pub within : first ≤ length entries
  pub before : (k : ℕ) → k < first → is_lt (slice_cmp nat_cmp (path_at entries k) sought) ≡ true
  pub behind : (k : ℕ) → first ≤ k → k < length entries → is_lt (slice_cmp nat_cmp (path_at entries k) sought) ≡ false

-- the path is the folder's, a slash, and more
abbrev pub Continues : List ℕ → List ℕ → Type 0
Continues path folder = (rest : List ℕ) × (path ≡ folder ++ 47 ∷ rest)
