-- Which paths an index tracks where the case of ASCII letters doesn't count, as git looks them up for a listing with `core.ignoreCase`.
use Rattle.std.specs.Prelude.{◌≡◌, ℕ, List, ◌∷◌, ◌++◌, map, slice_get, None, Some}
use Rattle.std.specs.Char.{to_ascii_lowercase}
use Rattle.std.specs.List.{filter, last_or}
use Rattle.std.specs.Str.{bytes_eq}
use Rattle.glob_matcher.specs.Bytes.{slash}
use Rattle.git_index.specs.declared.entry.Kind.TheVariants.{Submodule}
use Rattle.git_index.specs.Entries.{Tracked}

-- a path without case: its ASCII letters are small
abbrev pub folded : List ℕ → List ℕ
folded path = map to_ascii_lowercase path

-- an entry, at whichever stage, has this path but for case
abbrev pub IsTrackedFolded : List Tracked → List ℕ → Type 0
IsTrackedFolded entries path = (i : ℕ) × (e : Tracked) × (slice_get entries i ≡ Some e) × (folded e.path ≡ folded path)

-- an entry's path is this folder's but for case, a slash, and more
abbrev pub HasBelowFolded : List Tracked → List ℕ → Type 0
HasBelowFolded entries folder = (i : ℕ) × (e : Tracked) × (rest : List ℕ) × (slice_get entries i ≡ Some e) × (folded e.path ≡ folded folder ++ slash ∷ rest)

-- the entries that have this path but for case
abbrev pub alike : List Tracked → List ℕ → List Tracked
alike entries path = filter (λ e. bytes_eq (folded e.path) (folded path)) entries

-- the last of them is a submodule
abbrev pub IsSubmoduleFolded : List Tracked → List ℕ → Type 0
IsSubmoduleFolded entries path = (e : Tracked) × (last_or None (alike entries path) ≡ Some e) × (e.kind ≡ Submodule)

-- a list has the same entries of each path as another one, in the same order
abbrev pub AreAlike : List Tracked → List Tracked → Type 0
AreAlike entries others = (path : List ℕ) → alike entries path ≡ alike others path
