-- Told paths that lead where they say, and are written as they are told.
use Rattle.std.specs.Prelude.{◌≡◌, ℕ, ◌≤◌, ◌<◌, ◌-◌, Bool, false, ◌==◌, ◌||◌, ◌&&◌, List, slice_index}
use Rattle.std.specs.Str.{byte}
use Rattle.git_paths.specs.declared.quoting.Quoting.TheVariants.{Full}
use Rattle.git_paths.specs.Paths.{is_slash}
use Rattle.git_paths.specs.Quoting.{is_unusual}

-- whether a byte is a slash or a dot right behind a slash, so that no name begins there
abbrev pub begins_no_name : ℕ → ℕ → Bool
begins_no_name before b = is_slash before && (is_slash b || b == byte ".")

-- whether a byte is such a one, or unusual where names are quoted in full
abbrev pub is_odd : ℕ → ℕ → Bool
is_odd before b = is_unusual Full b || begins_no_name before b

-- none of the bytes from place i up to j is unusual, even where names are quoted in full
abbrev pub HasNoneUnusual : List ℕ → ℕ → ℕ → Type 0
HasNoneUnusual told i j = (k : ℕ) → i ≤ k → k < j → is_unusual Full (slice_index told k) ≡ false

-- names begin where one of them follows a slash
abbrev pub BeginAsNames : List ℕ → ℕ → ℕ → Type 0
BeginAsNames told i j = (k : ℕ) → i ≤ k → k < j → begins_no_name (slice_index told (k - 1)) (slice_index told k) ≡ false

-- none of them is odd
abbrev pub HasNoneOdd : List ℕ → ℕ → ℕ → Type 0
HasNoneOdd told i j = (k : ℕ) → i ≤ k → k < j → is_odd (slice_index told (k - 1)) (slice_index told k) ≡ false
