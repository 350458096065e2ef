-- Path lines, and what is written for one.
use Rattle.std.specs.Prelude.{◌≡◌, ◌⊎◌, ℕ, Bool, List, codes}
use Rattle.glob_lists.specs.Paths.{IsPlainPath, MarksDirectory}

-- The line for a path line: an exclamation mark where that is no plain path, and else what `P path is_dir written` says of its path.
abbrev pub WritesForPath : (List ℕ → Bool → List ℕ → Type 0) → List ℕ → List ℕ → Type 0
WritesForPath P line written =
    (¬ IsPlainPath line × (written ≡ codes "!"))
    ⊎ (IsPlainPath line × (path : List ℕ) × (is_dir : Bool) × MarksDirectory line path is_dir × P path is_dir written)
