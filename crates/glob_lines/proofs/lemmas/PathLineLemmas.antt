-- What is written for a path is written for the line that names it.
use Rattle.std.proofs.Common.{ℕ, Bool, List, inr}
use Rattle.glob_lists.specs.Paths.{IsPlainPath, MarksDirectory}
use Rattle.glob_lines.specs.PathLines.{WritesForPath}
use Rattle.glob_lines.specs.Private.Growing.{Adds}

pub adds_for_path : (P : List ℕ → Bool → List ℕ → Type 0) (line path : List ℕ) (is_dir : Bool) (old new : List ℕ) → IsPlainPath line → MarksDirectory line path is_dir
    → Adds (P path is_dir) old new → Adds (WritesForPath P line) old new
adds_for_path P line path is_dir old new plain marked adds = record { added = adds.added; allowed = inr (plain, path, is_dir, marked, adds.allowed); grown = adds.grown }
