-- Paths of a repository: which bytes a pattern looks at, and when it answers yes.
use Rattle.std.specs.Prelude.{◌≡◌, ℕ, ◌-◌, ◌<◌, ◌≤◌, Bool, true, IsTrue, List, drop, Option, None, Some, MatchOption, bit_or, if◌then◌else◌}
use Rattle.glob_patterns.specs.declared.pattern.case.Case.{Case}
use Rattle.glob_patterns.specs.declared.pattern.case.Case.TheVariants.{Sensitive, Fold}
use Rattle.glob_patterns.specs.declared.mode.Mode as pattern
use Rattle.glob_matcher.specs.declared.wildmatch.mode.Mode as wildmatch
use Rattle.glob_matcher.specs.Bytes.{HasByte, slash}
use Rattle.glob_matcher.specs.Matching.{Splits}
use Rattle.glob_patterns.specs.Patterns.{is_for_directories, looks_at_name}

-- place k comes directly after the path's last slash
pub record IsAfterLastSlash (path : List ℕ) (k : ℕ) : Type 0 where
  pub some : 0 < k
  pub after : HasByte path (k - 1) slash
  pub last : (j : ℕ) → k ≤ j → ¬ HasByte path j slash

-- where the last part of a path begins: after the last slash, and nowhere where there is no slash
abbrev pub IsBasenameStart : List ℕ → Option ℕ → Type 0
IsBasenameStart path start = MatchOption start ((j : ℕ) → ¬ HasByte path j slash) (λ k. IsAfterLastSlash path k)

-- the mode of a match, where case may be set apart
abbrev pub with_case : wildmatch.Mode → Case → wildmatch.Mode
with_case mode Sensitive = mode
with_case mode Fold = record { 0 = bit_or mode.0 2 }

-- The bytes that a pattern looks at: the last part of the path, where the text has no slash and the line began with
-- none, and where it is known where that part begins; else the whole path.
abbrev pub subject : pattern.Mode → List ℕ → Option ℕ → List ℕ
subject pattern_mode path None = path
subject pattern_mode path (Some k) = if looks_at_name pattern_mode then drop k path else path

-- A pattern of this text and this mode answers yes for a path: a pattern for directories only where the path is
-- known to be one, and the text matches what it looks at.
pub record Answers (text : List ℕ) (pattern_mode : pattern.Mode) (path : List ℕ) (basename_start : Option ℕ) (is_dir : Option Bool) (case : Case) (mode : wildmatch.Mode) : Type 0 where
  pub directory : IsTrue (is_for_directories pattern_mode) → is_dir ≡ Some true
  pub splits : Splits (subject pattern_mode path basename_start) text (with_case mode case)
