-- What is asked of a pattern, and when it answers yes.
use Rattle.std.specs.Prelude.{ℕ, List}
use Rattle.glob_patterns.specs.declared.mode.Mode.{Mode}
use Rattle.glob_patterns.specs.declared.pattern.paths.Asked.{Asked}
use Rattle.glob_patterns.specs.GitPaths.{AnswersAsGit}
use Rattle.glob_patterns.specs.RepositoryPaths.{Answers}

-- a pattern of this text and this mode answers yes
abbrev pub IsAnswered : List ℕ → Mode → Asked → Type 0
IsAnswered text mode asked = Answers text mode asked.path.now asked.basename_start_pos asked.is_dir asked.case asked.mode

-- a pattern of this text and this mode answers yes, as Git reads it
abbrev pub IsAnsweredAsGit : List ℕ → Mode → Asked → Type 0
IsAnsweredAsGit text mode asked = AnswersAsGit text mode asked.path.now asked.basename_start_pos asked.is_dir asked.case
