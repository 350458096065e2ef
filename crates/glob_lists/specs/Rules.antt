-- By which rules a pattern answers for a path.
use Rattle.std.specs.Prelude.{ℕ, Bool, List, Option, Some}
use Rattle.gix_glob.specs.declared.pattern.Case.{Case}
use Rattle.gix_glob.specs.declared.pattern.Mode as pattern
use Rattle.gix_glob.specs.declared.wildmatch.Mode.{Mode}
use Rattle.gix_glob.specs.RepositoryPaths.{Answers}
use Rattle.glob_patterns.specs.GitPaths.{AnswersAsGit}
use Rattle.glob_lists.specs.declared.rules.Reading.{Reading}
use Rattle.glob_lists.specs.declared.rules.Reading.TheVariants.{Crate, Git}
use Rattle.glob_lists.specs.declared.rules.Rules.{Rules}

-- the rules of the ported crate, and those of Git
abbrev pub by_crate : Case → Rules
by_crate case = record { case = case; reading = Crate }

abbrev pub by_git : Case → Rules
by_git case = record { case = case; reading = Git }

-- the mode of repository paths: no wildcard matches a slash
abbrev pub path_mode : Mode
path_mode = record { 0 = 1 }

-- a pattern of this text and mode answers for a path of which it is known where its last part begins
abbrev pub AnswersAs : Reading → List ℕ → pattern.Mode → List ℕ → Option ℕ → Bool → Case → Type 0
AnswersAs Crate text mode path basename_start is_dir case = Answers text mode path basename_start (Some is_dir) case path_mode
AnswersAs Git text mode path basename_start is_dir case = AnswersAsGit text mode path basename_start (Some is_dir) case
