use Rattle.gix_glob.specs.GitLines.{GitReads}
use Rattle.glob_lines.specs.GitLines.{GivesGitText}
use Rattle.glob_lines.specs.Ignore.{without_mark}
use Rattle.glob_lines.specs.Equations.GitLines.{git_content, git_reading}
use Rattle.glob_lines.specs.Lines.{EndsInFeed}
use Rattle.glob_lines.specs.Equations.Lines.{lines_of}
use Rattle.glob_lines.proofs.lemmas.GitLineLemmas.{Tells-git_content, TellsReadings-git}
use Rattle.glob_lines.proofs.lemmas.LinesLemmas.{TellsLines-lines_of}
use Rattle.glob_lines.proofs.lemmas.EntriesLemmas.{entries_are_these}
use Rattle.glob_lines.proofs.laws.git_entries_are_these.Goals as goal

pub returns : goal.returns
returns c parser source bytes =
    entries_are_these GivesGitText git_content Tells-git_content GitReads git_reading (TellsReadings-git c.git_readings_are_these.ensures) EndsInFeed lines_of TellsLines-lines_of (without_mark bytes)
