use Rattle.glob_lines.specs.Ignore.{EndsIgnoreLine, GivesTrimmed, without_mark}
use Rattle.glob_lines.specs.Equations.Ignore.{ignore_content, without_returns}
use Rattle.glob_lines.specs.Equations.Lines.{lines_of}
use Rattle.glob_lines.proofs.lemmas.IgnoreLemmas.{Tells-ignore_content, TellsLines-ignore}
use Rattle.glob_lines.specs.Entries.{ReadsLine}
use Rattle.glob_lines.specs.Equations.Entries.{line_reading}
use Rattle.glob_lines.proofs.lemmas.EntriesLemmas.{TellsReadings-line, entries_are_these}
use Rattle.glob_lines.proofs.laws.ignore_entries_are_these.Goals as goal

pub returns : goal.returns
returns c parser source bytes =
    entries_are_these GivesTrimmed ignore_content Tells-ignore_content ReadsLine line_reading (TellsReadings-line c.readings_are_these.ensures.some) EndsIgnoreLine (λ bytes. lines_of (without_returns bytes)) TellsLines-ignore (without_mark bytes)
