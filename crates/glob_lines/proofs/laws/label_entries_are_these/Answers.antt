use Rattle.glob_lines.specs.Label.{GivesLabel}
use Rattle.glob_lines.specs.Equations.Label.{label_content}
use Rattle.glob_lines.proofs.lemmas.LabelLemmas.{Tells-label_content}
use Rattle.glob_lines.specs.Lines.{EndsInFeed}
use Rattle.glob_lines.specs.Equations.Lines.{lines_of}
use Rattle.glob_lines.proofs.lemmas.LinesLemmas.{TellsLines-lines_of}
use Rattle.glob_lines.specs.Entries.{ReadsLine}
use Rattle.glob_lines.specs.Equations.Entries.{line_reading}
use Rattle.glob_lines.proofs.lemmas.EntriesLemmas.{TellsReadings-line, entries_are_these}
use Rattle.glob_lines.proofs.laws.label_entries_are_these.Goals as goal

pub returns : goal.returns
returns c parser source = entries_are_these GivesLabel label_content Tells-label_content ReadsLine line_reading (TellsReadings-line c.readings_are_these.ensures.some) EndsInFeed lines_of TellsLines-lines_of
