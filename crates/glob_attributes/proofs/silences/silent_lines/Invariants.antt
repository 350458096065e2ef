use Rattle.std.proofs.Common.{◌≡◌, ◌+◌, ◌++◌, length}
use Rattle.glob_lines.specs.Equations.Ignore.{without_returns}
use Rattle.glob_lines.specs.Equations.Lines.{lines_of}
use Rattle.glob_attributes.specs.Equations.Files.{file_lines}
use Rattle.glob_attributes.specs.Told.{silent_lines}
use Rattle.glob_attributes.proofs.lemmas.ToldLemmas.{silences_from}
use Rattle.glob_attributes.proofs.silences.silent_lines.Given as goal

-- the lines so far are counted, and with those of the others theirs are all
abbrev pub invariant-lines : goal.invariant-lines
invariant-lines l = record {
  counted : l.number + length (lines_of (without_returns l.rest)) ≡ length (file_lines l.bytes);
  meant : l.lines.items ++ silences_from l.is_top (l.number + 1) (lines_of (without_returns l.rest)) ≡ silent_lines l.is_top l.bytes;
}

abbrev pub decreases-lines : goal.decreases-lines
decreases-lines l = length l.rest
