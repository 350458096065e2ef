use Rattle.std.proofs.Common.{◌≡◌, ◌+◌, ◌++◌, length, map}
use Rattle.gix_glob.specs.Entries.{entry_of}
use Rattle.glob_lines.specs.Ignore.{without_mark}
use Rattle.glob_lines.specs.Equations.Entries.{entries_from, line_reading}
use Rattle.glob_lines.specs.Equations.Ignore.{ignore_content, ignore_of, without_returns}
use Rattle.glob_lines.specs.Equations.Lines.{lines_of}
use Rattle.glob_lines.proofs.ignore.IgnoreLinesPattern.bytes_to_patterns.Given as goal

-- the lines so far are counted, and with the entries of the others theirs are all entries
abbrev pub invariant-lines : goal.invariant-lines
invariant-lines l = record {
  counted : l.read.lines + length (lines_of (without_returns l.rest)) ≡ length (lines_of (without_returns (without_mark l.bytes)));
  meant : map (entry_of (λ _. tt)) l.read.mappings.items ++ entries_from line_reading ignore_content (l.read.lines + 1) (lines_of (without_returns l.rest)) ≡ ignore_of l.bytes;
}

abbrev pub decreases-lines : goal.decreases-lines
decreases-lines l = length l.rest
