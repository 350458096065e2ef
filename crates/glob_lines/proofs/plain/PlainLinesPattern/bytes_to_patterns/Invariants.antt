use Rattle.std.proofs.Common.{◌≡◌, ◌+◌, ◌++◌, length, map}
use Rattle.gix_glob.specs.Entries.{entry_of}
use Rattle.glob_lines.specs.Equations.Lines.{lines_of}
use Rattle.glob_lines.specs.Equations.Entries.{entries_from, line_reading}
use Rattle.glob_lines.specs.Equations.Plain.{plain_content, plain_of}
use Rattle.glob_lines.proofs.plain.PlainLinesPattern.bytes_to_patterns.Given as goal

-- the lines so far are counted, and with the entries of the others theirs are all entries
abbrev pub invariant-loop-line : goal.invariant-loop-line
invariant-loop-line l = record {
  counted : l.read.lines + length (lines_of l.line-iterator.rest.now) ≡ length (lines_of l.bytes);
  meant : map (entry_of (λ _. tt)) l.read.mappings.items ++ entries_from line_reading plain_content (l.read.lines + 1) (lines_of l.line-iterator.rest.now) ≡ plain_of l.bytes;
}
