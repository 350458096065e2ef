use Rattle.std.proofs.Common.{◌≡◌, ◌+◌, ◌++◌, length, map}
use Rattle.gix_glob.specs.Entries.{entry_of}
use Rattle.glob_lines.specs.Equations.Ignore.{without_returns}
use Rattle.glob_lines.specs.Equations.Lines.{lines_of}
use Rattle.glob_attributes.specs.Views.{seen_assignments}
use Rattle.glob_attributes.specs.Equations.Files.{attributes_of, entries_from, file_lines}
use Rattle.glob_attributes.proofs.parser.AttributeLinesPattern.bytes_to_patterns.Given as goal

-- the lines so far are counted, and with the entries of the others theirs are all entries
abbrev pub invariant-lines : goal.invariant-lines
invariant-lines l = record {
  counted : l.number + length (lines_of (without_returns l.rest)) ≡ length (file_lines l.bytes);
  meant : map (entry_of seen_assignments) l.mappings.items ++ entries_from l.fn.self.reading (l.number + 1) (lines_of (without_returns l.rest)) ≡ attributes_of l.fn.self.reading l.bytes;
}

abbrev pub decreases-lines : goal.decreases-lines
decreases-lines l = length l.rest
