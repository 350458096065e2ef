use Rattle.std.proofs.Common.{length}
use Rattle.std.specs.List.{flat_map}
use Rattle.glob_lines.specs.Equations.Ignore.{without_returns}
use Rattle.glob_lines.specs.Equations.Lines.{lines_of}
use Rattle.glob_attributes.specs.Readings.{line_gives}
use Rattle.glob_attributes.specs.Told.{names_given, names_read}
use Rattle.glob_attributes.proofs.lemmas.ToldLemmas.{AddsUpTo}
use Rattle.glob_attributes.proofs.names.AttributeNames.add_file.Given as goal

-- the names of the lines so far were added, and those of the others are left
abbrev pub invariant-lines : goal.invariant-lines
invariant-lines l =
    AddsUpTo l.fn.self (names_read l.is_top l.bytes) (flat_map (λ line. names_given (line_gives l.is_top line)) (lines_of (without_returns l.rest))) l.self

abbrev pub decreases-lines : goal.decreases-lines
decreases-lines l = length l.rest
