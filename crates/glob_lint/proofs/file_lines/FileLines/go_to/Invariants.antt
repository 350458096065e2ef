-- Each turn goes on by one line.
use Rattle.std.proofs.Common.{◌-◌}
use Rattle.glob_lint.proofs.file_lines.FileLines.go_to.Given as goal

abbrev pub decreases-lines : goal.decreases-lines
decreases-lines l = l.number - l.self.number
