use Rattle.std.proofs.Common.{◌≡◌}
use Rattle.glob_lines.specs.Equations.Lines.{lines_of}
use Rattle.glob_lines.specs.PathLines.{WritesForPath}
use Rattle.glob_lines.proofs.lemmas.LinesLemmas.{IsWrittenUpTo}
use Rattle.glob_lines.proofs.path_lines.report_on.Given as goal

-- the path lines so far have their lines in the text
abbrev pub invariant-loop-line : goal.invariant-loop-line
invariant-loop-line g l = record {
  same : g.R.PathReport.basis l.report ≡ g.R.PathReport.basis l.fn.report;
  written : IsWrittenUpTo (WritesForPath (g.R.PathReport.writes (g.R.PathReport.basis l.fn.report))) (lines_of l.paths) (lines_of l.line-iterator.rest.now) l.text.items;
}
