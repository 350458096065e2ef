-- Each line of the lists so far is named.
use Rattle.glob_lint.specs.Private.Findings.{AreFindings}
use Rattle.glob_lint.specs.Seen.{seen}
use Rattle.glob_lint.proofs.report.findings_of.Given as goal

abbrev pub invariant-lists : goal.invariant-lists
invariant-lists l = AreFindings l.asked.rules (seen l.asked.lists.now) l.at l.findings.items
