-- Each line so far is named.
use Rattle.std.proofs.Common.{◌≡◌, ◌<◌}
use Rattle.glob_lint.specs.Private.Findings.{AddsFindings}
use Rattle.glob_lint.specs.Seen.{seen}
use Rattle.glob_lint.proofs.report.add_list.Given as goal

abbrev pub invariant-lines : goal.invariant-lines
invariant-lines l = AddsFindings l.asked.rules (seen l.asked.lists.now) (λ pair. (pair.0 ≡ l.at) × (pair.1 < l.place)) l.fn.findings.items l.findings.items
