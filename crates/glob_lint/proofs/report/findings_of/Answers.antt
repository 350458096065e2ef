-- The lines of one list more are named.
use Rattle.glob_lint.specs.Seen.{seen}
use Rattle.glob_lint.proofs.lemmas.Named.{found_more}
use Rattle.glob_lint.proofs.report.findings_of.Goals as goal

pub lists-preserved : goal.lists-preserved
lists-preserved c =
    found_more c.args.asked.now.rules (seen c.args.asked.now.lists.now) c.lists.at c.lists.findings.items c.add_list.new.findings.items c.lists.invariant c.in_ok-add_list.ensures
