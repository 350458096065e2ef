-- The lines so far may go together, and those that they need stay.
use Rattle.std.proofs.Common.{All, List}
use Rattle.glob_lists.specs.declared.rules.Rules.{Rules}
use Rattle.gix_glob.specs.EntryLists.{EntryList}
use Rattle.glob_lint.specs.Private.Findings.{IsTold}
use Rattle.glob_lint.specs.Private.Reasons.{MayAllGo}
use Rattle.glob_lint.proofs.removable.removable_of.Given as goal

abbrev pub invariant-findings : goal.invariant-findings
invariant-findings l = (rules : Rules) (lists : List (EntryList (Unit {0}))) → All (IsTold rules lists) l.findings → MayAllGo rules lists l.removable.items l.stay.items
