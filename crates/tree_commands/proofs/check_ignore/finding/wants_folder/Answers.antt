use Rattle.std.proofs.Common.{IsTrue, false}
use Rattle.std.proofs.lemmas.Bool.{false≢true}
use Rattle.tree_commands.specs.Private.Finding.{WantsFolder}
use Rattle.tree_commands.proofs.lemmas.FindingLemmas.{unwanted_nowhere, wanted_here}
use Rattle.tree_commands.proofs.check_ignore.finding.wants_folder.Goals as goal

pub returns-in-Some-decision : goal.returns-in-Some-decision
returns-in-Some-decision g c =
    wanted_here c.args.tree.now.lists c.args.pair c.in-Some.at c.in-Some-decision.decision.list.now c.in-Some-decision.decision.mapping.now c.is_for_folders.result
    c.in-Some.is c.in-Some-decision.ensures c.is_for_folders.ensures

pub returns-in-None : goal.returns-in-None
returns-in-None g c = (
  (λ (no : IsTrue false). absurd (false≢true no)),
  (λ (wanted : WantsFolder c.args.tree.now.lists c.args.pair). absurd (unwanted_nowhere c.args.tree.now.lists c.args.pair c.in-Some.at c.in-Some.is c.in-None.ensures wanted)),
)
