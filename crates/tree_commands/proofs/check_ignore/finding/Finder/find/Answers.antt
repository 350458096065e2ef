use Rattle.tree_commands.proofs.lemmas.FindingLemmas.{keeps_on}
use Rattle.tree_commands.proofs.check_ignore.finding.Finder.find.Goals as goal

pub returns-then-is_told_folder-clause-keeps : goal.returns-then-is_told_folder-clause-keeps
returns-then-is_told_folder-clause-keeps g c =
    keeps_on (g.S.FolderLists.shows (Unit {0})) c.args.self.now.tree c.find_as.new.tree c.find_by_looks.new.self.tree c.find_as.ensures.keeps c.find_by_looks.ensures.keeps
