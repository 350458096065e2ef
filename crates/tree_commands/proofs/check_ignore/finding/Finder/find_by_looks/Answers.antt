use Rattle.std.proofs.lemmas.Bool.{false≢true}
use Rattle.tree_commands.proofs.lemmas.FindingLemmas.{found_without}
use Rattle.tree_commands.proofs.check_ignore.finding.Finder.find_by_looks.Goals as goal

pub returns-then-not-wants_folder-clause-found : goal.returns-then-not-wants_folder-clause-found
returns-then-not-wants_folder-clause-found g c =
    found_without (g.S.FolderLists.shows (Unit {0})) c.args.self.now.tree c.args.path.now _ c.args.pair c.requires.as_folder (λ wanted. false≢true (c.if-not-wants_folder.ensures.1 wanted))
