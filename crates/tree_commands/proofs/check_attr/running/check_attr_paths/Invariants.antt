-- The question is the one that is asked here.
use Rattle.tree_commands.specs.CheckAttr.{IsStatesText}
use Rattle.tree_commands.proofs.check_attr.running.check_attr_paths.Given as goal

abbrev pub ghosts-check_paths : goal.ghosts-check_paths
ghosts-check_paths g a = record {
  files = a.question.now.files;
  asked = a.question.now.asked;
  case = a.question.now.case;
  shows = g.S.AttributeFolders.shows a.source;
  allows = IsStatesText a.question.now (g.S.AttributeFolders.shows a.source);
}
