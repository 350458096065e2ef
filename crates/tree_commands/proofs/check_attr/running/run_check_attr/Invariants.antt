-- The question is the one that is asked here.
use Rattle.tree_commands.specs.CheckAttr.{IsStatesText}
use Rattle.tree_commands.proofs.check_attr.running.run_check_attr.Given as goal

abbrev pub ghosts-run_question : goal.ghosts-run_question
ghosts-run_question g a = record {
  files = a.question.now.files;
  asked = a.question.now.asked;
  case = a.question.now.case;
  shows = g.S.AttributeFolders.shows a.source;
  allows = IsStatesText a.question.now (g.S.AttributeFolders.shows a.source);
}
