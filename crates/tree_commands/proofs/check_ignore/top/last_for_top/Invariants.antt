use Rattle.gix_glob.specs.EntryLists.{entry_list_of}
use Rattle.glob_lists.proofs.lemmas.Deciding.LastNumbers.{NoneFrom}
use Rattle.tree_commands.specs.Tops.{AnswersForTop}
use Rattle.tree_commands.proofs.check_ignore.top.last_for_top.Given as goal

-- no pattern from here on matches the top
abbrev pub invariant-loop-m : goal.invariant-loop-m
invariant-loop-m g l = NoneFrom (AnswersForTop (entry_list_of g.T.Pattern.seen l.list) l.rules) l.m
