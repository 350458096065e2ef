use Rattle.std.proofs.Common.{map}
use Rattle.gix_glob.specs.EntryLists.{entry_list_of}
use Rattle.tree_commands.proofs.lemmas.TopLemmas.{NoListFrom}
use Rattle.tree_commands.proofs.check_ignore.top.deciding_for_top.Given as goal

-- no list from here on has a pattern that matches the top
abbrev pub invariant-loop-place : goal.invariant-loop-place
invariant-loop-place g l = NoListFrom (map (entry_list_of g.T.Pattern.seen) l.lists) l.rules l.place
