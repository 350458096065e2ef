use Rattle.std.proofs.Common.{map}
use Rattle.gix_glob.specs.EntryLists.{entry_list_of}
use Rattle.glob_lists.specs.Private.Stack.Finding.{AreFoundFrom}
use Rattle.glob_lists.proofs.stack.lists.PreparedLists.matches_into.Given as goal

-- the pairs of the lists from here on that answer were found
abbrev pub invariant-lists : goal.invariant-lists
invariant-lists g l = AreFoundFrom (map (entry_list_of g.T.Pattern.seen) l.self) l.question.path.now l.question.rules l.i 0 l.pairs.items
