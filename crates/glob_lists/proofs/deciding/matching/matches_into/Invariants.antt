use Rattle.std.proofs.Common.{map}
use Rattle.gix_glob.specs.EntryLists.{entry_list_of}
use Rattle.glob_lists.specs.Private.Matching.{AreMatchesUpTo}
use Rattle.glob_lists.proofs.deciding.matching.matches_into.Given as goal

-- the pairs of the lists so far that answer were found
abbrev pub invariant-lists : goal.invariant-lists
invariant-lists g l = AreMatchesUpTo (map (entry_list_of g.T.Pattern.seen) l.lists) l.path.bytes l.path.is_dir l.fn.rules l.i 0 l.pairs.items
