use Rattle.std.proofs.Common.{map}
use Rattle.gix_glob.specs.EntryLists.{entry_list_of}
use Rattle.glob_lists.specs.Private.Matching.{AreMatchesUpTo}
use Rattle.glob_lists.proofs.deciding.Asked.push_matches.Given as goal

-- the pairs before this mapping that answer were found
abbrev pub invariant-mappings : goal.invariant-mappings
invariant-mappings g l = AreMatchesUpTo (map (entry_list_of g.T.Pattern.seen) l.self.lists.now) l.self.path.now.bytes l.self.path.now.is_dir l.self.rules l.i l.m l.pairs.items
