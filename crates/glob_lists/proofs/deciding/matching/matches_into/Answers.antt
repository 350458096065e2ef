-- All lists were gone through.
use Rattle.std.proofs.Common.{map, arith}
use Rattle.std.proofs.lemmas.List.{length-map}
use Rattle.gix_glob.specs.EntryLists.{entry_list_of}
use Rattle.glob_lists.proofs.lemmas.Deciding.MatchesUpTo.{matches_all}
use Rattle.glob_lists.proofs.deciding.matching.matches_into.Goals as goal

pub returns : goal.returns
returns g c =
    matches_all (map (entry_list_of g.T.Pattern.seen) c.args.lists.now) c.args.path.now.bytes c.args.path.now.is_dir c.args.rules c.lists.i c.lists.pairs.items
    (omega (arith, length-map c.args.lists.now (entry_list_of g.T.Pattern.seen), c.lists-test.false)) c.lists.invariant
