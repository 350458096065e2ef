-- What decides stands in the lists.
use Rattle.std.proofs.Common.{map}
use Rattle.gix_glob.specs.EntryLists.{entry_list_of}
use Rattle.glob_lists.proofs.lemmas.Deciding.DecidingLemmas.{Decides-inside}
use Rattle.glob_lists.proofs.deciding.RefSliceListListStack.decide.Goals as goal

pub returns-clause-inside : goal.returns-clause-inside
returns-clause-inside g c = Decides-inside (map (entry_list_of g.T.Pattern.seen) c.args.self.now.now) c.args.path.now.bytes c.args.path.now.is_dir c.args.rules c.decide_by.result c.decide_by.ensures
