-- Where the path lies right in the folder entered last, all folders on its way are entered, and none of them is ignored.
use Rattle.std.proofs.Common.{inr, map}
use Rattle.gix_glob.specs.EntryLists.{entry_list_of}
use Rattle.glob_trees.specs.Private.Entered.{own_lists}
use Rattle.glob_trees.proofs.lemmas.Stepping.{arrived}
use Rattle.glob_trees.proofs.entered.Entered.find.Goals as goal

pub returns-then-is_in_folder_of-clause-decides : goal.returns-then-is_in_folder_of-clause-decides
returns-then-is_in_folder_of-clause-decides g c =
    let under = c.is_in_folder_of.ensures c.if-is_in_folder_of.true in
    inr (under.stands.none, rw c.deref.ensures.value at c.decide_prepared.ensures)

pub returns-then-is_in_folder_of-clause-way : goal.returns-then-is_in_folder_of-clause-way
returns-then-is_in_folder_of-clause-way g c =
    let under = c.is_in_folder_of.ensures c.if-is_in_folder_of.true in
    arrived (g.S.FolderLists.shows g.T.Pattern.Seen c.args.self.now.source) c.args.self.now.front_count (map (entry_list_of g.T.Pattern.seen) c.args.self.now.lists.items) c.args.self.now.rules
    c.args.path.now.bytes (own_lists under.facts c.args.self.now.way.items) under.stands
