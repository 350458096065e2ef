-- What decides stands in the lists.
use Rattle.std.proofs.Common.{map}
use Rattle.gix_glob.specs.EntryLists.{entry_list_of}
use Rattle.glob_lists.specs.Deciding.{IsEntryAt}
use Rattle.tree_commands.proofs.files.ignoring.deciding.Goals as goal

pub pattern_at-requires : goal.pattern_at-requires
pattern_at-requires g c =
    let there = c.in-Some.ensures.answers in
    (there.answers.entry, record { list = there.list; of_lists = there.there; of_list = there.answers.there })

pub returns-in-Some : goal.returns-in-Some
returns-in-Some g c =
    let there = c.in-Some.ensures.answers in
    let at : IsEntryAt (map (entry_list_of g.T.Pattern.seen) c.args.lists.now) c.in-Some.pair there.answers.entry = record { list = there.list; of_lists = there.there; of_list = there.answers.there } in
    (there.answers.entry, record { pair = c.in-Some.pair; decides = rw c.by_git.ensures at c.in-Some.ensures; there = at }, c.pattern_at.ensures there.answers.entry at)

pub returns-in-None : goal.returns-in-None
returns-in-None g c = rw c.by_git.ensures at c.in-None.ensures
