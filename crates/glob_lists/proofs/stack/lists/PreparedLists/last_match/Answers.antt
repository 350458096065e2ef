-- The rows are those of the list at its place.
use Rattle.std.proofs.Common.{◌<◌, ◌∙◌, List, ap, get_or, length, map, sym, subst, arith}
use Rattle.std.proofs.lemmas.Option.{same_Some}
use Rattle.gix_glob.specs.EntryLists.{EntryList, entry_list_of}
use Rattle.glob_lists.specs.Private.Lists.Answering.{Spends}
use Rattle.glob_lists.specs.Private.Stack.Finding.{SpendsOnList}
use Rattle.glob_lists.proofs.lemmas.Lists.ListLemmas.{IsLastOfList-at}
use Rattle.glob_lists.proofs.lemmas.Deciding.PairLemmas.{held_folder, held_there}
use Rattle.glob_lists.proofs.lemmas.Stack.StackLemmas.{held_rows}
use Rattle.glob_lists.proofs.stack.lists.PreparedLists.last_match.Given.{Over}
use Rattle.glob_lists.proofs.stack.lists.PreparedLists.last_match.Goals as goal
use Rattle.glob_lists.proofs.stack.lists.PreparedLists.last_match.Goals.{After-index-self-i}

within : (g : Over) (c : After-index-self-i g) → c.args.i < length c.self.inside.lists.now
within g c = (let same = ap (λ (l : List _). length l) c.self.view_is in omega (arith, c.requires.inside))

pub last_match-requires-clause-of : goal.last_match-requires-clause-of
last_match-requires-clause-of g c =
    held_rows g.T.Pattern.seen c.self.inside.lists.now c.args.i c.index-self-i.result (within g (goal.at.last_match-requires-clause-of g c).After-index-self-i) c.self.inside.rows.items c.self.invariant
    c.index.result.now c.index.ensures

pub last_match-requires-clause-folder : goal.last_match-requires-clause-folder
last_match-requires-clause-folder g c =
    held_folder g.T.Pattern.seen c.self.inside.lists.now c.args.i c.index-self-i.result (within g (goal.at.last_match-requires-clause-folder g c).After-index-self-i) c.self.invariant.folders

pub returns-clause-last : goal.returns-clause-last
returns-clause-last g c =
    let there = held_there g.T.Pattern.seen c.self.inside.lists.now c.args.i c.index-self-i.result (within g (goal.at.returns-clause-last g c).After-index-self-i) in
    rw c.self.view_is at
    (IsLastOfList-at (map (entry_list_of g.T.Pattern.seen) c.self.inside.lists.now) c.args.question.now.path.now c.args.question.now.rules c.args.i
    (entry_list_of g.T.Pattern.seen (get_or c.self.inside.lists.now c.args.i c.index-self-i.result)) there c.last_match.result c.last_match.ensures.last)

pub returns-clause-spends : goal.returns-clause-spends
returns-clause-spends g c =
    let there = held_there g.T.Pattern.seen c.self.inside.lists.now c.args.i c.index-self-i.result (within g (goal.at.returns-clause-spends g c).After-index-self-i) in
    let list = entry_list_of g.T.Pattern.seen (get_or c.self.inside.lists.now c.args.i c.index-self-i.result) in
    let spends : SpendsOnList (map (entry_list_of g.T.Pattern.seen) c.self.inside.lists.now) c.args.i (length c.args.question.now.path.now.bytes) c.args.counts.now c.last_match.new.counts = λ other got.
    subst (λ (l : EntryList g.T.Pattern.Seen). Spends l (length c.args.question.now.path.now.bytes) c.args.counts.now c.last_match.new.counts) (same_Some list other (sym there ∙ got)) c.last_match.ensures.spends in
    rw c.self.view_is at spends
