-- The list at the place is asked.
use Rattle.std.proofs.Common.{◌<◌, get_or, length, map, sym, subst, ◌∙◌, arith}
use Rattle.std.proofs.lemmas.List.{length-map}
use Rattle.std.proofs.lemmas.Option.{same_Some}
use Rattle.gix_glob.specs.EntryLists.{EntryList, entry_list_of}
use Rattle.glob_lists.specs.Private.Lists.Answering.{Spends}
use Rattle.glob_lists.proofs.lemmas.Deciding.PairLemmas.{held_folder, held_there}
use Rattle.glob_lists.proofs.lemmas.Lists.ListLemmas.{IsLastOfList-at}
use Rattle.glob_lists.proofs.stack.changing.AskedAskedLists.last_match.Given.{Over}
use Rattle.glob_lists.proofs.stack.changing.AskedAskedLists.last_match.Goals as goal
use Rattle.glob_lists.proofs.stack.changing.AskedAskedLists.last_match.Goals.{After-index-self-i}

within : (g : Over) (c : After-index-self-i g) → c.args.i < length c.args.self.now.lists.now
within g c = omega (arith, length-map c.args.self.now.lists.now (entry_list_of g.T.Pattern.seen), c.requires.inside)

pub last_match-requires-clause-folder : goal.last_match-requires-clause-folder
last_match-requires-clause-folder g c =
    held_folder g.T.Pattern.seen c.args.self.now.lists.now c.args.i c.index-self-i.result (within g (goal.at.last_match-requires-clause-folder g c).After-index-self-i) c.requires.can.0

pub returns-clause-last : goal.returns-clause-last
returns-clause-last g c =
    let there = held_there g.T.Pattern.seen c.args.self.now.lists.now c.args.i c.index-self-i.result (within g (goal.at.returns-clause-last g c).After-index-self-i) in
    IsLastOfList-at (map (entry_list_of g.T.Pattern.seen) c.args.self.now.lists.now) c.args.self.now.question.now.path.now c.args.self.now.question.now.rules c.args.i
    (entry_list_of g.T.Pattern.seen (get_or c.args.self.now.lists.now c.args.i c.index-self-i.result)) there c.last_match.result c.last_match.ensures.last

pub returns-clause-spends : goal.returns-clause-spends
returns-clause-spends g c = λ other got.
    let list = entry_list_of g.T.Pattern.seen (get_or c.args.self.now.lists.now c.args.i c.index-self-i.result) in
    let there = held_there g.T.Pattern.seen c.args.self.now.lists.now c.args.i c.index-self-i.result (within g (goal.at.returns-clause-spends g c).After-index-self-i) in
    subst (λ (l : EntryList g.T.Pattern.Seen). Spends l (length c.args.self.now.question.now.path.now.bytes) c.args.counts.now c.last_match.new.counts) (same_Some list other (sym there ∙ got)) c.last_match.ensures.spends
