-- The list at the place is asked.
use Rattle.std.proofs.Common.{◌+◌, ◌<◌, ◌≤◌, get_or, length, map, sym, subst, ◌∙◌, arith}
use Rattle.std.proofs.lemmas.List.{length-map}
use Rattle.std.proofs.lemmas.Option.{same_Some}
use Rattle.gix_glob.specs.EntryLists.{EntryList, entry_list_of}
use Rattle.glob_lists.specs.DecisionLimits.{list_look_limit}
use Rattle.glob_lists.specs.Private.Asked.{SpendsWith}
use Rattle.glob_lists.proofs.lemmas.Deciding.PairLemmas.{held_folder, held_there}
use Rattle.glob_lists.proofs.lemmas.Lists.ListLemmas.{IsLastOfList-at}
use Rattle.glob_lists.proofs.deciding.AskedAskedLists.last_match.Given.{Over}
use Rattle.glob_lists.proofs.deciding.AskedAskedLists.last_match.Goals as goal
use Rattle.glob_lists.proofs.deciding.AskedAskedLists.last_match.Goals.{After-index-self-i}

within : (g : Over) (c : After-index-self-i g) → c.args.i < length c.args.self.now.lists.now
within g c = omega (arith, length-map c.args.self.now.lists.now (entry_list_of g.T.Pattern.seen), c.requires.inside)

pub last_match-requires : goal.last_match-requires
last_match-requires g c =
    let at = (goal.at.last_match-requires g c).After-index-self-i in
    record { folder = held_folder g.T.Pattern.seen c.args.self.now.lists.now c.args.i c.index-self-i.result (within g at) c.requires.can }

pub returns-clause-last : goal.returns-clause-last
returns-clause-last g c =
    let there = held_there g.T.Pattern.seen c.args.self.now.lists.now c.args.i c.index-self-i.result (within g (goal.at.returns-clause-last g c).After-index-self-i) in
    IsLastOfList-at (map (entry_list_of g.T.Pattern.seen) c.args.self.now.lists.now) c.args.self.now.path.now c.args.self.now.rules c.args.i
    (entry_list_of g.T.Pattern.seen (get_or c.args.self.now.lists.now c.args.i c.index-self-i.result)) there c.last_match.result c.last_match.ensures.last

pub returns-clause-spends : goal.returns-clause-spends
returns-clause-spends g c = λ other got.
    let v = length c.args.self.now.path.now.bytes in
    let list = entry_list_of g.T.Pattern.seen (get_or c.args.self.now.lists.now c.args.i c.index-self-i.result) in
    let there = held_there g.T.Pattern.seen c.args.self.now.lists.now c.args.i c.index-self-i.result (within g (goal.at.returns-clause-spends g c).After-index-self-i) in
    let looks : c.last_match.new.counts.looks ≤ c.args.counts.now.looks + list_look_limit list v = c.last_match.ensures.looks in
    let spends : SpendsWith list 0 v c.args.counts.now c.last_match.new.counts = record { steps = c.last_match.ensures.steps; looks = omega (arith, looks); grows = c.last_match.ensures.grows } in
    subst (λ (l : EntryList g.T.Pattern.Seen). SpendsWith l 0 v c.args.counts.now c.last_match.new.counts) (same_Some list other (sym there ∙ got)) spends
