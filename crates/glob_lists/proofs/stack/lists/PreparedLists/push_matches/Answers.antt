-- A match more was found.
use Rattle.std.proofs.Common.{◌≡◌, ◌<◌, ◌+◌, ℕ, List, Some, ap, get_or, length, map, refl, sym, subst, arith}
use Rattle.std.specs.Prelude.{slice_get}
use Rattle.gix_glob.specs.EntryLists.{entry_list_of}
use Rattle.glob_lists.specs.Private.Stack.Finding.{AreFoundFrom}
use Rattle.glob_lists.proofs.lemmas.Stack.FoundPairs.{AreFoundFrom-end, AreFoundFrom-list, AreFoundFrom-match}
use Rattle.glob_lists.proofs.lemmas.Deciding.PairLemmas.{held_folder, held_there}
use Rattle.glob_lists.proofs.lemmas.Stack.StackLemmas.{held_rows}
use Rattle.glob_lists.proofs.stack.lists.PreparedLists.push_matches.Given.{Over}
use Rattle.glob_lists.proofs.stack.lists.PreparedLists.push_matches.Goals as goal
use Rattle.glob_lists.proofs.stack.lists.PreparedLists.push_matches.Goals.{After-index-self-i}

within : (g : Over) (c : After-index-self-i g) → c.args.i < length c.self.inside.lists.now
within g c = (let same = ap (λ (l : List _). length l) c.self.view_is in omega (arith, c.requires.inside))

-- the list is the one at its place
list_at : (g : Over) (c : After-index-self-i g) → slice_get (map (entry_list_of g.T.Pattern.seen) c.args.self.now) c.args.i ≡ Some (entry_list_of g.T.Pattern.seen (get_or c.self.inside.lists.now c.args.i c.index-self-i.result))
list_at g c =
    let there = held_there g.T.Pattern.seen c.self.inside.lists.now c.args.i c.index-self-i.result (within g c) in
    subst (λ (l : List _). slice_get (map (entry_list_of g.T.Pattern.seen) l) c.args.i ≡ Some (entry_list_of g.T.Pattern.seen (get_or c.self.inside.lists.now c.args.i c.index-self-i.result))) c.self.view_is there

pub rest-requires-clause-of : goal.rest-requires-clause-of
rest-requires-clause-of g c =
    held_rows g.T.Pattern.seen c.self.inside.lists.now c.args.i c.index-self-i.result (within g (goal.at.rest-requires-clause-of g c).After-index-self-i) c.self.inside.rows.items c.self.invariant
    c.index-rows.result.now c.index-rows.ensures

pub rest-requires-clause-folder : goal.rest-requires-clause-folder
rest-requires-clause-folder g c =
    held_folder g.T.Pattern.seen c.self.inside.lists.now c.args.i c.index-self-i.result (within g (goal.at.rest-requires-clause-folder g c).After-index-self-i) c.self.invariant.folders

pub walk-walk-requires : goal.walk-walk-requires
walk-walk-requires g c =
    held_rows g.T.Pattern.seen c.self.inside.lists.now c.args.i c.index-self-i.result (within g (goal.at.walk-walk-requires g c).After-index-self-i) c.self.inside.rows.items c.self.invariant
    c.index-rows.result.now c.index-rows.ensures

pub returns-in_default : goal.returns-in_default
returns-in_default g c =
    let lists = map (entry_list_of g.T.Pattern.seen) c.args.self.now in
    let path = c.args.question.now.path.now in
    let rules = c.args.question.now.rules in
    let list = entry_list_of g.T.Pattern.seen (get_or c.self.inside.lists.now c.args.i c.index-self-i.result) in
    let there = list_at g (goal.at.returns-in_default g c).After-index-self-i in
    AreFoundFrom-end lists path rules c.args.i list there (length list.entries) c.args.pairs.now.items (λ m low below. c.in_default.ensures.rest m)
    (AreFoundFrom-list lists path rules c.args.i list there (c.args.i + 1) (length list.entries) c.args.pairs.now.items refl (omega arith) c.requires.found)

pub matches-init : goal.matches-init
matches-init g c =
    let lists = map (entry_list_of g.T.Pattern.seen) c.args.self.now in
    let list = entry_list_of g.T.Pattern.seen (get_or c.self.inside.lists.now c.args.i c.index-self-i.result) in
    let after = (goal.at.matches-init g c).After-index-self-i in
    let are = held_rows g.T.Pattern.seen c.self.inside.lists.now c.args.i c.index-self-i.result (within g after) c.self.inside.rows.items c.self.invariant c.index-rows.result.now c.index-rows.ensures in
    record {
      walk = c.walk-walk.ensures.walk;
      found = AreFoundFrom-list lists c.args.question.now.path.now c.args.question.now.rules c.args.i list (list_at g after) (c.args.i + 1) c.walk-walk.result.passed_from c.args.pairs.now.items refl
          (omega (arith, c.walk-walk.ensures.all, are.asked.many)) c.requires.found;
    }

pub next_match-requires-clause-of : goal.next_match-requires-clause-of
next_match-requires-clause-of g c =
    held_rows g.T.Pattern.seen c.self.inside.lists.now c.args.i c.index-self-i.result (within g (goal.at.next_match-requires-clause-of g c).After-index-self-i) c.self.inside.rows.items c.self.invariant
    c.index-rows.result.now c.index-rows.ensures

pub next_match-requires-clause-folder : goal.next_match-requires-clause-folder
next_match-requires-clause-folder g c =
    held_folder g.T.Pattern.seen c.self.inside.lists.now c.args.i c.index-self-i.result (within g (goal.at.next_match-requires-clause-folder g c).After-index-self-i) c.self.invariant.folders

pub matches-preserved : goal.matches-preserved
matches-preserved g c =
    let lists = map (entry_list_of g.T.Pattern.seen) c.args.self.now in
    let path = c.args.question.now.path.now in
    let rules = c.args.question.now.rules in
    let list = entry_list_of g.T.Pattern.seen (get_or c.self.inside.lists.now c.args.i c.index-self-i.result) in
    record {
      walk = c.in-Some-next_match.ensures.walk;
      found = subst (λ (found : List (ℕ × ℕ)). AreFoundFrom lists path rules c.args.i c.next_match.new.walk.passed_from found) (sym c.in_ok-push.ensures.items)
          (AreFoundFrom-match lists path rules c.args.i list (list_at g (goal.at.matches-preserved g c).After-index-self-i) c.next_match.new.walk.passed_from c.matches.walk.passed_from c.in-Some-next_match.m c.matches.pairs.items
          c.in-Some-next_match.ensures.next c.matches.invariant.found);
    }

pub returns : goal.returns
returns g c =
    let lists = map (entry_list_of g.T.Pattern.seen) c.args.self.now in
    let list = entry_list_of g.T.Pattern.seen (get_or c.self.inside.lists.now c.args.i c.index-self-i.result) in
    AreFoundFrom-end lists c.args.question.now.path.now c.args.question.now.rules c.args.i list (list_at g (goal.at.returns g c).After-index-self-i) c.matches.walk.passed_from c.matches.pairs.items
    c.in_default-next_match.ensures.next c.matches.invariant.found
