-- The lists are gone through from the last one on.
use Rattle.std.proofs.Common.{◌≡◌, ◌+◌, ◌-◌, ◌<◌, length, map, Some, arith}
use Rattle.std.specs.Prelude.{slice_get}
use Rattle.gix_glob.specs.EntryLists.{entry_list_of}
use Rattle.gix_glob.proofs.lemmas.Elements.{slice_get-map_at}
use Rattle.tree_commands.proofs.lemmas.TopLemmas.{DecidesForTop-found, DecidesForTop-none, NoListFrom-less}
use Rattle.tree_commands.proofs.check_ignore.top.deciding_for_top.Given.{Over}
use Rattle.tree_commands.proofs.check_ignore.top.deciding_for_top.Goals as goal
use Rattle.tree_commands.proofs.check_ignore.top.deciding_for_top.Goals.{After-index-lists-place}

-- the list that was asked stands at its place
asked_list : (g : Over) (c : After-index-lists-place g) → slice_get (map (entry_list_of g.T.Pattern.seen) c.args.lists.now) (c.loop-place.place - 1) ≡ Some (entry_list_of g.T.Pattern.seen c.index-lists-place.result)
asked_list g c =
    let at = c.loop-place.place - 1 in
    let within : at < length c.args.lists.now = omega arith in
    slice_get-map_at (entry_list_of g.T.Pattern.seen) c.args.lists.now at c.index-lists-place.result within c.index-lists-place.is

pub returns-in-Some : goal.returns-in-Some
returns-in-Some g c =
    let there = asked_list g (goal.at.returns-in-Some g c).After-index-lists-place in
    let at = c.loop-place.place - 1 in
    let next : c.loop-place.place ≡ at + 1 = omega arith in
    let found = rw c.list-list.ensures at c.in-Some.ensures in
    DecidesForTop-found (map (entry_list_of g.T.Pattern.seen) c.args.lists.now) c.args.rules c.loop-place.place at c.in-Some.last (entry_list_of g.T.Pattern.seen c.index-lists-place.result) next there c.loop-place.invariant found

pub loop-place-preserved : goal.loop-place-preserved
loop-place-preserved g c =
    let there = asked_list g (goal.at.loop-place-preserved g c).After-index-lists-place in
    let at = c.loop-place.place - 1 in
    let next : c.loop-place.place ≡ at + 1 = omega arith in
    let none = rw c.list-list.ensures at (rw c.in_default.is at c.last_for_top.ensures) in
    NoListFrom-less (map (entry_list_of g.T.Pattern.seen) c.args.lists.now) c.args.rules c.loop-place.place at (entry_list_of g.T.Pattern.seen c.index-lists-place.result) next there c.loop-place.invariant none

pub returns : goal.returns
returns g c = DecidesForTop-none (map (entry_list_of g.T.Pattern.seen) c.args.lists.now) c.args.rules c.loop-place.place (omega arith) c.loop-place.invariant
