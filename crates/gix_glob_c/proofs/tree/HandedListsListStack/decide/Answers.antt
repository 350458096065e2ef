-- The lists are gone through from the last one on.
use Rattle.std.proofs.Common.{◌≡◌, ◌+◌, ◌-◌, ◌<◌, length, map, slice_index_or, arith}
use Rattle.std.proofs.lemmas.List.Elements.{All-get_or}
use Rattle.glob_lists.proofs.lemmas.Deciding.DecidingLemmas.{Decides-found, Decides-none, NoListFrom-less}
use Rattle.gix_glob_c.specs.Lists.{IsLawfulList, entry_list}
use Rattle.gix_glob_c.proofs.lemmas.ListsLemmas.{blank_list, entry_list_at, has_entry}
use Rattle.gix_glob_c.proofs.tree.HandedListsListStack.decide.Goals as goal

pub returns-in-Some-clause-inside : goal.returns-in-Some-clause-inside
returns-in-Some-clause-inside c = has_entry c.args.self.now.lists.now (c.loop-i.i - 1) c.in-Some.m (omega arith) c.in-Some.ensures.folder c.in-Some.ensures.inside

pub returns-in-Some-clause-exact : goal.returns-in-Some-clause-exact
returns-in-Some-clause-exact c = λ lawful.
    let lists = c.args.self.now.lists.now in
    let at = c.loop-i.i - 1 in
    let within : at < length lists = omega arith in
    let next : c.loop-i.i ≡ at + 1 = omega arith in
    let found = c.in-Some.ensures.exact (All-get_or IsLawfulList lists at blank_list within lawful) in
    Decides-found (map entry_list lists) c.args.path.now.bytes c.args.path.now.is_dir c.args.rules c.loop-i.i at c.in-Some.m (entry_list (slice_index_or lists at blank_list)) next (entry_list_at lists at within)
    (c.loop-i.invariant lawful) found

pub loop-i-preserved : goal.loop-i-preserved
loop-i-preserved c = λ lawful.
    let lists = c.args.self.now.lists.now in
    let at = c.loop-i.i - 1 in
    let within : at < length lists = omega arith in
    let next : c.loop-i.i ≡ at + 1 = omega arith in
    let none = rw c.in_default.is at (c.last_match_under.ensures.exact (All-get_or IsLawfulList lists at blank_list within lawful)) in
    NoListFrom-less (map entry_list lists) c.args.path.now.bytes c.args.path.now.is_dir c.args.rules c.loop-i.i at (entry_list (slice_index_or lists at blank_list)) next (entry_list_at lists at within)
    (c.loop-i.invariant lawful) none

pub returns-clause-exact : goal.returns-clause-exact
returns-clause-exact c = λ lawful.
    Decides-none (map entry_list c.args.self.now.lists.now) c.args.path.now.bytes c.args.path.now.is_dir c.args.rules c.loop-i.i (omega arith) (c.loop-i.invariant lawful)
