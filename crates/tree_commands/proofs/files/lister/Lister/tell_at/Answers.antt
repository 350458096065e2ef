use Rattle.std.proofs.Common.{ap, ◌∙◌}
use Rattle.std.proofs.lemmas.Result.{IfOk-weaker}
use Rattle.tree_commands.specs.Private.Listing.{terms_of}
use Rattle.tree_commands.proofs.lemmas.ListsLemmas.{seen_as_many}
use Rattle.tree_commands.proofs.lemmas.PathLemmas.{start_marked}
use Rattle.tree_commands.proofs.lemmas.TellingLemmas.{asked_and_entered, asked_and_told, asked_by_search, named_beside, told_once}
use Rattle.tree_commands.proofs.files.lister.Lister.tell_at.Goals as goal

pub returns-in_err-is_all_ignored-clause-asks : goal.returns-in_err-is_all_ignored-clause-asks
returns-in_err-is_all_ignored-clause-asks g c = asked_by_search c.is_all_ignored.ensures.asks

pub tell_once-requires-clause-folders : goal.tell_once-requires-clause-folders
tell_once-requires-clause-folders g c = rw c.in_ok-is_all_ignored.ensures.lists c.requires.folders

pub tell_once-requires-clause-may : goal.tell_once-requires-clause-may
tell_once-requires-clause-may g c = rw c.is_all_ignored.ensures.terms c.requires.may

pub tell_once-requires-clause-count : goal.tell_once-requires-clause-count
tell_once-requires-clause-count g c = c.requires.count ∙ seen_as_many _ _ c.in_ok-is_all_ignored.ensures.lists

pub returns-then-not-is_all_ignored-clause-steps : goal.returns-then-not-is_all_ignored-clause-steps
returns-then-not-is_all_ignored-clause-steps g c =
    IfOk-weaker c.tell_once.result _ _
    (λ told steps. told_once c.is_all_ignored.ensures.stays (ap terms_of c.is_all_ignored.ensures.terms) c.in_ok-is_all_ignored.ensures.lists (ap (λ ps. ps.items) c.is_all_ignored.ensures.pending) c.args.next
    c.in_ok-is_all_ignored.ensures.ignored c.if-not-is_all_ignored.true steps)
    c.tell_once.ensures.steps

pub returns-then-not-is_all_ignored-clause-asks : goal.returns-then-not-is_all_ignored-clause-asks
returns-then-not-is_all_ignored-clause-asks g c =
    asked_and_told c.is_all_ignored.ensures.asks c.is_all_ignored.ensures.stays (ap terms_of c.is_all_ignored.ensures.terms) c.in_ok-is_all_ignored.ensures.lists c.tell_once.ensures.asks

pub enter_beside-requires-clause-folders : goal.enter_beside-requires-clause-folders
enter_beside-requires-clause-folders g c = rw c.in_ok-is_all_ignored.ensures.lists c.requires.folders

pub enter_beside-requires-clause-may : goal.enter_beside-requires-clause-may
enter_beside-requires-clause-may g c = rw c.is_all_ignored.ensures.terms c.requires.may

pub enter_beside-requires-clause-ends : goal.enter_beside-requires-clause-ends
enter_beside-requires-clause-ends g c =
    let may = c.in_ok-is_all_ignored.ensures.may c.if-not-is_all_ignored.false in
    record { front = may.0; joined = may.1 ∙ start_marked may.0 may.2.below }

pub returns-in_err-enter_beside-clause-asks : goal.returns-in_err-enter_beside-clause-asks
returns-in_err-enter_beside-clause-asks g c = asked_and_entered c.is_all_ignored.ensures.asks c.enter_beside.ensures.asks

pub returns-clause-steps : goal.returns-clause-steps
returns-clause-steps g c =
    named_beside c.is_all_ignored.ensures.stays (ap terms_of c.is_all_ignored.ensures.terms) c.in_ok-is_all_ignored.ensures.lists (ap (λ ps. ps.items) c.is_all_ignored.ensures.pending) c.args.next
    c.in_ok-is_all_ignored.ensures.ignored c.if-not-is_all_ignored.false (c.in_ok-is_all_ignored.ensures.may c.if-not-is_all_ignored.false) c.in_ok-enter_beside.ensures.enters

pub returns-clause-stays : goal.returns-clause-stays
returns-clause-stays g c = λ tree known. c.enter_beside.ensures.stays tree (c.is_all_ignored.ensures.stays tree known)

pub returns-clause-asks : goal.returns-clause-asks
returns-clause-asks g c = asked_and_entered c.is_all_ignored.ensures.asks c.enter_beside.ensures.asks
