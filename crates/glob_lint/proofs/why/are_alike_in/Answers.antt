-- Each line of the list stands in it, and was tested.
use Rattle.std.proofs.Common.{◌<◌, length, below_more, sym, subst, rules, arith}
use borrow.Author.Tests.{tests}
use Rattle.glob_lint.specs.Seen.{seen}
use Rattle.glob_lint.specs.Private.Reasons.{AlikeAt}
use Rattle.glob_lint.proofs.lemmas.Held.{has_entry, inside}
use Rattle.glob_lint.proofs.why.are_alike_in.Goals as goal

pub is_alike-requires-clause-here : goal.is_alike-requires-clause-here
is_alike-requires-clause-here c =
    let held = c.index-lists-at.result in
    let read = subst (λ xs. c.lines.place < length xs) c.as_slice-patterns.ensures.value c.lines-test.true in
    has_entry c.args.lists.now (c.args.at, c.lines.place) held c.index-lists-at.is c.requires.inside read

pub returns : goal.returns
returns c = λ yes m there.
    let held = c.index-lists-at.result in
    let within = inside c.args.lists.now (c.args.at, m) held c.index-lists-at.is there in
    let below : m < length c.as_slice-patterns.result.now = subst (λ xs. m < length xs) (sym c.as_slice-patterns.ensures.value) within in
    c.lines.invariant m (omega arith)

pub lines-preserved : goal.lines-preserved
lines-preserved c =
    below_more (λ m. AlikeAt c.args.rules (seen c.args.lists.now) c.args.first c.args.pair (c.args.at, m)) c.lines.place c.lines.invariant (c.is_alike.ensures (search (rules, tests)))
