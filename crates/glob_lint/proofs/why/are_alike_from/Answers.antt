-- Each line that matches stands in one of the lists.
use Rattle.std.proofs.Common.{◌<◌, ℕ, length, below_more, rules, arith}
use borrow.Author.Tests.{tests}
use Rattle.glob_lists.specs.Deciding.{HasEntryAt}
use Rattle.glob_lint.specs.Seen.{seen}
use Rattle.glob_lint.specs.Private.Reasons.{AlikeAt}
use Rattle.glob_lint.proofs.lemmas.Held.{stands, within_of_entry}
use Rattle.glob_lint.proofs.why.are_alike_from.Goals as goal

pub lists-preserved : goal.lists-preserved
lists-preserved c =
    let lists = seen c.args.lists.now in
    below_more (λ i. (m : ℕ) → HasEntryAt lists (i, m) → AlikeAt c.args.rules lists c.args.first c.args.pair (i, m)) c.lists.at c.lists.invariant (c.are_alike_in.ensures (search (rules, tests)))

pub returns : goal.returns
returns c = λ yes other later before path is_dir real h k.
    let there = stands (seen c.args.lists.now) other c.args.rules path is_dir k in
    let within : other.0 < length c.args.lists.now = within_of_entry c.args.lists.now other there in
    c.lists.invariant other.0 (omega arith) other.1 there later before path is_dir real h k
