-- The line that decides is the one that was asked for.
use Rattle.std.proofs.Common.{◌≡◌, Some, not, subst}
use Rattle.glob_lint.specs.Private.Asking.{DecidesSo}
use Rattle.glob_lint.specs.Seen.{seen}
use Rattle.glob_lint.proofs.lemmas.Held.{same_pair, sign_of}
use Rattle.glob_lint.proofs.trying.sign_at.Goals as goal

pub returns : goal.returns
returns c =
    let lists = seen c.args.line.now.asked.now.lists.now in
    let rules = c.args.line.now.asked.now.rules in
    let by = c.in_ok-by.by in
    let there = c.in_ok-by.ensures.inside in
    let same : by ≡ c.args.line.now.pair = same_pair by c.args.line.now.pair c.if-by-line.false c.if-by-line-2.false in
    subst (λ pair. DecidesSo lists rules c.args.path.now (Some pair) (not c.is_negative.result)) same
    (record { decides = c.in_ok-by.ensures.decides; sign = sign_of lists by there c.is_negative.result (c.is_negative.ensures there.0 there.1) })
