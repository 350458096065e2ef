-- A line that matches the same and isn't negative can't come before.
use Rattle.std.proofs.Common.{sym, ◌∙◌}
use Rattle.glob_lint.specs.Seen.{seen}
use Rattle.glob_lint.proofs.lemmas.Going.{comes_later}
use Rattle.glob_lint.proofs.why.takes_nothing_back.Goals as goal

pub returns-then-is_negative : goal.returns-then-is_negative
returns-then-is_negative c = λ yes.
    let there = c.requires in
    comes_later c.args.rules (seen c.args.lists.now) c.args.pair there (sym (c.is_negative.ensures there.0 there.1) ∙ c.if-is_negative.true) (c.are_alike_from.ensures yes)
