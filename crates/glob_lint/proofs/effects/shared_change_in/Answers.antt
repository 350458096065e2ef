-- Each line of the list stands in it.
use Rattle.std.proofs.Common.{◌<◌, length, subst}
use Rattle.glob_lint.proofs.lemmas.Held.{has_entry}
use Rattle.glob_lint.proofs.effects.shared_change_in.Goals as goal

pub other_samples-requires-clause-there : goal.other_samples-requires-clause-there
other_samples-requires-clause-there c =
    let read = subst (λ xs. c.lines.place < length xs) c.as_slice-patterns.ensures.value c.lines-test.true in
    has_entry c.args.line.now.asked.now.lists.now (c.args.at, c.lines.place) c.index-line-at.result c.index-line-at.is c.requires.inside read
