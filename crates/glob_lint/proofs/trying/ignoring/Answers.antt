-- The line that decides about the folder tells.
use Rattle.std.proofs.Common.{sym, ◌∙◌}
use Rattle.glob_lists.proofs.lemmas.Deciding.DecidesOnce.{decides_once}
use Rattle.glob_trees.proofs.lemmas.Ignoring.{negative_keeps, none_ignores}
use Rattle.glob_lint.specs.Seen.{seen}
use Rattle.glob_lint.proofs.trying.ignoring.Goals as goal

pub returns-in_default-clause-exact : goal.returns-in_default-clause-exact
returns-in_default-clause-exact c =
    let none = rw c.in_default.is at (rw c.requires.dir at (c.decide.ensures.exact tt)) in
    none_ignores (seen c.args.asked.now.lists.now) c.args.asked.now.rules c.args.folder.now.bytes none

pub returns-then-is_negative-clause-exact : goal.returns-then-is_negative-clause-exact
returns-then-is_negative-clause-exact c =
    let there = c.in-Some.ensures.inside in
    let decides = rw c.requires.dir at (c.in-Some.ensures.exact tt) in
    let negative = sym (c.is_negative.ensures there.0 there.1) ∙ c.if-is_negative.true in
    negative_keeps (seen c.args.asked.now.lists.now) c.args.asked.now.rules c.args.folder.now.bytes c.in-Some.by decides there.1.list there.1.of_lists there.0 there.1.of_list decides_once negative
