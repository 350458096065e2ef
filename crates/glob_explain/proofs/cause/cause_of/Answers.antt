-- The folder above is asked for first, then the path by itself.
use Rattle.std.proofs.Common.{sym, ◌∙◌, rules}
use Rattle.glob_explain.specs.Causes.{seen}
use Rattle.glob_explain.proofs.lemmas.Signs.{negative_here, positive_here}
use Rattle.glob_explain.proofs.cause.cause_of.Goals as goal

pub returns-in-Some : goal.returns-in-Some
returns-in-Some c = let found = c.in-Some.ensures.exact tt in (found.0, found.1)

pub returns-in_default-decide : goal.returns-in_default-decide
returns-in_default-decide c = (rw c.in_default.is at (c.ignored_folder_by.ensures.exact tt), rw c.in_default-decide.is at (c.decide.ensures.exact tt))

pub returns-then-is_negative : goal.returns-then-is_negative
returns-then-is_negative c =
    let there = c.in-Some-decide.ensures.inside in
    let sign = sym (c.is_negative.ensures there.0 there.1) ∙ c.if-is_negative.true in
    let negative = negative_here (seen c.args.lists.now) c.in-Some-decide.pair there sign in
    (rw c.in_default.is at (c.ignored_folder_by.ensures.exact tt), c.in-Some-decide.ensures.exact tt, search rules)

pub returns : goal.returns
returns c =
    let there = c.in-Some-decide.ensures.inside in
    let sign = sym (c.is_negative.ensures there.0 there.1) ∙ c.if-is_negative.false in
    (rw c.in_default.is at (c.ignored_folder_by.ensures.exact tt), c.in-Some-decide.ensures.exact tt, positive_here (seen c.args.lists.now) c.in-Some-decide.pair there sign)
