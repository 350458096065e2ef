-- The pattern that decides about the folder tells.
use Rattle.std.proofs.Common.{sym, ◌∙◌}
use Rattle.glob_lists.proofs.lemmas.Deciding.DecidesOnce.{decides_once}
use Rattle.glob_trees.proofs.lemmas.Ignoring.{negative_keeps, none_ignores, positive_ignores}
use Rattle.glob_trees.proofs.deciding.ignoring.Goals as goal

pub returns-in_default-clause-exact : goal.returns-in_default-clause-exact
returns-in_default-clause-exact g c = λ lawful.
    let none = rw c.in_default.is at (rw c.requires.dir at (c.decide.ensures.exact lawful)) in
    none_ignores _ c.args.rules c.args.folder.now.bytes none

pub returns-then-is_negative-clause-exact : goal.returns-then-is_negative-clause-exact
returns-then-is_negative-clause-exact g c = λ lawful.
    let there = c.in-Some.ensures.inside in
    let decides = rw c.requires.dir at (c.in-Some.ensures.exact lawful) in
    let negative = sym (c.is_negative.ensures there.0 there.1) ∙ c.if-is_negative.true in
    negative_keeps (g.L.ListStack.lists c.args.lists.now) c.args.rules c.args.folder.now.bytes c.in-Some.pair decides there.1.list there.1.of_lists there.0 there.1.of_list decides_once negative

pub returns-clause-exact : goal.returns-clause-exact
returns-clause-exact g c = λ lawful.
    let there = c.in-Some.ensures.inside in
    let decides = rw c.requires.dir at (c.in-Some.ensures.exact lawful) in
    let positive = sym (c.is_negative.ensures there.0 there.1) ∙ c.if-is_negative.false in
    positive_ignores (g.L.ListStack.lists c.args.lists.now) c.args.rules c.args.folder.now.bytes c.in-Some.pair decides there.1.list there.1.of_lists there.0 there.1.of_list positive
