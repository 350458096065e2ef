-- The path is the one that was handed over.
use Rattle.gix_glob_c.proofs.lemmas.ListsLemmas.{has_pattern}
use Rattle.gix_glob_c.proofs.tree.gix_glob_decide_in_tree.Goals as goal

pub returns-in_default-decide_in_tree_by-clause-exact : goal.returns-in_default-decide_in_tree_by-clause-exact
returns-in_default-decide_in_tree_by-clause-exact c = λ lawful path.
    rw c.reading_of_lists.ensures at (rw c.rules_of-rules.ensures at (rw c.in-Some.ensures.1 at (c.in_default-decide_in_tree_by.ensures.exact lawful)))

pub returns-clause-inside : goal.returns-clause-inside
returns-clause-inside c = λ there. has_pattern c.args.lists.now (c.in-Some-decide_in_tree_by.list, c.in-Some-decide_in_tree_by.pattern) c.in-Some-decide_in_tree_by.ensures.inside

pub returns-clause-exact : goal.returns-clause-exact
returns-clause-exact c = λ lawful path. rw c.reading_of_lists.ensures at (rw c.rules_of-rules.ensures at (rw c.in-Some.ensures.1 at (c.in-Some-decide_in_tree_by.ensures.exact lawful)))
