-- No folder above the base is ignored.
use Rattle.std.proofs.Common.{◌≡◌, None, ap, subst, ◌∙◌, rules}
use borrow.Author.Tests.{tests}
use Rattle.glob_lists.specs.Paths.{Path}
use Rattle.glob_trees.specs.Trees.{HasNoneIgnored}
use Rattle.glob_lint.specs.Seen.{seen}
use Rattle.glob_lint.proofs.asked.AskedLists.has_free_base.Goals as goal

pub returns-in-Some : goal.returns-in-Some
returns-in-Some c = λ yes.
    let lists = seen c.args.self.now.lists.now in
    let none : c.ignored_folder_by.result ≡ None = search (rules, tests) in
    let free = rw none at (c.ignored_folder_by.ensures.exact tt) in
    subst (HasNoneIgnored lists c.args.self.now.rules) (ap (λ (path : Path). path.bytes) c.in-Some.ensures.1 ∙ c.base_of.ensures) free
