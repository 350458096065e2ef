-- Each path that the line matches begins so, and lies below that folder.
use Rattle.std.proofs.Common.{◌≡◌, sym, ap, subst, ◌∙◌}
use Rattle.glob_lists.specs.Paths.{Path}
use Rattle.glob_lint.specs.Private.Beginnings.{BeginsAs, beginning_of}
use Rattle.glob_lint.specs.Seen.{seen}
use Rattle.glob_lint.proofs.lemmas.Beginning.{begins_so, below_folder}
use Rattle.glob_lint.proofs.lemmas.Held.{meets_here}
use Rattle.glob_lint.proofs.below.ignored_folder_of.Goals as goal

pub returns-in-Some-ignored_folder_by : goal.returns-in-Some-ignored_folder_by
returns-in-Some-ignored_folder_by c = λ path is_dir real h.
    let lists = seen c.args.asked.now.lists.now in
    let found = c.in-Some-ignored_folder_by.ensures.exact tt in
    let text = c.in-Some.path.bytes in
    let text_is : text ≡ beginning_of c.line_at.result = ap (λ (p : Path). p.bytes) c.in-Some.ensures.1 ∙ (c.deref.ensures.value ∙ c.in_ok-beginning.ensures) in
    let meets = meets_here lists c.args.pair c.line_at.result c.line_at.ensures c.args.asked.now.rules path is_dir h in
    let begins = begins_so c.args.asked.now.rules c.line_at.result path is_dir c.in-Git.is meets in
    below_folder lists c.args.asked.now.rules text path found.0.folder c.in-Some-ignored_folder_by.folder.pair (subst (λ t. BeginsAs c.args.asked.now.rules t path) (sym text_is) begins) found.0.above found.0.ignored
