use Rattle.std.proofs.lemmas.Bool.{false≢true}
use Rattle.git_index.proofs.lemmas.Search.{below_by, not_below}
use Rattle.git_index.proofs.search.is_below.Goals as goal

pub returns-in_default : goal.returns-in_default
returns-in_default c = (λ f. absurd (false≢true f), λ goes. absurd (not_below c.args.path.now c.args.folder.now c.in_default.ensures.cases goes))

pub returns : goal.returns
returns c = below_by c.args.path.now c.args.folder.now c.in-Some.rest.now c.starts_with.result c.in-Some.ensures.cases.0 c.in-Some.ensures.cases.1 c.starts_with.ensures.value
