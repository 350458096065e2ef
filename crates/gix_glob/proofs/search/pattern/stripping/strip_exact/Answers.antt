use Rattle.gix_glob.proofs.lemmas.Rests.{exact_answer}
use Rattle.gix_glob.proofs.search.pattern.stripping.strip_exact.Goals as goal

pub returns : goal.returns
returns c = exact_answer c.args.base.now c.args.path.now c.strip_prefix.result c.strip_prefix.ensures.cases
