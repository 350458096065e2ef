use Rattle.std.proofs.lemmas.Bool.{false≢true}
use Rattle.git_index.proofs.lemmas.Holding.{fits_by, fits_none}
use Rattle.git_index.proofs.patterns.fits.Goals as goal

pub returns-in-Some : goal.returns-in-Some
returns-in-Some c = fits_by c.args.path.now c.args.front.now c.args.pattern.now c.in-Some.rest.now c.matches_rest.result c.in-Some.ensures.cases.0 c.in-Some.ensures.cases.1 c.matches_rest.ensures

pub returns-in-None : goal.returns-in-None
returns-in-None c = (λ f. absurd (false≢true f), λ fits. absurd (fits_none c.args.path.now c.args.front.now c.args.pattern.now c.in-None.ensures.cases fits))
