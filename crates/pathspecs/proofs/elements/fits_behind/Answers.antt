use Rattle.pathspecs.proofs.lemmas.MeetingLemmas.{fits_by, fits_none}
use Rattle.pathspecs.proofs.elements.fits_behind.Goals as goal

pub returns-in-Some : goal.returns-in-Some
returns-in-Some c =
    fits_by c.args.magic c.args.path.now c.args.front.now c.args.pattern.now c.in-Some.rest.now c.splits.result
    (c.has_bytes.ensures.0 c.if-not-has_bytes.false) c.in-Some.ensures.0 c.in-Some.ensures.1 c.splits.ensures

pub returns-in-None : goal.returns-in-None
returns-in-None c = fits_none c.args.magic c.args.path.now c.args.front.now c.args.pattern.now c.in-None.ensures
