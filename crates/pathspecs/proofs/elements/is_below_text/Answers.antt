use Rattle.pathspecs.proofs.lemmas.MeetingLemmas.{below_by, not_below}
use Rattle.pathspecs.proofs.elements.is_below_text.Goals as goal

pub returns-in-Some : goal.returns-in-Some
returns-in-Some c =
    below_by c.args.icase c.args.path.now c.args.text.now c.in-Some.rest.now c.is_below.result c.in-Some.ensures.0 c.in-Some.ensures.1 c.is_below.ensures

pub returns-in-None : goal.returns-in-None
returns-in-None c = not_below c.args.icase c.args.path.now c.args.text.now c.in-None.ensures
