use Rattle.pathspecs.proofs.lemmas.MeetingLemmas.{begins_by}
use Rattle.pathspecs.proofs.elements.begins_so.Goals as goal

pub returns : goal.returns
returns c = begins_by c.args.icase c.args.path.now c.args.front.now c.behind.result c.is_some.result c.is_some.ensures c.behind.ensures
