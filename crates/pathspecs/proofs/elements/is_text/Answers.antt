use Rattle.pathspecs.proofs.lemmas.MeetingLemmas.{text_by}
use Rattle.pathspecs.proofs.elements.is_text.Goals as goal

pub returns : goal.returns
returns c = text_by c.args.icase c.args.path.now c.args.text.now c.are_alike.result c.are_alike.ensures
