use Rattle.pathspecs.proofs.lemmas.MeetingLemmas.{has_bytes_by}
use Rattle.pathspecs.proofs.elements.has_bytes.Goals as goal

pub returns : goal.returns
returns c = has_bytes_by c.args.text.now c.is_empty.result c.is_empty.ensures
