-- Usual names that are told from the top are the path itself.
use Rattle.tree_commands.proofs.lemmas.AttributeTold.{usual_file, usual_led}
use Rattle.tree_commands.proofs.check_attr.answering.AttributeAsker.answer.Goals as goal

pub answer_usual-requires-clause-leads : goal.answer_usual-requires-clause-leads
answer_usual-requires-clause-leads g c =
    let at_top = c.is_at_top.ensures.0 c.if-is_at_top.true in
    usual_led c.args.told.now.bytes.now (c.args.told.now.plain c.if-told.true) (c.args.told.now.leads c.if-told.true) c.args.self.now.standpoint.now at_top.0 at_top.1

pub answer_usual-requires-clause-file : goal.answer_usual-requires-clause-file
answer_usual-requires-clause-file g c = usual_file c.args.told.now.bytes.now (c.args.told.now.plain c.if-told.true) (c.args.told.now.leads c.if-told.true)
