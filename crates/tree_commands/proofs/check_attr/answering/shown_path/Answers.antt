use Rattle.std.proofs.Common.{sym}
use Rattle.tree_answers.proofs.lemmas.NameLemmas.{usual_name_text}
use Rattle.tree_commands.proofs.check_attr.answering.shown_path.Goals as goal

pub returns-then-is_usual : goal.returns-then-is_usual
returns-then-is_usual c = sym (usual_name_text c.args.form c.args.told.now (c.requires c.if-is_usual.true))
