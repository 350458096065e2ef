-- Nothing was read or written where memory was refused.
use Rattle.std.proofs.Common.{◌≡◌, ap, sym}
use Rattle.tree_answers.specs.Records.{IsTextOf}
use Rattle.tree_commands.specs.CheckAttr.{Query}
use Rattle.tree_commands.proofs.lemmas.AttributeRuns.{refused_run}
use Rattle.tree_commands.proofs.check_attr.running.run_question.Goals as goal

pub returns-in_default-front_lists : goal.returns-in_default-front_lists
returns-in_default-front_lists g c = refused_run (IsTextOf g.Q.Question.allows c.args.question.now.form) _ _ _ _ _ _ c.requires.readable c.requires.writable

pub returns-in_default-new : goal.returns-in_default-new
returns-in_default-new g c = refused_run (IsTextOf g.Q.Question.allows c.args.question.now.form) _ _ _ _ _ _ c.requires.readable c.requires.writable

pub returns-in_default-asker_of : goal.returns-in_default-asker_of
returns-in_default-asker_of g c = refused_run (IsTextOf g.Q.Question.allows c.args.question.now.form) _ _ _ _ _ _ c.requires.readable c.requires.writable

pub returns : goal.returns
returns g c = rw (sym c.in-Ok-asker_of.ensures.form) c.answer_records.ensures
