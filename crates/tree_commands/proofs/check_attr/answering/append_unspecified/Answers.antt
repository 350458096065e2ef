use Rattle.std.proofs.Common.{◌++◌, ap, ◌∙◌}
use Rattle.glob_attributes.specs.declared.assignment.State.TheVariants.{Unspecified}
use Rattle.tree_answers.specs.Attributes.{answer_text}
use Rattle.tree_commands.proofs.lemmas.AttributeTexts.{front_of_front, unspecified_more}
use Rattle.tree_commands.proofs.check_attr.answering.append_unspecified.Goals as goal

pub labels-preserved : goal.labels-preserved
labels-preserved c = (
  unspecified_more c.args.form c.args.shown.now c.args.labels.now c.labels.label-index c.label-item.result c.args.text.now.items c.labels.text.items _
      c.labels-test.true c.label-item.is c.labels.invariant.0
      (c.in_ok-append_answer.ensures.written ∙ ap (λ l. c.labels.text.items ++ answer_text c.args.form c.args.shown.now l Unspecified) c.deref.ensures.value),
  front_of_front _ _ _ c.labels.invariant.1 c.append_answer.ensures.kept,
)
