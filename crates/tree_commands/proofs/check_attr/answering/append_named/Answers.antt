use Rattle.std.proofs.Common.{◌++◌, [], ap, ◌∙◌}
use Rattle.glob_attributes.specs.Views.{state_with}
use Rattle.tree_answers.specs.Attributes.{answer_text}
use Rattle.tree_commands.proofs.lemmas.AttributeTexts.{front_of_front, named_more}
use Rattle.tree_commands.proofs.check_attr.answering.append_named.Goals as goal

pub names-preserved : goal.names-preserved
names-preserved c = (
  named_more c.args.form c.args.shown.now c.args.assigned.now c.args.names.now c.args.labels.now c.names.place (record { ref_ptr = (0, 0); now = [] }) c.index-labels-place.result (state_with (λ bytes. bytes.now) c.state_of-state.result) c.args.text.now.items c.names.text.items _
      c.names-test.true c.requires c.index-labels-place.is c.state_of-state.ensures c.names.invariant.0
      (c.in_ok-append_answer.ensures.written ∙ ap (λ l. c.names.text.items ++ answer_text c.args.form c.args.shown.now l (state_with (λ bytes. bytes.now) c.state_of-state.result)) c.deref.ensures.value),
  front_of_front _ _ _ c.names.invariant.1 c.append_answer.ensures.kept,
)
