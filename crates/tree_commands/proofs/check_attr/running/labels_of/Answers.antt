-- The labels are those of the names.
use Rattle.std.proofs.Common.{◌≡◌, Bor, List, ℕ, IfOk, map, sym, subst, ◌∙◌}
use Rattle.std.specs.Vec.{vec_items}
use Rattle.tree_answers.specs.Attributes.{label_text}
use Rattle.tree_commands.specs.Private.AttributeAnswers.{labels_of}
use Rattle.tree_commands.specs.Private.AttributeWays.{asked_of}
use Rattle.tree_commands.proofs.lemmas.AttributeTexts.{if_gives, map_twice}
use Rattle.tree_commands.proofs.check_attr.running.labels_of.Goals as goal

pub returns-in-Names : goal.returns-in-Names
returns-in-Names c =
    subst (λ asked. IfOk c.label_each.result (λ labels. map vec_items labels.items ≡ labels_of c.args.form (asked_of asked))) (sym c.in-Names.is)
    (if_gives c.label_each.result _ _ (λ labels is. is ∙ sym (map_twice (label_text c.args.form) (λ (name : Bor (List ℕ)). name.now) c.in-Names.names.now)) c.label_each.ensures)
