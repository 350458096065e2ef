use Rattle.std.proofs.Common.{◌≡◌, map, take}
use Rattle.std.specs.Vec.{vec_items}
use Rattle.tree_answers.specs.Attributes.{label_text}
use Rattle.tree_commands.proofs.check_attr.running.label_each.Given as goal

-- the labels of the names so far
abbrev pub invariant-loop-name : goal.invariant-loop-name
invariant-loop-name l = map vec_items l.labels.items ≡ map (λ name. label_text l.form name.now) (take l.name-index l.names)
