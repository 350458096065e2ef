use Rattle.std.proofs.Common.{◌≡◌, ◌++◌, map, take}
use Rattle.std.specs.Io.{StartsWith}
use Rattle.std.specs.Vec.{vec_items}
use Rattle.tree_commands.specs.Private.AttributeAnswers.{unspecified_text}
use Rattle.tree_commands.proofs.check_attr.answering.append_unspecified.Given as goal

-- the answers of the labels so far were appended
abbrev pub invariant-labels : goal.invariant-labels
invariant-labels l =
    (l.text.items ≡ l.fn.text.items ++ unspecified_text l.form l.shown (map vec_items (take l.label-index l.labels)))
    × StartsWith l.text.items l.fn.text.items
